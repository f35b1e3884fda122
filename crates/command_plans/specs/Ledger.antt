-- What a call did to an object of the outside, as one fact on its state before and after.
use Rattle.std.specs.Prelude.{◌≡◌, ℕ, zero, suc, ◌+◌, ◌-◌, ◌^◌, ◌<◌, ◌≤◌, max, min, Bool, true, false}
use Rattle.arch_disk.specs.Disk.{Device, raised}
use Rattle.outer_traits.specs.Outside.{HasRisen, Stays, StaysKnown}
use Rattle.outer_traits.specs.States.{InputsState, OutputState, ClockState}

-- ---- counts

-- a count of faults has risen where a call failed, and else is what it was before
abbrev pub Counted : Bool → ℕ → ℕ → Type 0
Counted true before now = (before ≤ now) × HasRisen before now
Counted false before now = Stays before now

-- a disk's count of faults has risen where a call failed, and else is what it was before
abbrev pub RoseIf : Bool → ℕ → ℕ → Type 0
RoseIf true before now = raised before ≤ now
RoseIf false before now = Stays before now

-- so many times one more, up to the counter's last value
abbrev pub raised_by : ℕ → ℕ → ℕ
raised_by zero count = count
raised_by (suc n) count = raised (raised_by n count)

-- so many more, up to the counter's last value: none leaves any count as it is
abbrev pub given_more : ℕ → ℕ → ℕ
given_more zero count = count
given_more (suc n) count = min (count + suc n) (2 ^ 64 - 1)

-- ---- inputs

-- What a call did to inputs that gave so many sources, by whether a call of them failed: each source is closed again,
-- also where all of them were open at once, and the files are as they were.
pub record UsedInputs (old new : InputsState) (sources : ℕ) (failed : Bool) : Type 0 where
  pub files : new.files ≡ old.files
  pub closed : old.open_sources + max 1 sources < 2 ^ 64 → new.open_sources ≡ old.open_sources
  pub gave : new.given ≡ given_more sources old.given
  pub counted : Counted failed old.faults new.faults
  pub reliable : old.never_fails → new.never_fails × (new.faults ≡ old.faults)

-- ---- an output

-- What a call did to an output's count of faults, by whether a write failed.
pub record UsedOutput (old new : OutputState) (failed : Bool) : Type 0 where
  pub counted : Counted failed old.faults new.faults

-- ---- a disk

-- What a call did to a disk's counts: that of faults rose where the call answers that the disk failed, and nowhere
-- else; of its writes at least `fewest` failed, and at most `most`.
pub record UsedDisk {D : Type 0} (device : Device D) (old new : D) (failed : Bool) (fewest most : ℕ) : Type 0 where
  pub faults : RoseIf failed (device.fault_count old) (device.fault_count new)
  pub writes : (n : ℕ) × (fewest ≤ n) × (n ≤ most) × (device.failed_writes new ≡ raised_by n (device.failed_writes old))

-- what a call did to a disk's counts in which no write of the disk failed
abbrev pub UsedWithoutFailedWrite : {D : Type 0} → Device D → D → D → Bool → Type 0
UsedWithoutFailedWrite device old new failed = UsedDisk device old new failed 0 0

-- what a call did to a disk's counts in which no more than so many writes of the disk failed
abbrev pub WritesFailedAtMost : {D : Type 0} → ℕ → Device D → D → D → Bool → Type 0
WritesFailedAtMost most device old new failed = UsedDisk device old new failed 0 most

-- ---- a clock

-- What a call did to a clock: its next moment is known where it was, and a clock that stands still goes on standing at
-- the same moment.
pub record UsedClock (old new : ClockState) : Type 0 where
  pub known : StaysKnown old.next new.next
  pub stands : old.stands → new.stands × (new.next ≡ old.next)
