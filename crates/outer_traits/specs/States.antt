-- What is known of an object of the outside, as one state.
use Rattle.std.specs.Prelude.{◌≡◌, ℕ, ℤ, ◌-◌, List, Option}
use Rattle.outer_traits.specs.Outside.{Files, one_more}

-- what is known of inputs: the octets of each name, how many sources are open and how many they have given, each up to the counter's last value, how
-- often they have failed, a source that had failed when it was closed counted too, and whether they never do, as inputs in memory
pub record InputsState : Type 1 where
  pub files : Option Files
  pub open_sources : ℕ
  pub given : ℕ
  pub faults : ℕ
  pub never_fails : Type 0

-- one source more was given, and is open
abbrev pub GaveOne : InputsState → InputsState → Type 0
GaveOne old new = (new.open_sources ≡ one_more old.open_sources) × (new.given ≡ one_more old.given)

-- no source was given, and none closed
abbrev pub GaveNone : InputsState → InputsState → Type 0
GaveNone old new = (new.open_sources ≡ old.open_sources) × (new.given ≡ old.given)

-- one source was closed, and none given
abbrev pub ClosedOne : InputsState → InputsState → Type 0
ClosedOne old new = (new.open_sources ≡ old.open_sources - 1) × (new.given ≡ old.given)

-- what is known of a source: the octets that are left, how often it has failed, and whether it never does, as a source in memory
pub record SourceState : Type 1 where
  pub left : Option (List ℕ)
  pub faults : ℕ
  pub never_fails : Type 0

-- what is known of an output: the octets that were written to it, and how often it has failed
pub record OutputState : Type 0 where
  pub written : Option (List ℕ)
  pub faults : ℕ

-- what is known of a clock: the moment that comes next, and whether it stands still, as a clock in memory
pub record ClockState : Type 1 where
  pub next : Option ℤ
  pub stands : Type 0
