-- What the values of a disk in memory mean, which of its calls fail, and what is kept of each.
use Rattle.std.specs.Prelude.{◌≡◌, ℕ, ◌+◌, ◌-◌, ◌^◌, min, Bool, true, List, ◌∷◌, length, ◌==◌}
use Rattle.std.specs.List.{list_any}
use Rattle.arch_disk.specs.declared.call_log.Call.{Call}
use Rattle.arch_disk.specs.declared.call_log.Write.{Write}
use Rattle.arch_disk.specs.declared.memory.MemDisk.{MemDisk}
use Rattle.arch_disk.specs.Disk.{Device}
use Rattle.arch_disk.specs.CallLog.{reads_of, images_of, since_of}
use Rattle.arch_disk.specs.Laws.{now_counts, only_now, reads_as_image, lengths_fit}

-- it tells what it holds, by the calls that are kept
abbrev pub memory_device : Device MemDisk
memory_device = record {
  is_transparent = true;
  reads = λ m. reads_of m.call_log;
  images = λ m. images_of m.call_log;
  moment = λ m. length m.call_log;
  images_since = λ m. since_of m.call_log;
  fault_count = λ m. m.counts.faults;
  failed_writes = λ m. m.counts.failed_writes;
  now_counts = λ m t c le now. now_counts m.call_log t c now;
  only_now = λ m c left. only_now m.call_log c left;
  reads_as_image = λ m transparent. reads_as_image m.call_log;
  lengths_fit = λ m f transparent. lengths_fit m.call_log f;
}

-- no call was made yet, and none has failed
pub record IsFresh (disk : MemDisk) : Type 0 where
  pub made : disk.made ≡ 0
  pub faults : disk.counts.faults ≡ 0
  pub failed_writes : disk.counts.failed_writes ≡ 0

-- one of the listed numbers is this one
abbrev pub is_listed : List ℕ → ℕ → Bool
is_listed failing number = list_any (λ n. n == number) failing

-- the number of the next call, up to the last value of its type
abbrev pub next_number : ℕ → ℕ
next_number made = min (made + 1) (2 ^ 64 - 1)

-- the number of the next call is listed
abbrev pub next_fails : MemDisk → Bool
next_fails disk = is_listed disk.failing.items (next_number disk.made)

-- one call more was made, and those that are to fail are listed as before
pub record HasCounted (old new : MemDisk) : Type 0 where
  pub made : new.made ≡ next_number old.made
  pub failing : new.failing ≡ old.failing

-- the newest call that is kept is one of this kind, with these octets from octet `at` of the file on
abbrev pub KeepsWrite : (Write → Call) → ℕ → ℕ → List ℕ → List Call → List Call → Type 0
KeepsWrite kind file at octets old new = (w : Write) × (w.file ≡ file) × (w.at ≡ at) × (w.octets.items ≡ octets) × (new ≡ kind w ∷ old)
