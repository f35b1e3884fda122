-- Reads that fail while a store is taken in turns.
use Rattle.std.specs.Prelude.{◌≡◌, ℕ, ◌<◌, ◌≤◌, List, [], ◌++◌, length, slice_get, false, Some}
use Rattle.std.specs.List.{AllByRecursion}
use Rattle.refusals.specs.declared.refusal.Refusal.{Refusal}
use Rattle.refusals.specs.declared.refusal.Refusal.TheVariants.{Damaged, DiskFault, OutOfMemory}
use Rattle.history_items.specs.declared.fills.Addition.TheVariants.{Nothing}
use Rattle.history_items.specs.declared.fills.Fill.{Fill}
use Rattle.history_items.specs.declared.fills.Fill.TheVariants.{Fault}
use Rattle.turn_cell.specs.declared.view.SeenList.{SeenList}

-- Why rows aren't read, of which so many stand in runs: a read failed; a page breaks its format, which never comes
-- where the rows are told; or memory was wanting.
abbrev pub IsUnread : Type 0 → ℕ → Refusal → Type 0
IsUnread told sealed DiskFault = 0 < sealed
IsUnread told sealed (Damaged file at) = told → ⊥
IsUnread told sealed OutOfMemory = Unit {0}
IsUnread told sealed other = ⊥

-- a fault of a read stands at this place of a fill list
abbrev pub IsReadFaultAt : List Fill → ℕ → Type 0
IsReadFaultAt fills place = (count : ℕ) × (slice_get fills place ≡ Some (Fault count false Nothing))

-- A fault of a read stands in a fill list, behind what a pass had seen of it.
pub record NotedRead (old new : SeenList Fill) : Type 0 where
  pub place : ℕ
  pub behind : length old.seen ≤ place
  pub there : IsReadFaultAt new.seen place

-- A pass put faults of reads alone behind a fill list, and none where no row stands in a run.
pub record NotesReads (sealed : ℕ) (old new : SeenList Fill) : Type 0 where
  pub places : List ℕ
  pub noted : new.places ≡ old.places ++ places
  pub each : AllByRecursion (IsReadFaultAt new.seen) places
  pub plain : sealed ≡ 0 → places ≡ []
