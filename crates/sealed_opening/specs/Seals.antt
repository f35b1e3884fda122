-- The files of seals that were read.
use Rattle.std.specs.Prelude.{◌≡◌, ℕ, List, [], ◌∷◌, ◌++◌, length, map, IsTrue}
use Rattle.std.specs.List.{AllByRecursion, flat_map}
use Rattle.arch_disk.specs.Disk.{Device}
use Rattle.arch_disk.specs.Image.{Image}
use Rattle.octet_fields.specs.Exact.{IsOctets}
use Rattle.arch_types.specs.declared.row.Row.{Row}
use Rattle.run_pages.specs.Pages.{FitsPage}
use Rattle.run_files.specs.Run.{IsRunInMemory, run_file, run_table}
use Rattle.run_files.specs.declared.run.Run.{Run}
use Rattle.run_pages.specs.Placed.{Placed, rows_of_placed}
use Rattle.seal_codec.specs.declared.seal.Seal.{Seal}
use Rattle.seal_codec.specs.declared.seal.SealedRun.{SealedRun}
use Rattle.archive_images.specs.declared.head.Head.{Head}
use Rattle.archive_images.specs.Below.{rows_of_parts}
use Rattle.archive_images.specs.Entries.{IsPlaced}
use Rattle.archive_images.specs.SealFiles.{Part}
use Rattle.sealed_images.specs.Damage.{AreSealsIn, InRuns, InSeals}
use Rattle.sealed_sums.specs.Sums.{AreSumsOf}
use Rattle.store_fills.specs.LastFills.{fillings_in}
use Rattle.sealed_opening.specs.Fills.{after_fills, bare, dones_of_stored}
use Rattle.sealed_opening.specs.Positions.{AreFlagsOf}
use Rattle.sealed_opening.specs.SoFar.{ArePlacedIf, AreRowsNoted, HasOwnMarks, rows_so_far}
use Rattle.sealed_opening.specs.declared.so_far.SealedSoFar.{SealedSoFar}

-- ---- the runs of a seal

-- these are the runs that a seal names, by their files, and what they hold on this disk
abbrev pub AreNamedRuns : Image → List SealedRun → List Run → List (List Placed) → Type 0
AreNamedRuns image [] runs rows = (runs ≡ []) × (rows ≡ [])
AreNamedRuns image (named ∷ more) [] rows = ⊥
AreNamedRuns image (named ∷ more) (run ∷ runs) [] = ⊥
AreNamedRuns image (named ∷ more) (run ∷ runs) (rows ∷ others) =
    IsRunInMemory (image named.file) run rows × AreNamedRuns image more runs others

-- each is of the table that its seal names, and the head has the tables and packet names of its rows
abbrev pub AreNotedRunsPlaced : Head → List SealedRun → List Run → List (List Placed) → Type 0
AreNotedRunsPlaced head [] runs rows = Unit {0}
AreNotedRunsPlaced head (named ∷ more) [] rows = ⊥
AreNotedRunsPlaced head (named ∷ more) (run ∷ runs) [] = ⊥
AreNotedRunsPlaced head (named ∷ more) (run ∷ runs) (rows ∷ others) =
    ((run_table run ≡ named.table) × AllByRecursion (IsPlaced head []) (rows_of_placed rows))
    × AreNotedRunsPlaced head more runs others

-- the runs were read, their rows noted, and they stand behind those before
pub record AreRunsNoted {D : Type 0} (device : Device D) (disk : D) (head : Head) (named : List SealedRun)
    (was now : SealedSoFar) : Type 0 where
  pub runs : List Run
  pub rows : List (List Placed)
  pub noted : AreRowsNoted (flat_map (λ run. run) rows) was now
  pub placed : ArePlacedIf (AreNotedRunsPlaced head named runs rows) was now
  pub runs_are : now.runs.items ≡ was.runs.items ++ runs
  pub many : (length runs ≡ length named) × (length rows ≡ length named)
  pub files : map run_file runs ≡ map (λ run. run.file) named
  pub held : IsTrue device.is_transparent → AreNamedRuns (device.reads disk) named runs rows

-- no damage is asked for behind what was read
abbrev pub NoneBehind : {X : Type 0} → X → ℕ → ℕ → Type 0
NoneBehind x file at = ⊥

-- the first of runs that is damaged is so at this octet
abbrev pub IsInRuns : Image → List SealedRun → ℕ → ℕ → Type 0
IsInRuns image runs = InRuns image runs NoneBehind

-- ---- all seals

-- The files of these seals were read as these parts, and noted behind what was read before. What is said of marks stands behind
-- that they were those of the rows before.
pub record AreSealsRead {D : Type 0} (device : Device D) (disk : D) (head : Head) (all : List Seal) (was now : SealedSoFar)
    : Type 0 where
  pub parts : List Part
  pub read : IsTrue device.is_transparent → HasOwnMarks was →
      AreSealsIn (device.reads disk) (bare head was.sums.exponent) (rows_of_placed (rows_so_far was)) all parts
  pub told : rows_so_far now ≡ rows_so_far was ++ rows_of_parts parts
  pub sums : (before : List Row) → AreSumsOf before was.sums →
      AreSumsOf (before ++ rows_of_placed (rows_of_parts parts)) now.sums
  pub marks : HasOwnMarks was → HasOwnMarks now
  pub positions : (limit : ℕ) (told : List ℕ) → AreFlagsOf limit told was.positions →
      AreFlagsOf limit (told ++ map (λ at. at.position) (rows_of_parts parts)) now.positions
  pub fit : AllByRecursion FitsPage (rows_of_parts parts)
  pub octets : AllByRecursion (λ at. IsOctets at.row.packet) (rows_of_parts parts)
  pub dones : now.tracker.fills ≡ was.tracker.fills ++ dones_of_stored (flat_map (λ part. part.fills) parts)
  pub sets : fillings_in now.sets.filled ≡ after_fills (fillings_in was.sets.filled) (flat_map (λ part. part.fills) parts)
  pub exponent : now.sums.exponent ≡ was.sums.exponent

-- the first file of seals that is damaged is so at this octet
abbrev pub IsInSeals : Image → Head → List Seal → SealedSoFar → ℕ → ℕ → Type 0
IsInSeals image head all so_far file at =
    HasOwnMarks so_far →
    InSeals image (bare head so_far.sums.exponent) (rows_of_placed (rows_so_far so_far)) all NoneBehind file at
