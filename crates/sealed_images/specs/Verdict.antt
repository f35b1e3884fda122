-- What is asked of the rows of all runs, as they were read.
use Rattle.std.specs.Prelude.{◌≡◌, ℕ, ◌<◌, List, [], ◌∷◌, length, map, nat_eq}
use Rattle.std.specs.List.{AllByRecursion, IsDistinct}
use Rattle.arch_types.specs.History.{IsHistory}
use Rattle.octet_fields.specs.Exact.{IsOctets}
use Rattle.archive_history.specs.Limits.{IsWithin}
use Rattle.run_pages.specs.Placed.{Placed, rows_of_placed}
use Rattle.seal_codec.specs.declared.seal.Seal.{Seal}
use Rattle.seal_codec.specs.declared.seal.SealedRun.{SealedRun}
use Rattle.archive_images.specs.declared.head.Head.{Head}
use Rattle.archive_images.specs.Entries.{Archive, IsPlaced}
use Rattle.archive_images.specs.SealFiles.{Part}
use Rattle.archive_images.specs.Below.{rows_of_parts}

-- each run is of the table that its seal names, and the tables and packet names of its rows are the head's
abbrev pub AreRunsPlaced : Head → List SealedRun → List (List Placed) → Type 0
AreRunsPlaced head [] runs = runs ≡ []
AreRunsPlaced head (named ∷ more) [] = ⊥
AreRunsPlaced head (named ∷ more) (rows ∷ runs) =
    AllByRecursion (λ at. (at.row.table ≡ named.table) × IsPlaced head [] at.row) rows × AreRunsPlaced head more runs

-- those of each seal are
abbrev pub AreAllPlaced : Head → List Seal → List Part → Type 0
AreAllPlaced head [] parts = parts ≡ []
AreAllPlaced head (seal ∷ all) [] = ⊥
AreAllPlaced head (seal ∷ all) (part ∷ parts) = AreRunsPlaced head seal.runs part.runs × AreAllPlaced head all parts

-- these positions are 0 to below so many, each once
pub record ArePositions (told : List ℕ) (count : ℕ) : Type 0 where
  pub once : IsDistinct nat_eq told
  pub below : AllByRecursion (λ position. position < count) told
  pub all : length told ≡ count

-- The rows of all runs may be sealed, in whichever order they were read: each is of the table that is named for its run,
-- they stand at the positions from 0 to below the number, each once, no table has a key twice, and they pass no limit.
pub record MaySealAsRead (old : Archive) (all : List Seal) (sealed : ℕ) (parts : List Part) : Type 0 where
  pub placed : AreAllPlaced old.head all parts
  pub positions : ArePositions (map (λ at. at.position) (rows_of_parts parts)) sealed
  pub history : IsHistory (rows_of_placed (rows_of_parts parts))
  pub octets : AllByRecursion (λ row. IsOctets row.packet) (rows_of_placed (rows_of_parts parts))
  pub within : IsWithin old.exponent (rows_of_placed (rows_of_parts parts))
