-- What stands behind files that are read.
use Rattle.std.proofs.Common.{◌≡◌, inl, inr, ⊎_elim, ℕ, List, [], ◌∷◌, ◌++◌, sym, ◌∙◌, ap, subst, append_assoc, append-nil}
use Rattle.std.proofs.lemmas.List.{map-append}
use Rattle.arch_disk.specs.Image.{Image}
use Rattle.arch_types.specs.declared.row.Row.{Row}
use Rattle.run_pages.specs.Placed.{Placed, rows_of_placed}
use Rattle.run_pages.proofs.DamageOnce.{run_is_whole}
use Rattle.run_pages.proofs.RunOnce.{run_once}
use Rattle.seal_codec.specs.declared.seal.Seal.{Seal}
use Rattle.seal_codec.specs.declared.seal.SealedRun.{SealedRun}
use Rattle.archive_images.specs.Entries.{Archive}
use Rattle.archive_images.specs.SealFiles.{HaveParts, HaveRuns, Part, StoredFill}
use Rattle.archive_images.specs.Below.{AreSealedFills, rows_of_part, rows_of_parts}
use Rattle.archive_images.proofs.SealedOnce.{fill_file_once}
use Rattle.sealed_images.specs.Damage.{AreRunsIn, AreSealsIn, InRuns, InSeals, part_of, rows_of_placed_runs}
use Rattle.sealed_images.proofs.Places.{BehindRuns, fills_are_whole}

-- ---- to the damage, over files that were read

pub behind_runs : (image : Image) (xs ys : List SealedRun) (rows : List (List Placed)) (Behind : List (List Placed) → ℕ → ℕ → Type 0) (file at : ℕ) → AreRunsIn image xs rows
    → InRuns image ys (λ more. Behind (rows ++ more)) file at → InRuns image (xs ++ ys) Behind file at
behind_runs image [] ys rows Behind file at are bad =
    subst (λ (l : List (List Placed)). InRuns image ys (λ more. Behind (l ++ more)) file at) are bad
behind_runs image (run ∷ xs) ys [] Behind file at are bad = absurd are
behind_runs image (run ∷ xs) ys (x ∷ rows) Behind file at are bad =
    inr (x, are.0, behind_runs image xs ys rows (λ runs. Behind (x ∷ runs)) file at are.1 bad)

-- the rows of a part before those of others
pub rows_first : (before : List Row) (part : Part) (parts : List Part) → (before ++ rows_of_placed_runs part.runs) ++ rows_of_placed (rows_of_parts parts) ≡ before ++ rows_of_placed (rows_of_parts (part ∷ parts))
rows_first before part parts =
    append_assoc before (rows_of_placed_runs part.runs) (rows_of_placed (rows_of_parts parts))
    ∙ ap (λ (l : List Row). before ++ l) (sym (map-append (λ (at : Placed). at.row) (rows_of_part part) (rows_of_parts parts)))

pub behind_seals : (image : Image) (old : Archive) (before : List Row) (xs ys : List Seal) (parts : List Part) (Behind : List Part → ℕ → ℕ → Type 0) (file at : ℕ) → AreSealsIn image old before xs parts
    → InSeals image old (before ++ rows_of_placed (rows_of_parts parts)) ys (λ more. Behind (parts ++ more)) file at → InSeals image old before (xs ++ ys) Behind file at
behind_seals image old before [] ys parts Behind file at are bad =
    let here = subst (λ (l : List Part). InSeals image old (before ++ rows_of_placed (rows_of_parts l)) ys (λ more. Behind (l ++ more)) file at) are bad in
    subst (λ (l : List Row). InSeals image old l ys Behind file at) (append-nil before) here
behind_seals image old before (seal ∷ xs) ys [] Behind file at are bad = absurd are
behind_seals image old before (seal ∷ xs) ys (part ∷ parts) Behind file at are bad =
    subst (λ (l : List SealedRun). InRuns image l (BehindRuns image old before seal (xs ++ ys) Behind) file at) (append-nil seal.runs)
    (behind_runs image seal.runs [] part.runs (BehindRuns image old before seal (xs ++ ys) Behind) file at are.0
    (subst (λ (runs : List (List Placed)). BehindRuns image old before seal (xs ++ ys) Behind runs file at) (sym (append-nil part.runs))
    (inr (
      part.fills,
      are.1,
      behind_seals image old (before ++ rows_of_placed_runs part.runs) xs ys parts (λ more. Behind (part ∷ more)) file at are.2
          (subst (λ (l : List Row). InSeals image old l ys (λ more. Behind (part ∷ parts ++ more)) file at) (sym (rows_first before part parts)) bad),
    ))))

-- ---- through files that are whole

pub through_runs : (image : Image) (runs : List SealedRun) (rows : List (List Placed)) (Behind : List (List Placed) → ℕ → ℕ → Type 0) (file at : ℕ) → HaveRuns image runs rows → InRuns image runs Behind file at → Behind rows file at
through_runs image [] [] Behind file at has bad = bad
through_runs image [] (x ∷ rows) Behind file at has bad = absurd has
through_runs image (run ∷ runs) [] Behind file at has bad = absurd has
through_runs image (run ∷ runs) (x ∷ rows) Behind file at has (inl here) = absurd (run_is_whole (image run.file) run.table x at has.0 here.1)
through_runs image (run ∷ runs) (x ∷ rows) Behind file at has (inr later) =
    let same : later.0 ≡ x = (run_once (image run.file) later.1.0 run.table later.0 x later.1.1 has.0).0 in
    through_runs image runs rows (λ more. Behind (x ∷ more)) file at has.1
    (subst (λ (l : List Placed). InRuns image runs (λ more. Behind (l ∷ more)) file at) same later.2)

pub through_seals : (image : Image) (old : Archive) (before : List Row) (all : List Seal) (parts : List Part) (Behind : List Part → ℕ → ℕ → Type 0) (file at : ℕ) → HaveParts image all parts → AreSealedFills old before all parts
    → InSeals image old before all Behind file at → Behind parts file at
through_seals image old before [] [] Behind file at has fills bad = bad
through_seals image old before [] (part ∷ parts) Behind file at has fills bad = absurd has
through_seals image old before (seal ∷ all) [] Behind file at has fills bad = absurd has
through_seals image old before (seal ∷ all) (part ∷ parts) Behind file at has fills bad =
    ⊎_elim
    (λ here. absurd (fills_are_whole image old (before ++ rows_of_placed_runs part.runs) seal part.fills at (record { has = has.1; may = fills.0 }) here.1))
    (λ later. through_seals image old (before ++ rows_of_placed_runs part.runs) all parts (λ more. Behind (part ∷ more)) file at has.2 fills.1
    (subst (λ (l : List StoredFill). InSeals image old (before ++ rows_of_placed_runs part.runs) all (λ more. Behind (part_of part.runs l ∷ more)) file at)
    (fill_file_once image seal later.0 part.fills later.1.has has.1) later.2))
    (through_runs image seal.runs part.runs (BehindRuns image old before seal all Behind) file at has.0 bad)
