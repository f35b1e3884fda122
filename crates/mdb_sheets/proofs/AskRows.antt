-- The rows of the sheet of asks, one after the other.
use Rattle.std.proofs.Common.{◌≡◌, ◌∙◌, ◌+◌, ◌≤◌, ℕ, zero, suc, List, [], ◌∷◌, ◌++◌, drop, take, map, length, Option, Some, None, refl, ap, sym, arith}
use Rattle.std.specs.Prelude.{slice_get}
use Rattle.std.proofs.lemmas.List.{map-append}
use Rattle.asks.specs.declared.ask.Ask.{Ask}
use Rattle.mdb_items.specs.Checks.{first_broken}
use Rattle.mdb_items.proofs.Ends.{take-next}
use Rattle.mdb_sheets.specs.Asks.{ask_checks, ask_of, rows_fault}
use Rattle.mdb_sheets.specs.Sheets.{Fields}

-- the row at a place is the first of those that are left
at_front : (rows : List Fields) (i : ℕ) (row : Fields) → slice_get rows i ≡ Some row → drop i rows ≡ row ∷ drop (suc i) rows
at_front [] i row e = let none : Path (Option Fields) None (Some row) = e in cc
at_front (r ∷ rows) zero row e = let same : Path (Option Fields) (Some r) (Some row) = e in cc
at_front (r ∷ rows) (suc i) row e = at_front rows i row e

-- a row that breaks no rule
pub sound_row : (rows : List Fields) (i j n m : ℕ) (row : Fields) → slice_get rows i ≡ Some row → first_broken (ask_checks row) ≡ None → j ≡ suc i → m ≡ suc n → rows_fault n (drop i rows) ≡ rows_fault m (drop j rows)
unfolding rows_fault
sound_row rows i j n m row at sound next number = rw (at_front rows i row at, next, number, sound) refl

-- the first row that breaks one
pub broken_row : (rows : List Fields) (i n rule : ℕ) (row : Fields) → slice_get rows i ≡ Some row → first_broken (ask_checks row) ≡ Some rule → rows_fault n (drop i rows) ≡ Some (n, rule)
unfolding rows_fault
broken_row rows i n rule row at broken = rw (at_front rows i row at, broken) refl

-- no row is left
pub no_row : (rows : List Fields) (i n : ℕ) → length rows ≤ i → rows_fault n (drop i rows) ≡ None
unfolding rows_fault
no_row [] zero n le = refl
no_row [] (suc i) n le = refl
no_row (r ∷ rows) zero n le = absurd (omega arith)
no_row (r ∷ rows) (suc i) n le = no_row rows i n (omega arith)

-- one more ask
pub more_asks : (rows : List Fields) (i : ℕ) (row : Fields) (ask : Ask) (old new : List Ask) → slice_get rows i ≡ Some row → old ≡ map ask_of (take i rows) → ask ≡ ask_of row → new ≡ old ++ ask ∷ [] → new ≡ map ask_of (take (i + 1) rows)
more_asks rows i row ask old new at had same push =
    let more : map ask_of (take (i + 1) rows) ≡ map ask_of (take i rows) ++ ask_of row ∷ [] = ap (map ask_of) (take-next rows i row at) ∙ map-append ask_of (take i rows) (row ∷ []) in
    rw (push, had, same) (sym more)
