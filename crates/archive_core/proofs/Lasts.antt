-- The last row of an interval, looked for row by row.
use Rattle.std.proofs.Common.{◌≡◌, inl, inr, ℕ, zero, suc, ◌+◌, ◌<◌, ◌≤◌, List, [], ◌∷◌, ◌++◌, length, take, Some, None, sym, ◌∙◌, ap, subst, arith}
use Rattle.std.specs.Prelude.{slice_get, if◌then◌else◌}
use Rattle.std.proofs.lemmas.Option.{same_Some, slice_get_within}
use Rattle.std.proofs.lemmas.List.{take_all, length-take-le}
use Rattle.intervals.specs.declared.interval.Interval.{Interval}
use Rattle.arch_types.specs.declared.row.Row.{Row}
use Rattle.history_items.specs.Items.{is_of_interval, items_of}
use Rattle.history_items.specs.Late.{ChangesAt, HasRow, IsLastIn, last_in}
use Rattle.history_items.proofs.ItemLists.{items_of-append, length-items_of}
use Rattle.history_items.proofs.Late.{last_is_greatest, last_after_row}
use Rattle.archive_core.proofs.OfRows.{no_database}
use Rattle.interval_fills.specs.Intervals.{NoneSince}

-- the first items, and one more
pub take_next : {X : Type 0} (xs : List X) (n : ℕ) (x : X) → slice_get xs n ≡ Some x → take (n + 1) xs ≡ take n xs ++ x ∷ []
take_next [] n x at = absurd cc
take_next (y ∷ xs) zero x at =
    let one : zero + 1 ≡ suc zero = omega arith in
    ap (λ (k : ℕ). take k (y ∷ xs)) one ∙ ap (λ (z : _). z ∷ []) (same_Some y x at)
take_next (y ∷ xs) (suc n) x at =
    let next : suc n + 1 ≡ suc (n + 1) = omega arith in
    ap (λ (k : ℕ). take k (y ∷ xs)) next ∙ ap (λ (l : List _). y ∷ l) (take_next xs n x at)

pub last_more : (e : ℕ) (i : Interval) (rows : List Row) (n : ℕ) (row : Row) → slice_get rows n ≡ Some row →
    (if is_of_interval e i row then Some n else last_in e i (items_of (take n rows))) ≡ last_in e i (items_of (take (n + 1) rows))
last_more e i rows n row at =
    let within = slice_get_within rows n row at in
    let short : length (items_of (take n rows)) ≡ n = length-items_of (take n rows) ∙ length-take-le n rows (omega (arith, within)) in
    sym (ap (λ (l : List Row). last_in e i (items_of l)) (take_next rows n row at) ∙ ap (last_in e i) (items_of-append (take n rows) (row ∷ []))
    ∙ last_after_row e i (items_of (take n rows)) row
    ∙ ap (λ (m : ℕ). if is_of_interval e i row then Some m else last_in e i (items_of (take n rows))) short)

pub last_all : (e : ℕ) (i : Interval) (rows : List Row) (n : ℕ) → length rows ≤ n → last_in e i (items_of (take n rows)) ≡ last_in e i (items_of rows)
last_all e i rows n all = ap (λ (l : List Row). last_in e i (items_of l)) (take_all n rows all)

-- ---- no change at or after a base

pub none_at_all : (e : ℕ) (i : Interval) (base : ℕ) (rows : List Row) → last_in e i (items_of rows) ≡ None → NoneSince e i base (items_of rows)
none_at_all e i base rows is = λ p c. absurd (nowhere p c)
  where
    nowhere : (p : ℕ) → ChangesAt e i p (items_of rows) → ⊥
    nowhere p (inl s) =
        let row : HasRow e i (items_of rows) = record { position = p; stands = s } in
        subst (IsLastIn e i (items_of rows)) is (last_is_greatest e i (items_of rows)) row
    nowhere p (inr d) = no_database rows p d.0 d.1

pub none_after_last : (e : ℕ) (i : Interval) (base last : ℕ) (rows : List Row) → last_in e i (items_of rows) ≡ Some last → last < base → NoneSince e i base (items_of rows)
none_after_last e i base last rows is under = λ p c.
    let most = (subst (IsLastIn e i (items_of rows)) is (last_is_greatest e i (items_of rows))).2 p c in
    omega (arith, most, under)
