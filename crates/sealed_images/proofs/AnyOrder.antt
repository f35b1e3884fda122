-- What is asked of rows in the order of their positions holds of them in any order.
use Rattle.std.proofs.Common.{◌≡◌, ℕ, zero, suc, List, [], ◌∷◌, ◌++◌, length, Bool, true, false, Some, refl, sym, ◌∙◌, ap, subst, arith}
use Rattle.std.specs.Prelude.{slice_get, Contains, not, ◌&&◌, ◌||◌}
use Rattle.std.specs.List.{AllByRecursion, list_any}
use Rattle.std.proofs.lemmas.Bool.{and_parts}
use Rattle.std.proofs.lemmas.List.{length-map}
use Rattle.arch_types.specs.declared.row.Row.{Row}
use Rattle.arch_types.specs.History.{IsHistory, is_duplicate_of}
use Rattle.history_items.proofs.Outcomes.{duplicate_back}
use Rattle.archive_history.specs.Limits.{IsWithin}
use Rattle.run_pages.specs.Placed.{Placed, behind_positions, rows_of_placed}
use Rattle.sealed_sums.specs.InOrder.{AreInOrder}
use Rattle.sealed_sums.proofs.OrderBlind.{blind}
use Rattle.sealed_images.proofs.LogRows.{any_front, bare_rows, interval_blind, octets_blind}

-- ---- no table has a key twice, as a test

abbrev is_history : List Row → Bool
is_history [] = true
is_history (row ∷ rows) = not (list_any (is_duplicate_of row) rows) && is_history rows

same_test : (x y : Bool) → (x ≡ true → y ≡ true) → (y ≡ true → x ≡ true) → x ≡ y
same_test true y there back = sym (there refl)
same_test false true there back = back refl
same_test false false there back = refl

duplicates_back : (a b : Row) → is_duplicate_of a b ≡ is_duplicate_of b a
duplicates_back a b = same_test (is_duplicate_of a b) (is_duplicate_of b a) (duplicate_back a b) (duplicate_back b a)

none_any : (row : Row) (rows : List Row) → AllByRecursion (λ later. is_duplicate_of later row ≡ false) rows → list_any (is_duplicate_of row) rows ≡ false
none_any row [] none = refl
none_any row (x ∷ rows) none = rw (duplicates_back row x ∙ none.0) (none_any row rows none.1)

pub or_false : (x y : Bool) → (x || y) ≡ false → (x ≡ false) × (y ≡ false)
or_false true y is = absurd cc
or_false false y is = (refl, is)

any_none : (row : Row) (rows : List Row) → list_any (is_duplicate_of row) rows ≡ false → AllByRecursion (λ later. is_duplicate_of later row ≡ false) rows
any_none row [] none = tt
any_none row (x ∷ rows) none =
    let parts = or_false (is_duplicate_of row x) (list_any (is_duplicate_of row) rows) none in
    (sym (duplicates_back row x) ∙ parts.0, any_none row rows parts.1)

history_test : (rows : List Row) → IsHistory rows → is_history rows ≡ true
history_test [] is = refl
history_test (row ∷ rows) is = rw (none_any row rows is.0) (history_test rows is.1)

not_true : (x : Bool) → not x ≡ true → x ≡ false
not_true true is = absurd cc
not_true false is = refl

test_history : (rows : List Row) → is_history rows ≡ true → IsHistory rows
test_history [] is = tt
test_history (row ∷ rows) is =
    let parts = and_parts (not (list_any (is_duplicate_of row) rows)) (is_history rows) is in
    (any_none row rows (not_true (list_any (is_duplicate_of row) rows) parts.0), test_history rows parts.1)

swap_tests : (d p q h : Bool) → (not (d || p) && (not q && h)) ≡ (not (d || q) && (not p && h))
swap_tests true p q h = refl
swap_tests false true true h = refl
swap_tests false true false h = refl
swap_tests false false true h = refl
swap_tests false false false h = refl

history_front : (a : List Row) (x : Row) (b : List Row) → is_history (a ++ x ∷ b) ≡ is_history (x ∷ (a ++ b))
history_front [] x b = refl
history_front (y ∷ a) x b =
    ap (λ (t : Bool). not t && is_history (a ++ x ∷ b)) (any_front (is_duplicate_of y) a x b)
    ∙ ap (λ (t : Bool). not (is_duplicate_of y x || list_any (is_duplicate_of y) (a ++ b)) && t) (history_front a x b)
    ∙ ap (λ (t : Bool). not (t || list_any (is_duplicate_of y) (a ++ b)) && (not (list_any (is_duplicate_of x) (a ++ b)) && is_history (a ++ b))) (duplicates_back y x)
    ∙ swap_tests (is_duplicate_of x y) (list_any (is_duplicate_of y) (a ++ b)) (list_any (is_duplicate_of x) (a ++ b)) (is_history (a ++ b))

-- which rows have a duplicate among these, and whether none of them has
abbrev tests_of : List Row → (Row → Bool) × Bool
tests_of rows = (λ row. list_any (is_duplicate_of row) rows, is_history rows)

-- ---- a list of rows, each at its place

all_rows : (P : Row → Type 0) (rows : List Row) → ((i : ℕ) (row : Row) → slice_get rows i ≡ Some row → P row) → AllByRecursion P rows
all_rows P [] each = tt
all_rows P (row ∷ rows) each = (each 0 row refl, all_rows P rows (λ i x at. each (suc i) x at))

row_at : (P : Row → Type 0) (rows : List Row) (i : ℕ) (row : Row) → AllByRecursion P rows → slice_get rows i ≡ Some row → P row
row_at P [] i row all at = absurd cc
row_at P (x ∷ rows) zero row all at = let same : x ≡ row = cc in subst P same all.0
row_at P (x ∷ rows) (suc i) row all at = row_at P rows i row all.1 at

all_placed : (P : Row → Type 0) (placed : List Placed) → ((p : ℕ) (row : Row) → Contains (behind_positions placed) (p, row) → P row) → AllByRecursion P (rows_of_placed placed)
all_placed P [] each = tt
all_placed P (at ∷ placed) each = (each at.position at.row (0, omega arith, refl), all_placed P placed (λ p row is. each p row (suc is.0, omega (arith, is.1), is.2)))

placed_at : (P : Row → Type 0) (placed : List Placed) (p : ℕ) (row : Row) → AllByRecursion P (rows_of_placed placed) → Contains (behind_positions placed) (p, row) → P row
placed_at P [] p row all (k, lt, is) = absurd (omega (arith, lt))
placed_at P (at ∷ placed) p row all (zero, lt, is) = let same : at.row ≡ row = ap (λ (a : ℕ × Row). a.1) is in subst P same all.0
placed_at P (at ∷ placed) p row all (suc k, lt, is) = placed_at P placed p row all.1 (k, omega (arith, lt), is)

-- ---- rows at positions, and the rows in the order of those

module _ (placed : List Placed) (rows : List Row) (order : AreInOrder (behind_positions placed) rows) where
  history_blind : is_history (rows_of_placed placed) ≡ is_history rows
  history_blind =
      ap is_history (sym (bare_rows placed))
      ∙ ap (λ (t : (Row → Bool) × Bool). t.1) (blind tests_of
      (λ a x b k. (λ row. any_front (is_duplicate_of row) a x b k, history_front a x b k))
      (λ x a b same k. (λ row. is_duplicate_of row x || (same k).0 row, not ((same k).0 x) && (same k).1)) (behind_positions placed) rows order)

  pub history_of_order : IsHistory rows → IsHistory (rows_of_placed placed)
  history_of_order is = test_history (rows_of_placed placed) (history_blind ∙ history_test rows is)

  pub history_in_order : IsHistory (rows_of_placed placed) → IsHistory rows
  history_in_order is = test_history rows (sym history_blind ∙ history_test (rows_of_placed placed) is)

  pub all_of_order : (P : Row → Type 0) → AllByRecursion P rows → AllByRecursion P (rows_of_placed placed)
  all_of_order P all = all_placed P placed (λ p row is. row_at P rows p row all (order.only p row is))

  pub all_in_order : (P : Row → Type 0) → AllByRecursion P (rows_of_placed placed) → AllByRecursion P rows
  all_in_order P all = all_rows P rows (λ i row at. placed_at P placed i row all (order.each i row at))

  long_as_order : length placed ≡ length rows
  long_as_order = omega (arith, order.as_many, length-map {B = ℕ × Row} placed (λ (at : Placed). (at.position, at.row)))

  pub within_of_order : (e : ℕ) → IsWithin e rows → IsWithin e (rows_of_placed placed)
  within_of_order e w = record {
    few = omega (arith, w.few, long_as_order, length-map placed (λ (at : Placed). at.row));
    octets = omega (arith, w.octets, octets_blind placed rows order);
    intervals = λ i. omega (arith, w.intervals i, interval_blind placed rows order e i);
  }

  pub within_in_order : (e : ℕ) → IsWithin e (rows_of_placed placed) → IsWithin e rows
  within_in_order e w = record {
    few = omega (arith, w.few, long_as_order, length-map placed (λ (at : Placed). at.row));
    octets = omega (arith, w.octets, octets_blind placed rows order);
    intervals = λ i. omega (arith, w.intervals i, interval_blind placed rows order e i);
  }
