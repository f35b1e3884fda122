-- The records of a log over the rows of runs, in whichever order those stand, and the entries of the log over the archive that they make.
use Rattle.std.proofs.Common.{◌≡◌, ℕ, List, [], ◌∷◌, ◌++◌, length, map, Bool, true, false, refl, sym, ◌∙◌, ap, arith, append_assoc, append-nil, length-append}
use Rattle.std.specs.Prelude.{◌||◌}
use Rattle.std.specs.List.{list_any}
use Rattle.std.proofs.lemmas.List.Folds.{list_any-append}
use Rattle.arch_types.specs.declared.row.Row.{Row}
use Rattle.history_items.specs.declared.items.Item.{Item}
use Rattle.history_items.specs.Items.{after_row, after_rows, has_key_of, items_of, row_item}
use Rattle.history_items.proofs.ItemLists.{length-items_of}
use Rattle.history_items.proofs.Outcomes.{length-after_rows}
use Rattle.archive_history.specs.Limits.{interval_rows, octets_of}
use Rattle.archive_history.proofs.Sums.{interval_rows-append, octets-append}
use Rattle.intervals.specs.declared.interval.Interval.{Interval}
use Rattle.run_pages.specs.Placed.{Placed, behind_positions, rows_of_placed}
use Rattle.sealed_sums.specs.InOrder.{AreInOrder}
use Rattle.sealed_sums.proofs.OrderBlind.{blind, sum_blind}

-- ---- what doesn't look at the order of rows

pub bare_rows : (placed : List Placed) → map (λ (at : ℕ × Row). at.1) (behind_positions placed) ≡ rows_of_placed placed
bare_rows [] = refl
bare_rows (at ∷ placed) = ap (λ (l : List Row). at.row ∷ l) (bare_rows placed)

or_swap : (a b c : Bool) → (a || (b || c)) ≡ (b || (a || c))
or_swap true true c = refl
or_swap true false c = refl
or_swap false b c = refl

module _ (test : Row → Bool) where
  pub any_front : (a : List Row) (x : Row) (b : List Row) → list_any test (a ++ x ∷ b) ≡ list_any test (x ∷ (a ++ b))
  any_front [] x b = refl
  any_front (y ∷ a) x b = ap (λ (t : Bool). test y || t) (any_front a x b) ∙ or_swap (test y) (test x) (list_any test (a ++ b))

module _ (placed : List Placed) (rows : List Row) (order : AreInOrder (behind_positions placed) rows) where
  pub any_blind : (test : Row → Bool) → list_any test (rows_of_placed placed) ≡ list_any test rows
  any_blind test =
      ap (list_any test) (sym (bare_rows placed))
      ∙ blind (list_any test) (any_front test) (λ x a b same. ap (λ (t : Bool). test x || t) same) (behind_positions placed) rows order

  pub octets_blind : octets_of (rows_of_placed placed) ≡ octets_of rows
  octets_blind = ap octets_of (sym (bare_rows placed)) ∙ sum_blind octets_of octets-append (behind_positions placed) rows order

  pub interval_blind : (e : ℕ) (interval : Interval) → interval_rows e interval (rows_of_placed placed) ≡ interval_rows e interval rows
  interval_blind e interval = ap (interval_rows e interval) (sym (bare_rows placed)) ∙ sum_blind (interval_rows e interval) (interval_rows-append e interval) (behind_positions placed) rows order

-- ---- rows that are new to a history are new to one of the same keys

abbrev HaveSameKeys : List Item → List Item → Type 0
HaveSameKeys h k = (row : Row) → list_any (has_key_of row) h ≡ list_any (has_key_of row) k

more_keys : (h k more : List Item) → HaveSameKeys h k → HaveSameKeys (h ++ more) (k ++ more)
more_keys h k more same row =
    list_any-append (has_key_of row) h more ∙ ap (λ (t : Bool). t || list_any (has_key_of row) more) (same row) ∙ sym (list_any-append (has_key_of row) k more)

pub fresh_same : (h k : List Item) (rows : List Row) → HaveSameKeys h k → after_rows h rows ≡ h ++ items_of rows → after_rows k rows ≡ k ++ items_of rows
fresh_same h k [] same fresh = sym (append-nil k)
fresh_same h k (row ∷ rows) same fresh = by (list_any (has_key_of row) h) refl (λ a b. fresh_same a b rows)
  where
    by : (t : Bool) → list_any (has_key_of row) h ≡ t → ((a b : List Item) → HaveSameKeys a b → after_rows a rows ≡ a ++ items_of rows → after_rows b rows ≡ b ++ items_of rows) → after_rows k (row ∷ rows) ≡ k ++ items_of (row ∷ rows)
    by true is later =
        let kept : after_row h row ≡ h = rw (is) refl in
        let all : after_rows h rows ≡ h ++ items_of (row ∷ rows) = ap (λ (l : List Item). after_rows l rows) (sym kept) ∙ fresh in
        absurd (omega (arith, ap length all, length-append h (items_of (row ∷ rows)), length-items_of (row ∷ rows), length-after_rows h rows))
    by false is later =
        let new : after_row h row ≡ h ++ row_item row ∷ [] = rw (is) refl in
        let next : after_row k row ≡ k ++ row_item row ∷ [] = rw (sym (same row) ∙ is) refl in
        let rest : after_rows (h ++ row_item row ∷ []) rows ≡ (h ++ row_item row ∷ []) ++ items_of rows =
        ap (λ (l : List Item). after_rows l rows) (sym new) ∙ fresh ∙ sym (append_assoc h (row_item row ∷ []) (items_of rows)) in
        ap (λ (l : List Item). after_rows l rows) next
        ∙ later (h ++ row_item row ∷ []) (k ++ row_item row ∷ []) (more_keys h k (row_item row ∷ []) same) rest
        ∙ append_assoc k (row_item row ∷ []) (items_of rows)
