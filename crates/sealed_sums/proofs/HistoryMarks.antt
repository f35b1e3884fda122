-- The marks of rows at positions are those of the history that they are.
use Rattle.std.proofs.Common.{◌≡◌, ◌⊎◌, inl, inr, ℕ, suc, zero, ◌≤◌, List, [], ◌∷◌, max, Bool, true, false, true≢false, Option, Some, None, refl, sym, ap, subst, ◌∙◌, arith}
use Rattle.std.specs.Prelude.{◌==◌, slice_get, Contains, if◌then◌else◌}
use Rattle.std.specs.Option.{is_some}
use Rattle.std.specs.Ordering.{int_eq}
use Rattle.std.proofs.lemmas.Bool.{eqb-true, and_parts}
use Rattle.std.proofs.lemmas.Bool.Decides.{Decides-int_eq}
use Rattle.arch_types.specs.declared.row.Row.{Row}
use Rattle.intervals.specs.declared.interval.Interval.{Interval}
use Rattle.intervals.specs.Interval.{interval_of}
use Rattle.history_items.specs.declared.items.Item.{Item}
use Rattle.history_items.specs.Fills.{base_in, in_flight}
use Rattle.history_items.specs.Items.{is_database, is_of_interval, items_of, row_item}
use Rattle.history_items.specs.Late.{ChangesAt, IsLastIn, StandsIn, last_in}
use Rattle.history_items.proofs.Late.{last_is_greatest}
use Rattle.fill_tracker.specs.FillTracker.{mark_by}
use Rattle.fill_tracker.specs.Placed.{greatest, last_placed}
use Rattle.sealed_sums.proofs.Positions.{either}
use Rattle.sealed_sums.specs.InOrder.{AreInOrder}
use Rattle.sealed_sums.specs.Laws.{LastPlacedIsLast, PlacedMarksAreMarks}

-- ---- the greatest position of an interval's rows

module _ (e : ℕ) (i : Interval) where
  -- a row of the interval stands at this position
  abbrev HasAt : List (ℕ × Row) → ℕ → Type 0
  HasAt placed position = (row : Row) × Contains placed (position, row) × (is_of_interval e i row ≡ true)

  abbrev IsLastPlaced : List (ℕ × Row) → Option ℕ → Type 0
  IsLastPlaced placed None = (position : ℕ) → HasAt placed position → ⊥
  IsLastPlaced placed (Some last) = HasAt placed last × ((position : ℕ) → HasAt placed position → position ≤ last)

  further : (at : ℕ × Row) (placed : List (ℕ × Row)) (position : ℕ) → HasAt placed position → HasAt (at ∷ placed) position
  further at placed position (row, has, is) = (row, (suc has.0, omega (arith, has.1), has.2), is)

  -- it is that of the first row, or it stands behind it
  parted : (at : ℕ × Row) (placed : List (ℕ × Row)) (position : ℕ) → HasAt (at ∷ placed) position → ((at.0 ≡ position) × (is_of_interval e i at.1 ≡ true)) ⊎ HasAt placed position
  parted at placed position (row, (zero, lt, here), is) = inl (ap (λ (p : ℕ × Row). p.0) here, ap (λ (p : ℕ × Row). is_of_interval e i p.1) here ∙ is)
  parted at placed position (row, (suc k, lt, here), is) = inr (row, (k, omega (arith, lt), here), is)

  first_has : (at : ℕ × Row) (placed : List (ℕ × Row)) → is_of_interval e i at.1 ≡ true → HasAt (at ∷ placed) at.0
  first_has at placed is = (at.1, (0, omega arith, refl), is)

  last_with : (at : ℕ × Row) (placed : List (ℕ × Row)) (o : Option ℕ) → is_of_interval e i at.1 ≡ true → IsLastPlaced placed o → IsLastPlaced (at ∷ placed) (Some (greatest at.0 o))
  last_with at placed None is none = (first_has at placed is, λ position has. bound position (parted at placed position has))
    where
      bound : (position : ℕ) → ((at.0 ≡ position) × (is_of_interval e i at.1 ≡ true)) ⊎ HasAt placed position → position ≤ at.0
      bound position (inl first) = omega (arith, first.0)
      bound position (inr later) = absurd (none position later)
  last_with at placed (Some last) is those = (there (either at.0 last), λ position has. bound position (parted at placed position has))
    where
      there : (max at.0 last ≡ at.0) ⊎ (max at.0 last ≡ last) → HasAt (at ∷ placed) (max at.0 last)
      there (inl first) = subst (HasAt (at ∷ placed)) (sym first) (first_has at placed is)
      there (inr later) = subst (HasAt (at ∷ placed)) (sym later) (further at placed last those.0)

      bound : (position : ℕ) → ((at.0 ≡ position) × (is_of_interval e i at.1 ≡ true)) ⊎ HasAt placed position → position ≤ max at.0 last
      bound position (inl first) = omega (arith, first.0)
      bound position (inr later) = omega (arith, those.1 position later)

  last_past : (at : ℕ × Row) (placed : List (ℕ × Row)) (o : Option ℕ) → is_of_interval e i at.1 ≡ false → IsLastPlaced placed o → IsLastPlaced (at ∷ placed) o
  last_past at placed None other none = λ position has. bound position (parted at placed position has)
    where
      bound : (position : ℕ) → ((at.0 ≡ position) × (is_of_interval e i at.1 ≡ true)) ⊎ HasAt placed position → ⊥
      bound position (inl first) = true≢false (sym first.1 ∙ other)
      bound position (inr later) = none position later
  last_past at placed (Some last) other those = (further at placed last those.0, λ position has. bound position (parted at placed position has))
    where
      bound : (position : ℕ) → ((at.0 ≡ position) × (is_of_interval e i at.1 ≡ true)) ⊎ HasAt placed position → position ≤ last
      bound position (inl first) = absurd (true≢false (sym first.1 ∙ other))
      bound position (inr later) = those.1 position later

  last_is_placed : (placed : List (ℕ × Row)) → IsLastPlaced placed (last_placed e i placed)
  last_is_placed [] = λ position has. absurd (let within = has.1.1 in omega (arith, within))
  last_is_placed (at ∷ placed) = by (is_of_interval e i at.1) refl (last_is_placed placed)
    where
      by : (b : Bool) → is_of_interval e i at.1 ≡ b → IsLastPlaced placed (last_placed e i placed) → IsLastPlaced (at ∷ placed) (if b then Some (greatest at.0 (last_placed e i placed)) else last_placed e i placed)
      by true is those = last_with at placed (last_placed e i placed) is those
      by false is those = last_past at placed (last_placed e i placed) is those

  -- ---- beside a history

  row_there : (rows : List Row) (k : ℕ) (row : Row) → slice_get (items_of rows) k ≡ Some (row_item row) → slice_get rows k ≡ Some row
  row_there [] k row at = absurd cc
  row_there (r ∷ rows) zero row at = let same : r ≡ row = cc in ap (λ (x : Row). Some x) same
  row_there (r ∷ rows) (suc k) row at = row_there rows k row at

  item_there : (rows : List Row) (k : ℕ) (row : Row) → slice_get rows k ≡ Some row → slice_get (items_of rows) k ≡ Some (row_item row)
  item_there [] k row at = absurd cc
  item_there (r ∷ rows) zero row at = let same : r ≡ row = cc in ap (λ (x : Row). Some (row_item x)) same
  item_there (r ∷ rows) (suc k) row at = item_there rows k row at

  no_database : (rows : List Row) (k : ℕ) (item : Item) → slice_get (items_of rows) k ≡ Some item → is_database item ≡ false
  no_database [] k item at = absurd cc
  no_database (r ∷ rows) zero item at = let same : row_item r ≡ item = cc in subst (λ (x : Item). is_database x ≡ false) same refl
  no_database (r ∷ rows) (suc k) item at = no_database rows k item at

  module _ (placed : List (ℕ × Row)) (rows : List Row) (are : AreInOrder placed rows) where
    stands : (position : ℕ) → HasAt placed position → StandsIn e i position (items_of rows)
    stands position (row, has, is) =
        let parts = and_parts (row.table == 0) (int_eq (interval_of e row.key.time) i.0) is in
        record {
          row = row;
          there = item_there rows position row (are.only position row has);
          table = eqb-true row.table 0 parts.0;
          time = (Decides-int_eq (interval_of e row.key.time) i.0).0 parts.1;
        }

    has_at : (position : ℕ) → StandsIn e i position (items_of rows) → HasAt placed position
    has_at position s = (s.row, are.each position s.row (row_there rows position s.row s.there), passes)
      where
        passes : is_of_interval e i s.row ≡ true
        passes = rw (s.table, s.time) ((Decides-int_eq i.0 i.0).1 refl)

    changed_at : (position : ℕ) → ChangesAt e i position (items_of rows) → HasAt placed position
    changed_at position (inl s) = has_at position s
    changed_at position (inr d) = absurd (true≢false (no_database rows position _ d.1))

    last_in_order : (o : Option ℕ) → IsLastPlaced placed o → IsLastIn e i (items_of rows) o
    last_in_order None none = λ row. none row.position (has_at row.position row.stands)
    last_in_order (Some last) is =
        let s = stands last is.0 in
        (record { position = last; stands = s }, inl s, λ position changes. is.1 position (changed_at position changes))

    one_last : (a b : Option ℕ) → IsLastIn e i (items_of rows) a → IsLastIn e i (items_of rows) b → a ≡ b
    one_last None None first second = refl
    one_last None (Some b) first second = absurd (first second.0)
    one_last (Some a) None first second = absurd (second first.0)
    one_last (Some a) (Some b) first second = ap (λ (n : ℕ). Some n) (omega (arith, first.2 b second.1, second.2 a first.1))

    same_last : last_placed e i placed ≡ last_in e i (items_of rows)
    same_last = one_last (last_placed e i placed) (last_in e i (items_of rows)) (last_in_order (last_placed e i placed) (last_is_placed placed)) (last_is_greatest e i (items_of rows))

pub last_placed_is_last : LastPlacedIsLast
last_placed_is_last e i placed rows are = same_last e i placed rows are

pub placed_marks : PlacedMarksAreMarks
placed_marks e placed rows fills marks are of = record {
  each = λ i. of.each i ∙ ap (λ (o : Option ℕ). mark_by o (base_in i fills) (is_some (in_flight i fills))) (same_last e i placed rows are);
  known = λ i none. of.known i (same_last e i placed rows are ∙ none);
}
