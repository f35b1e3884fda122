-- Bases that a fill may have.
use Rattle.std.proofs.Common.{◌≡◌, ℕ, zero, suc, ◌<◌, ◌≤◌, List, [], ◌∷◌, length, take, Bool, true, false, true≢false, eqb, refl, sym, ◌∙◌, ap, arith}
use Rattle.std.specs.Prelude.{◌||◌}
use Rattle.std.specs.List.{list_any}
use Rattle.std.specs.Ordering.{int_eq}
use Rattle.std.proofs.lemmas.Bool.{eqb-true, and_parts}
use Rattle.std.proofs.lemmas.Bool.Decides.{Decides-int_eq}
use Rattle.std.proofs.lemmas.Option.{same_Some}
use Rattle.intervals.specs.declared.interval.Interval.{Interval}
use Rattle.intervals.specs.Interval.{interval_of}
use Rattle.history_items.specs.declared.items.Item.{Item}
use Rattle.history_items.specs.declared.items.Item.TheVariants as items
use Rattle.history_items.specs.Items.{is_of_interval, is_row_of_interval, items_of, row_item}
use Rattle.history_items.proofs.ItemLists.{any_row_of, length-items_of}
use Rattle.history_items.specs.Late.{StandsIn}
use Rattle.arch_types.specs.declared.row.Row.{Row}
use Rattle.interval_fills.specs.Intervals.{HasRowBelow}
use Rattle.archive_core.proofs.OfRows.{take_items}
use Rattle.interval_fills.specs.Steps.{IsFillBase}

first_stands : (e : ℕ) (i : Interval) (x : Item) (xs : List Item) → is_row_of_interval e i x ≡ true → StandsIn e i 0 (x ∷ xs)
first_stands e i (items.Mdb database) xs passes = absurd (true≢false (sym passes))
first_stands e i (items.Row row) xs passes =
    let p = and_parts (eqb row.table 0) (int_eq (interval_of e row.key.time) i.0) passes in
    record { row = row; there = refl; table = eqb-true row.table 0 p.0; time = (Decides-int_eq (interval_of e row.key.time) i.0).0 p.1 }

in_table : (a : ℕ) → a ≡ 0 → eqb a 0 ≡ true
in_table a e = rw e refl

passes_there : (e : ℕ) (i : Interval) (x : Row) → x.table ≡ 0 → interval_of e x.key.time ≡ i.0 → is_of_interval e i x ≡ true
passes_there e i x table time =
    let one : eqb x.table 0 ≡ true = in_table x.table table in
    let two : int_eq (interval_of e x.key.time) i.0 ≡ true = (Decides-int_eq (interval_of e x.key.time) i.0).1 time in
    rw (one, two) refl

behind_first : (e : ℕ) (i : Interval) (front : ℕ) (x : Item) (xs : List Item) → HasRowBelow e i front xs → HasRowBelow e i (suc front) (x ∷ xs)
behind_first e i front x xs has = record {
  position = suc has.position;
  stands = record { row = has.stands.row; there = has.stands.there; table = has.stands.table; time = has.stands.time };
  below = omega (arith, has.below);
}

-- a row among the first is one that stands below the front
there : (e : ℕ) (i : Interval) (front : ℕ) (rows : List Item) → list_any (is_row_of_interval e i) (take front rows) ≡ true → HasRowBelow e i front rows
there e i zero rows any = absurd (true≢false (sym any))
there e i (suc front) [] any = absurd (true≢false (sym any))
there e i (suc front) (x ∷ rows) any = go (is_row_of_interval e i x) refl any (there e i front rows)
  where
    go : (b : Bool) → is_row_of_interval e i x ≡ b → (b || list_any (is_row_of_interval e i) (take front rows)) ≡ true
        → (list_any (is_row_of_interval e i) (take front rows) ≡ true → HasRowBelow e i front rows) → HasRowBelow e i (suc front) (x ∷ rows)
    go true is some deep = record { position = 0; stands = first_stands e i x rows is; below = omega arith }
    go false is some deep = behind_first e i front x rows (deep some)

or_true : (a b : Bool) → b ≡ true → (a || b) ≡ true
or_true true b e = refl
or_true false b e = e

found : (e : ℕ) (i : Interval) (front position : ℕ) (rows : List Item) → StandsIn e i position rows → position < front → list_any (is_row_of_interval e i) (take front rows) ≡ true
found e i zero position rows s under = absurd (omega (arith, under))
found e i (suc front) position [] s under = let at = s.there in absurd cc
found e i (suc front) zero (x ∷ rows) s under =
    let same : x ≡ row_item s.row = same_Some x (row_item s.row) s.there in
    let here : is_row_of_interval e i x ≡ true = ap (is_row_of_interval e i) same ∙ passes_there e i s.row s.table s.time in
    rw here refl
found e i (suc front) (suc position) (x ∷ rows) s under =
    or_true (is_row_of_interval e i x) (list_any (is_row_of_interval e i) (take front rows))
    (found e i front position rows (record { row = s.row; there = s.there; table = s.table; time = s.time }) (omega (arith, under)))

-- the same, of rows alone
any_first : (e : ℕ) (i : Interval) (base : ℕ) (rows : List Row) → list_any (is_row_of_interval e i) (take base (items_of rows)) ≡ list_any (is_of_interval e i) (take base rows)
any_first e i base rows = ap (list_any (is_row_of_interval e i)) (take_items base rows) ∙ any_row_of (is_of_interval e i) (take base rows)

pub base_is : (e : ℕ) (i : Interval) (base : ℕ) (rows : List Row) → base ≤ length rows → list_any (is_of_interval e i) (take base rows) ≡ true → IsFillBase e i base (items_of rows)
base_is e i base rows within any = record { within = omega (arith, within, length-items_of rows); row = there e i base (items_of rows) (any_first e i base rows ∙ any) }

pub base_back : (e : ℕ) (i : Interval) (base : ℕ) (rows : List Row) → IsFillBase e i base (items_of rows) → (base ≤ length rows) × (list_any (is_of_interval e i) (take base rows) ≡ true)
base_back e i base rows is = (omega (arith, is.within, length-items_of rows), sym (any_first e i base rows) ∙ found e i base is.row.position (items_of rows) is.row.stands is.row.below)
