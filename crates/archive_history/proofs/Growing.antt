-- A history in memory with one row more.
use Rattle.std.proofs.Common.{◌≡◌, ℕ, ◌+◌, ◌<◌, ◌≤◌, List, [], ◌∷◌, ◌++◌, length, Bool, true, false, sym, ◌∙◌, ap, subst, arith, append_assoc, length-append}
use Rattle.std.specs.Prelude.{◌==◌, ◌&&◌, if◌then◌else◌}
use Rattle.std.specs.Ordering.{int_eq}
use Rattle.std.specs.List.{AllByRecursion}
use Rattle.std.proofs.lemmas.Bool.Decides.{nat_tests}
use Rattle.intervals.specs.declared.interval.Interval.{Interval}
use Rattle.arch_types.specs.declared.row.Row.{Row}
use Rattle.arch_types.specs.History.{IsHistory}
use Rattle.intervals.specs.Interval.{interval_of}
use Rattle.history_items.specs.declared.items.Item.{Item}
use Rattle.history_items.specs.Items.{after_row, after_rows, is_of_interval, items_of, row_item, rows_in}
use Rattle.history_items.proofs.ItemLists.{items_of-append, keeps_rows, rows_in-append}
use Rattle.history_items.proofs.Outcomes.{after_rows-append, new_in_turn}
use Rattle.archive_history.specs.History.{AreCounted}
use Rattle.archive_history.specs.Limits.{octets_of, interval_rows, IsWithin}
use Rattle.archive_history.specs.LimitCounts.{LimitCountsView, interval_row_count, one_at}
use Rattle.archive_history.proofs.Sums.{octets-append, interval_rows-append, interval_rows-one, within_less}

-- what a row adds to the count of an interval
abbrev pub adds_to : ℕ → Interval → Row → ℕ
adds_to e interval row = if is_of_interval e interval row then 1 else 0

pub adds_here : (e : ℕ) (row : Row) (at i : Interval) → row.table ≡ 0 → at.0 ≡ interval_of e row.key.time → one_at at i ≡ adds_to e i row
adds_here e row at i table time =
    let yes : (row.table == 0) ≡ true = grind (arith, nat_tests, table) in
    ap (λ t. if int_eq t i.0 then 1 else 0) time ∙ sym (ap (λ (b : Bool). if b && int_eq (interval_of e row.key.time) i.0 then 1 else 0) yes)

pub adds_nothing : (e : ℕ) (row : Row) (i : Interval) → (row.table ≡ 0 → ⊥) → adds_to e i row ≡ 0
adds_nothing e row i other =
    let far : (row.table == 0) ≡ false = grind (arith, nat_tests, other) in
    ap (λ (b : Bool). if b && int_eq (interval_of e row.key.time) i.0 then 1 else 0) far

-- ---- counts

-- the counts are those of one row more
pub row_counted : (e : ℕ) (items items' : List Item) (room room' : ℕ) (limit_counts limit_counts' : LimitCountsView) (row : Row) → AreCounted e items room limit_counts → items' ≡ after_row items row → items' ≡ items ++ row_item row ∷ [] → IsWithin e (rows_in items ++ row ∷ []) → room ≡ room' + 1
    → limit_counts'.octets ≡ limit_counts.octets + length row.packet → ((i : Interval) → interval_row_count limit_counts'.rows i ≡ interval_row_count limit_counts.rows i + adds_to e i row) → limit_counts.room ≤ limit_counts'.room + 1 → AreCounted e items' room' limit_counts'
row_counted e items items' room room' limit_counts limit_counts' row k is grown within one octets rows left =
    let more : rows_in items' ≡ rows_in items ++ row ∷ [] = ap rows_in grown ∙ rows_in-append items (row_item row ∷ []) in record {
      history = subst (λ (l : List Item). IsHistory (rows_in l)) (sym is) (keeps_rows items (row ∷ []) k.history);
      within = subst (IsWithin e) (sym more) within;
      octets = omega (arith, octets, k.octets, ap octets_of more, octets-append (rows_in items) (row ∷ []));
      rows = λ i. omega (arith, rows i, k.rows i, ap (interval_rows e i) more, interval_rows-append e i (rows_in items) (row ∷ []), interval_rows-one e i row);
      has_room = omega (arith, one, left, k.has_room);
    }

-- the counts stay where the row's key is known
pub row_known : (e : ℕ) (items items' : List Item) (room room' : ℕ) (limit_counts : LimitCountsView) → AreCounted e items room limit_counts → items' ≡ items → room ≡ room' + 1 → AreCounted e items' room' limit_counts
row_known e items items' room room' limit_counts k same one =
    rw same (let counted : AreCounted e items room' limit_counts = record { history = k.history; within = k.within; octets = k.octets; rows = k.rows; has_room = omega (arith, one, k.has_room) } in counted)

-- ---- rows one after the other

-- the first rows, and one more
pub first_within : (e : ℕ) (before first rest rows : List Row) (row : Row) → first ++ row ∷ rest ≡ rows → IsWithin e (before ++ rows) → IsWithin e ((before ++ first) ++ row ∷ [])
first_within e before first rest rows row is within =
    let whole : ((before ++ first) ++ row ∷ []) ++ rest ≡ before ++ rows =
    append_assoc (before ++ first) (row ∷ []) rest ∙ append_assoc before first (row ∷ rest) ∙ ap (λ (l : List Row). before ++ l) is in
    within_less e ((before ++ first) ++ row ∷ []) rest (subst (IsWithin e) (sym whole) within)

pub table_next : (bound : ℕ) (first rest rows : List Row) (row : Row) → first ++ row ∷ rest ≡ rows → AllByRecursion (λ r. r.table < bound) rows → row.table < bound
table_next bound first rest rows row is all = at_seam first (subst (AllByRecursion (λ r. r.table < bound)) (sym is) all)
  where
    at_seam : (xs : List Row) → AllByRecursion (λ r. r.table < bound) (xs ++ row ∷ rest) → row.table < bound
    at_seam [] all = all.0
    at_seam (x ∷ xs) all = at_seam xs all.1

-- a row that is known keeps all of them from being new
pub not_all : (items : List Item) (first rest rows : List Row) (row : Row) → first ++ row ∷ rest ≡ rows → after_row (items ++ items_of first) row ≡ items ++ items_of first → after_rows items rows ≡ items ++ items_of rows → ⊥
not_all items first rest rows row is known all =
    let split : after_rows items (first ++ row ∷ rest) ≡ items ++ items_of (first ++ row ∷ rest) = subst (λ (l : List Row). after_rows items l ≡ items ++ items_of l) (sym is) all in
    let turn = (new_in_turn items first (row ∷ rest)).0 split in
    let again = (new_in_turn (items ++ items_of first) (row ∷ []) rest).0 turn.1 in
    let same : items ++ items_of first ≡ (items ++ items_of first) ++ row_item row ∷ [] = sym known ∙ again.0 in
    absurd (omega (arith, ap length same, length-append (items ++ items_of first) (row_item row ∷ [])))

-- a row more is new like those before it
pub fresh_next : (items : List Item) (first : List Row) (row : Row) → after_rows items first ≡ items ++ items_of first → after_row (items ++ items_of first) row ≡ (items ++ items_of first) ++ row_item row ∷ []
    → after_rows items (first ++ row ∷ []) ≡ items ++ items_of (first ++ row ∷ [])
fresh_next items first row was is =
    after_rows-append items first (row ∷ []) ∙ ap (λ (l : List Item). after_row l row) was ∙ is
    ∙ append_assoc items (items_of first) (row_item row ∷ []) ∙ ap (λ (l : List Item). items ++ l) (sym (items_of-append first (row ∷ [])))
