-- The cells of a range of times: those of each segment, merged, are those of the rows.
use Rattle.std.proofs.Common.{◌≡◌, ◌∙◌, ℕ, ◌<◌, ℤ, List, [], ◌∷◌, ◌++◌, length, Bool, true, false, cond, inl, inr, Option, Some, None, refl, sym, ap, subst, arith}
use Rattle.std.specs.Prelude.{◌≤ℤ◌, ◌==◌, filter, flat_map, if◌then◌else◌, int_lt, map, option_map, take, drop}
use Rattle.std.specs.List.{AllByRecursion, cons_option, filter_map, position}
use Rattle.std.specs.List.Sorted.{IsPermutation, IsSortedBy, IsStrictlySortedBy}
use Rattle.std.specs.declared.cmp.Ordering.TheVariants.{Less}
use Rattle.std.proofs.lemmas.Bool.{cases_Bool}
use Rattle.std.proofs.lemmas.Int.{by_lt_z, ints}
use Rattle.std.proofs.lemmas.List.{length-drop, length-take-le}
use Rattle.std.proofs.lemmas.List.Quantifiers.{position-Some}
use Rattle.std.proofs.lemmas.List.Sorted.{IsPermutation-sym}
use Rattle.std.proofs.lemmas.Map.Keys.{sorted_head, sorted_tail}
use Rattle.arch_types.specs.declared.direction.Direction.{Direction}
use Rattle.arch_types.specs.declared.key.Key.{Key}
use Rattle.arch_types.specs.Order.{key_cmp}
use Rattle.container_extract.specs.Values.{raw_among}
use Rattle.container_extract.specs.declared.values.RawValue.{RawValue}
use Rattle.segment_codec.specs.OneColumn.{column_in, column_there}
use Rattle.segment_codec.specs.RangeColumn.{asked_column, asked_rows, first_in, is_key_in_range, keys_before, rows_in_range}
use Rattle.segment_codec.specs.Segment.{IsSegment}
use Rattle.segment_codec.specs.declared.one_column.ParameterColumn.{ParameterColumn}
use Rattle.segment_codec.specs.declared.segment.Segment.{Segment}
use Rattle.segment_codec.proofs.RangeSteps.{count_within, none_before, none_inside}
use Rattle.param_segments.specs.CellRange.{is_raw_cell_in_range, raw_cells_in_range, segment_cells_asked, segment_cells_in_range}
use Rattle.param_segments.specs.Cells.{cells_from, column_cells, is_cell_earlier, raw_cell, raw_cell_of}
use Rattle.param_segments.specs.declared.cell_range.CellRange.{CellRange}
use Rattle.param_segments.specs.Groups.{is_of_group, groups_of, set_of}
use Rattle.param_segments.specs.Rows.{AreSetRows, SetRow}
use Rattle.param_segments.specs.Segments.{rows_of_segment}
use Rattle.param_segments.specs.declared.raw_cell.RawCell.{RawCell}
use Rattle.param_segments.proofs.CellOrder.{Keeps, own_key, cells_same_by}
use Rattle.param_segments.proofs.FirstCells.{cells_first, first_len, first_of_none}
use Rattle.param_segments.proofs.MergedCells.{own_keys}
use Rattle.param_segments.proofs.SegmentCells.{cells_of_groups, cells_rise, lengths, long_at, no_cell, segment_is_cells}
use Rattle.param_segments.proofs.Sorting.{sorted_is}
use Rattle.param_segments.proofs.Stored.{set_is_segments}

-- ---- keys that rise

not_later : (a b : ℤ) → b ≤ℤ a → int_lt a b ≡ false
not_later a b h = grind (arith, ints)

is_later : (a b : ℤ) → int_lt a b ≡ false → b ≤ℤ a
is_later a b h = grind (arith, ints)

through : (a b c : ℤ) → a ≤ℤ b → b ≤ℤ c → a ≤ℤ c
through a b c h k = omega (arith, ints)

-- a key above another has no earlier time
pub times_rise : (a b : Key) → key_cmp a b ≡ Less → a.time ≤ℤ b.time
times_rise a b less =
    by_lt_z b.time a.time
    (λ lt. absurd (
    let here : int_lt a.time b.time ≡ false = not_later a.time b.time (let h = lt in omega (arith, ints)) in
    let there : int_lt b.time a.time ≡ true = grind (arith, ints) in
    let bad = rw (here, there) at less in
    cc))
    (λ le. le)

times_above : (t : ℤ) (k : Key) (keys : List Key) → t ≤ℤ k.time → AllByRecursion (λ (x : Key). key_cmp k x ≡ Less) keys → AllByRecursion (λ (x : Key). t ≤ℤ x.time) keys
times_above t k [] le all = tt
times_above t k (x ∷ keys) le all = (through t k.time x.time le (times_rise k x all.0), times_above t k keys le all.1)

-- ---- a column

abbrev within : ℤ → ℤ → List Key → List Key
within low high keys = filter (is_key_in_range low high) keys

column_cases : (low high : ℤ) (k : Key) (keys : List Key) (v : ℤ) (values : List ℤ) → IsStrictlySortedBy key_cmp (k ∷ keys) →
    cells_from (within low high keys) (take (length (within low high keys)) (drop (keys_before low keys) values)) ≡ filter (is_raw_cell_in_range low high) (cells_from keys values) →
    cells_from (within low high (k ∷ keys)) (take (length (within low high (k ∷ keys))) (drop (keys_before low (k ∷ keys)) (v ∷ values))) ≡ filter (is_raw_cell_in_range low high) (cells_from (k ∷ keys) (v ∷ values))
column_cases low high k keys v values rising more =
    let above = sorted_head key_cmp k keys rising in
    elim (cases_Bool (int_lt k.time low)) [
      | inl before ↦ rw before more
      | inr from ↦
          let none = none_before low keys (times_above low k keys (is_later k.time low from) above) in
          elim (cases_Bool (int_lt k.time high)) [
            | inl inside ↦ rw (from, inside, none) (ap (λ (cells : List RawCell). let cell : RawCell = record { key = k; raw = v } in cell ∷ cells) (rw none at more))
            | inr behind ↦
                let no_more = none_inside low high keys (times_above high k keys (is_later k.time high behind) above) in
                rw (from, behind, no_more) (rw no_more at more)
          ]
    ]

-- the cells of the rows of a range are those of the column in the range
pub column_range_cells : (low high : ℤ) (keys : List Key) (values : List ℤ) → length values ≡ length keys → IsStrictlySortedBy key_cmp keys →
    cells_from (within low high keys) (take (length (within low high keys)) (drop (keys_before low keys) values)) ≡ filter (is_raw_cell_in_range low high) (cells_from keys values)
column_range_cells low high [] values long rising = refl
column_range_cells low high (k ∷ keys) [] long rising = absurd (omega (arith, long))
column_range_cells low high (k ∷ keys) (v ∷ values) long rising =
    column_cases low high k keys v values rising (column_range_cells low high keys values (omega (arith, long)) (sorted_tail key_cmp k keys rising))

-- there are as many values as keys
pub part_long : (low high : ℤ) (keys : List Key) (values : List ℤ) → length values ≡ length keys → length (take (length (within low high keys)) (drop (keys_before low keys) values)) ≡ length (within low high keys)
part_long low high keys values long = length-take-le (length (within low high keys)) (drop (keys_before low keys) values) (omega (arith, count_within low high keys, length-drop (keys_before low keys) values, long))

-- ---- a segment

-- a column that may be there has as many values as keys
abbrev pub IsEven : Option ParameterColumn → Type 0
IsEven None = Unit {0}
IsEven (Some column) = length column.values ≡ length column.keys

-- the same, with keys that rise
abbrev IsRising : Option ParameterColumn → Type 0
IsRising None = Unit {0}
IsRising (Some column) = IsStrictlySortedBy key_cmp column.keys

there_cases : (q : ℕ) (s : Segment) → IsSegment s → (o : Option ℕ) → ((j : ℕ) → o ≡ Some j → j < length s.columns) → IsEven (option_map (column_there s) o) × IsRising (option_map (column_there s) o)
there_cases q s is None below = (tt, tt)
there_cases q s is (Some j) below = (long_at (length s.keys) s.columns j (below j refl) (lengths (length s.keys) s.columns is.columns), is.rising)

column_is : (q : ℕ) (s : Segment) → IsSegment s → IsEven (column_in q s) × IsRising (column_in q s)
column_is q s is = there_cases q s is (position (λ p. p == q) s.parameters) (λ j e. subst (λ (n : ℕ). j < n) (sym is.column_count) (position-Some (λ p. p == q) s.parameters j 0 e).0)

-- and of these the first so many that are asked
asked_cases : (low high : ℤ) (direction : Direction) (limit : Option ℕ) (o : Option ParameterColumn) → IsEven o → IsRising o →
    IsEven (option_map (asked_rows low high direction limit) o) × (column_cells (option_map (asked_rows low high direction limit) o) ≡ first_in direction limit (filter (is_raw_cell_in_range low high) (column_cells o)))
asked_cases low high direction limit None even rising = (tt, sym (first_of_none direction limit))
asked_cases low high direction limit (Some column) even rising =
    let c = rows_in_range low high column in
    let long = part_long low high column.keys column.values even in (
      first_len direction limit c.values c.keys long,
      cells_first direction limit c.keys c.values long ∙ ap (first_in direction limit) (column_range_cells low high column.keys column.values even rising),
    )

pub segment_asked_cells : (q : ℕ) (range : CellRange) (s : Segment) → IsSegment s →
    IsEven (asked_column q range.from range.to range.direction range.limit s) × (column_cells (asked_column q range.from range.to range.direction range.limit s) ≡ segment_cells_asked q range s)
segment_asked_cells q range s is = let c = column_is q s is in asked_cases range.from range.to range.direction range.limit (column_in q s) c.0 c.1

-- ---- rows

-- the raw cell of a parameter in a row, where it has one and its time lies in a range
abbrev timely_cell : ℕ → ℤ → ℤ → SetRow → Option RawCell
timely_cell q low high row = if is_key_in_range low high row.key then raw_cell_of q row else None

keeps_cases : (q : ℕ) (t : SetRow) (c : RawCell) (b : Bool) → (if b then raw_cell_of q t else None) ≡ Some c → c.key ≡ t.key
keeps_cases q t c true e = own_key q t c e
keeps_cases q t c false e = absurd cc

keeps : (q : ℕ) (low high : ℤ) → Keeps (timely_cell q low high)
keeps q low high t c e = keeps_cases q t c (is_key_in_range low high t.key) e

timely_cases : (low high : ℤ) (key : Key) (o : Option RawValue) (b : Bool) (rest more : List RawCell) → is_key_in_range low high key ≡ b → filter (is_raw_cell_in_range low high) rest ≡ more →
    filter (is_raw_cell_in_range low high) (cons_option (option_map (raw_cell key) o) rest) ≡ cons_option (if b then option_map (raw_cell key) o else None) more
timely_cases low high key None true rest more e h = h
timely_cases low high key None false rest more e h = h
timely_cases low high key (Some v) true rest more e h = ap (λ (t : Bool). cond t (raw_cell key v ∷ filter (is_raw_cell_in_range low high) rest) (filter (is_raw_cell_in_range low high) rest)) e ∙ ap (λ (cells : List RawCell). raw_cell key v ∷ cells) h
timely_cases low high key (Some v) false rest more e h = ap (λ (t : Bool). cond t (raw_cell key v ∷ filter (is_raw_cell_in_range low high) rest) (filter (is_raw_cell_in_range low high) rest)) e ∙ h

timely_are : (q : ℕ) (low high : ℤ) (rows : List SetRow) → raw_cells_in_range q low high rows ≡ filter_map (timely_cell q low high) rows
timely_are q low high [] = refl
timely_are q low high (row ∷ rows) =
    timely_cases low high row.key (raw_among q row.values) (is_key_in_range low high row.key) (filter_map (raw_cell_of q) rows) (filter_map (timely_cell q low high) rows) refl (timely_are q low high rows)

-- ---- all segments

timely_segment : (q : ℕ) (low high : ℤ) (s : Segment) → IsSegment s → segment_cells_in_range q low high s ≡ filter_map (timely_cell q low high) (rows_of_segment s)
timely_segment q low high s is = ap (filter (is_raw_cell_in_range low high)) (segment_is_cells q s is) ∙ timely_are q low high (rows_of_segment s)

-- the keys of the cells of each segment rise
pub each_rises : (q : ℕ) (low high : ℤ) (ss : List Segment) → AllByRecursion IsSegment ss → AllByRecursion (λ s. IsStrictlySortedBy key_cmp (map (λ c. c.key) (segment_cells_in_range q low high s))) ss
each_rises q low high [] all = tt
each_rises q low high (s ∷ ss) all =
    let keys = subst (IsStrictlySortedBy key_cmp) (sym (own_keys s.parameters s.keys s.columns)) all.0.rising in (
      subst (λ (cells : List RawCell). IsStrictlySortedBy key_cmp (map (λ c. c.key) cells)) (sym (timely_segment q low high s all.0)) (cells_rise (timely_cell q low high) (rows_of_segment s) (keeps q low high) keys),
      each_rises q low high ss all.1,
    )

each_timely : (q : ℕ) (low high : ℤ) (ss : List Segment) → AllByRecursion IsSegment ss → flat_map (segment_cells_in_range q low high) ss ≡ flat_map (λ s. filter_map (timely_cell q low high) (rows_of_segment s)) ss
each_timely q low high [] all = refl
each_timely q low high (s ∷ ss) all =
    ap (λ (cells : List RawCell). cells ++ flat_map (segment_cells_in_range q low high) ss) (timely_segment q low high s all.0)
    ∙ ap (λ (cells : List RawCell). filter_map (timely_cell q low high) (rows_of_segment s) ++ cells) (each_timely q low high ss all.1)

-- those of each segment are those of the rows
pub range_cells_same : (q : ℕ) (low high : ℤ) (ts : List SetRow) → AreSetRows ts → IsPermutation (flat_map (segment_cells_in_range q low high) (set_of ts)) (raw_cells_in_range q low high ts)
range_cells_same q low high ts are =
    let f = timely_cell q low high in
    let groups : flat_map (segment_cells_in_range q low high) (set_of ts) ≡ flat_map (λ g. filter_map f (filter (is_of_group g) ts)) (groups_of ts) = each_timely q low high (set_of ts) (set_is_segments ts are) ∙ cells_of_groups f ts in
    subst (λ (xs : List RawCell). IsPermutation xs (raw_cells_in_range q low high ts)) (sym groups) (subst (IsPermutation (flat_map (λ g. filter_map f (filter (is_of_group g) ts)) (groups_of ts))) (sym (timely_are q low high ts)) (cells_same_by f ts (keeps q low high) are))

pub range_cells_rise : (q : ℕ) (low high : ℤ) (ts : List SetRow) → AreSetRows ts → IsStrictlySortedBy key_cmp (map (λ c. c.key) (raw_cells_in_range q low high ts))
range_cells_rise q low high ts are =
    subst (λ (cells : List RawCell). IsStrictlySortedBy key_cmp (map (λ c. c.key) cells)) (sym (timely_are q low high ts)) (cells_rise (timely_cell q low high) ts (keeps q low high) are.rising)

-- what is gathered of a range, sorted by key, are the cells of the rows in it
pub range_cells_are : (q : ℕ) (low high : ℤ) (ts : List SetRow) (mixed sorted : List RawCell) → AreSetRows ts → mixed ≡ flat_map (segment_cells_in_range q low high) (set_of ts) → IsPermutation mixed sorted → IsSortedBy is_cell_earlier sorted →
    sorted ≡ raw_cells_in_range q low high ts
range_cells_are q low high ts mixed sorted are is same up =
    let all = raw_cells_in_range q low high ts in
    let whole : IsPermutation mixed all = subst (λ (xs : List RawCell). IsPermutation xs all) (sym is) (range_cells_same q low high ts are) in
    sorted_is (λ (c : RawCell). c.key) no_cell all mixed sorted (range_cells_rise q low high ts are) (IsPermutation-sym mixed all whole) same up
