-- Rows that go together, and what they come to.
use Rattle.std.proofs.Common.{◌≡◌, eq-eqb, ℕ, ℤ, ◌+◌, ◌*◌, ◌<◌, List, [], ◌∷◌, ◌++◌, length, map, Bool, true, false, cond, refl, sym, ap, subst, ◌∙◌, arith, append-nil, length-append}
use Rattle.std.specs.Prelude.{◌==◌, ◌&&◌, not, filter, replicate, if◌then◌else◌, int_lt}
use Rattle.std.specs.List.{AllByRecursion}
use Rattle.std.specs.Ordering.{int_eq}
use Rattle.std.proofs.lemmas.Bool.{eqb-true, and_parts}
use Rattle.std.proofs.lemmas.Bool.Decides.{Decides-int_eq}
use Rattle.std.proofs.lemmas.List.{map-append}
use Rattle.std.proofs.lemmas.List.Elements.{filter-append}
use Rattle.std.proofs.lemmas.List.Sorted.{length_permutation}
use Rattle.arch_types.specs.declared.row.Row.{Row}
use Rattle.arch_types.specs.declared.spans.Span.{Span}
use Rattle.arch_types.specs.History.{is_in_table}
use Rattle.arch_types.specs.Order.{order_by}
use Rattle.arch_types.proofs.InOrder.{order_same}
use Rattle.intervals.specs.declared.interval.Interval.{Interval}
use Rattle.history_items.specs.Items.{is_of_interval}
use Rattle.history_items.specs.Fills.{is_same}
use Rattle.histogram.specs.declared.histogram.NamedTime.{NamedTime}
use Rattle.histogram.specs.Spans.{is_near, pieces_of, span_of, with_first}
use Rattle.histogram.specs.Times.{named_times, AreOneSpan}
use Rattle.partitions.specs.declared.partition.Partition.{Partition}
use Rattle.partitions.specs.Partition.{partition_of}
use Rattle.partitions.specs.Rows.{partitions_of}
use Rattle.archive_history.specs.LimitCounts.{one_at}
use Rattle.archive_history.specs.Limits.{interval_rows, octets_of}
use Rattle.archive_history.specs.PartitionedTable.{named_times_of}
use Rattle.archive_history.proofs.Sums.{interval_rows-append, octets-append}
use Rattle.sealed_sums.specs.declared.stretch.Stretch.{Stretch}
use Rattle.sealed_sums.specs.Stretch.{GoesWith, IsStretchOf, times_of_rows}

-- ---- a list and one more

pub each-push : {X : Type 0} (P : X → Type 0) (xs : List X) (x : X) → AllByRecursion P xs → P x → AllByRecursion P (xs ++ x ∷ [])
each-push P [] x all is = (is, tt)
each-push P (y ∷ xs) x all is = (all.0, each-push P xs x all.1 is)

-- ---- how many times one record has

-- the lengths of pieces
abbrev lengths : List (List ℤ) → ℕ
lengths [] = 0
lengths (piece ∷ pieces) = length piece + lengths pieces

-- the counts of records
abbrev counts : List Span → ℕ
counts [] = 0
counts (span ∷ spans) = span.count + counts spans

length-first : (time : ℤ) (pieces : List (List ℤ)) → lengths (with_first time pieces) ≡ lengths pieces + 1
length-first time [] = omega arith
length-first time ([] ∷ pieces) = omega arith
length-first time ((next ∷ piece) ∷ pieces) = by (is_near time next)
  where
    by : (b : Bool) → lengths (if b then (time ∷ next ∷ piece) ∷ pieces else ((time ∷ []) ∷ (next ∷ piece) ∷ pieces)) ≡ lengths ((next ∷ piece) ∷ pieces) + 1
    by true = omega arith
    by false = omega arith

length-pieces : (times : List ℤ) → lengths (pieces_of times) ≡ length times
length-pieces [] = refl
length-pieces (time ∷ times) = omega (arith, length-first time (pieces_of times), length-pieces times)

count-pieces : (pieces : List (List ℤ)) → counts (map span_of pieces) ≡ lengths pieces
count-pieces [] = refl
count-pieces ([] ∷ pieces) = omega (arith, count-pieces pieces)
count-pieces ((time ∷ piece) ∷ pieces) = omega (arith, count-pieces pieces)

-- one record counts its times
pub one_count : (span : Span) (times : List ℤ) → AreOneSpan span times → span.count ≡ length times
one_count span times one =
    let sorted = order_by int_lt times in
    omega (arith, ap counts one, count-pieces (pieces_of sorted), length-pieces sorted, length_permutation times sorted (order_same int_lt times))

-- ---- what rows that go together come to

module _ (e table : ℕ) (interval : Interval) (partition : Partition) where
  -- their partition, once for each
  pub partitions_are : (rows : List Row) → AllByRecursion (GoesWith e table interval partition) rows → partitions_of rows ≡ replicate (length rows) partition
  partitions_are [] each = refl
  partitions_are (row ∷ rows) each =
      let first : partition_of row.key.time row.pname ≡ partition = each.0.of_partition in
      ap (λ (p : Partition). p ∷ partitions_of rows) first ∙ ap (λ (ps : List Partition). partition ∷ ps) (partitions_are rows each.1)

  -- times of one packet name
  pub named_are : (rows : List Row) → AllByRecursion (GoesWith e table interval partition) rows → named_times_of rows ≡ named_times partition.pname (times_of_rows rows)
  named_are [] each = refl
  named_are (row ∷ rows) each =
      let pname : row.pname ≡ partition.pname = ap (λ (p : Partition). p.pname) each.0.of_partition in
      ap (λ (n : ℕ). (let at : NamedTime = record { pname = n; time = row.key.time } in at) ∷ named_times_of rows) pname
      ∙ ap (λ (ts : List NamedTime). (let at : NamedTime = record { pname = partition.pname; time = row.key.time } in at) ∷ ts) (named_are rows each.1)

  -- rows of one table
  pub own_table : (rows : List Row) → AllByRecursion (GoesWith e table interval partition) rows → filter (is_in_table table) rows ≡ rows
  own_table [] each = refl
  own_table (row ∷ rows) each =
      let is : (table == row.table) ≡ true = eq-eqb table row.table (sym each.0.of_table) in
      rw is (ap (λ (l : List Row). row ∷ l) (own_table rows each.1))

  pub other_table : (t : ℕ) → (t == table) ≡ false → (rows : List Row) → AllByRecursion (GoesWith e table interval partition) rows → filter (is_in_table t) rows ≡ []
  other_table t other [] each = refl
  other_table t other (row ∷ rows) each =
      let is : (t == row.table) ≡ false = ap (λ (n : ℕ). t == n) each.0.of_table ∙ other in
      rw is (other_table t other rows each.1)

  -- of table `tm` all are of the interval, and of no other
  tm_rows : (i : Interval) (b : Bool) → is_same interval i ≡ b → table ≡ 0 → (rows : List Row) → AllByRecursion (GoesWith e table interval partition) rows → interval_rows e i rows ≡ (if b then 1 else 0) * length rows
  tm_rows i true is tm [] each = refl
  tm_rows i false is tm [] each = refl
  tm_rows i b is tm (row ∷ rows) each = rw passes (step b (tm_rows i b is tm rows each.1))
    where
      passes : is_of_interval e i row ≡ b
      passes = let in_tm : row.table ≡ 0 = each.0.of_table ∙ tm in rw (in_tm, each.0.of_interval) is

      step : (d : Bool) → interval_rows e i rows ≡ (if d then 1 else 0) * length rows → length (cond d (row ∷ filter (is_of_interval e i) rows) (filter (is_of_interval e i) rows)) ≡ (if d then 1 else 0) * length (row ∷ rows)
      step true rest = omega (arith, rest)
      step false rest = omega (arith, rest)

  pub interval_all : (i : Interval) → table ≡ 0 → (rows : List Row) → AllByRecursion (GoesWith e table interval partition) rows → interval_rows e i rows ≡ one_at interval i * length rows
  interval_all i = tm_rows i (is_same interval i) refl

  pub interval_none : (i : Interval) → (table == 0) ≡ false → (rows : List Row) → AllByRecursion (GoesWith e table interval partition) rows → interval_rows e i rows ≡ 0
  interval_none i other [] each = refl
  interval_none i other (row ∷ rows) each =
      let is : (row.table == 0) ≡ false = ap (λ (n : ℕ). n == 0) each.0.of_table ∙ other in
      rw is (interval_none i other rows each.1)

-- ---- what a row has as others have it

pub alike : (b : Bool) → false ≡ not b → b ≡ true
alike true is = refl
alike false is = absurd cc

pub same_interval : (a b : Interval) → false ≡ not (int_eq a.0 b.0) → a.0 ≡ b.0
same_interval a b is = (Decides-int_eq a.0 b.0).0 (alike (int_eq a.0 b.0) is)

pub same_partition : (a b : Partition) → false ≡ not (int_eq a.day b.day && (a.pname == b.pname)) → a ≡ b
same_partition a b is =
    let parts = and_parts (int_eq a.day b.day) (a.pname == b.pname) (alike (int_eq a.day b.day && (a.pname == b.pname)) is) in
    ap (λ (day : ℤ). let p : Partition = record { day = day; pname = a.pname } in p) ((Decides-int_eq a.day b.day).0 parts.0)
    ∙ ap (λ (pname : ℕ). let p : Partition = record { day = b.day; pname = pname } in p) (eqb-true a.pname b.pname parts.1)

-- ---- one row more

pub octets-push : (rows : List Row) (row : Row) → octets_of (rows ++ row ∷ []) ≡ octets_of rows + length row.packet
octets-push rows row = omega (arith, octets-append rows (row ∷ []))

abbrev longer : Stretch → Span → ℕ → Stretch
longer old span packet = record { len = old.len + 1; table = old.table; interval = old.interval; partition = old.partition; span = span; octets = old.octets + packet }

pub one_more : (e : ℕ) (old : Stretch) (span : Span) (packet : ℕ) (rows : List Row) (row : Row) → IsStretchOf e old rows → GoesWith e old.table old.interval old.partition row
    → ((times : List ℤ) → AreOneSpan old.span times → AreOneSpan span (times ++ row.key.time ∷ [])) → packet ≡ length row.packet → packet < 4294967296 → IsStretchOf e (longer old span packet) (rows ++ row ∷ [])
one_more e old span packet rows row is goes near octets small = record {
  some = omega arith;
  len = omega (arith, is.len, length-append rows (row ∷ []));
  each = each-push (GoesWith e old.table old.interval old.partition) rows row is.each goes;
  span = subst (AreOneSpan span) (sym (map-append (λ (r : Row). r.key.time) rows (row ∷ []))) (near (times_of_rows rows) is.span);
  octets = omega (arith, is.octets, octets-push rows row, octets);
  small = omega (arith, is.small, small);
}

-- ---- what rows come to, with a stretch more

module _ (e : ℕ) (s : Stretch) (before rows : List Row) (is : IsStretchOf e s rows) where
  pub partitions_more : partitions_of (before ++ rows) ≡ partitions_of before ++ replicate s.len s.partition
  partitions_more =
      map-append (λ (row : Row). partition_of row.key.time row.pname) before rows
      ∙ ap (λ (ps : List Partition). partitions_of before ++ ps) (partitions_are e s.table s.interval s.partition rows is.each ∙ ap (λ (n : ℕ). replicate n s.partition) (sym is.len))

  pub named_more : named_times_of (before ++ rows) ≡ named_times_of before ++ named_times s.partition.pname (times_of_rows rows)
  named_more =
      map-append (λ (row : Row). let at : NamedTime = record { pname = row.pname; time = row.key.time } in at) before rows
      ∙ ap (λ (ts : List NamedTime). named_times_of before ++ ts) (named_are e s.table s.interval s.partition rows is.each)

  pub octets_with : octets_of (before ++ rows) ≡ octets_of before + s.octets
  octets_with = omega (arith, octets-append before rows, is.octets)

  -- of table `tm` its interval has so many rows more
  pub intervals_more : (i : Interval) → s.table ≡ 0 → interval_rows e i (before ++ rows) ≡ interval_rows e i before + one_at s.interval i * s.len
  intervals_more i tm = interval_rows-append e i before rows ∙ ap (λ (n : ℕ). interval_rows e i before + n) (interval_all e s.table s.interval s.partition i tm rows is.each ∙ ap (λ (n : ℕ). one_at s.interval i * n) (sym is.len))

  pub intervals_same : (i : Interval) → (s.table == 0) ≡ false → interval_rows e i (before ++ rows) ≡ interval_rows e i before
  intervals_same i other = omega (arith, interval_rows-append e i before rows, interval_none e s.table s.interval s.partition i other rows is.each)

  pub own_more : filter (is_in_table s.table) (before ++ rows) ≡ filter (is_in_table s.table) before ++ rows
  own_more = filter-append (is_in_table s.table) before rows ∙ ap (λ (l : List Row). filter (is_in_table s.table) before ++ l) (own_table e s.table s.interval s.partition rows is.each)

  pub other_same : (t : ℕ) → (t == s.table) ≡ false → filter (is_in_table t) (before ++ rows) ≡ filter (is_in_table t) before
  other_same t other =
      filter-append (is_in_table t) before rows ∙ ap (λ (l : List Row). filter (is_in_table t) before ++ l) (other_table e s.table s.interval s.partition t other rows is.each)
      ∙ append-nil (filter (is_in_table t) before)
