-- Sums with rows that go together.
use Rattle.std.proofs.Common.{◌≡◌, ℕ, suc, zero, ◌+◌, ◌<◌, ◌≤◌, List, [], ◌∷◌, ◌++◌, length, set, get_or, Bool, true, false, true≢false, eq-eqb, Some, refl, sym, ap, subst, ◌∙◌, arith, length-append}
use Rattle.std.specs.Prelude.{◌==◌, slice_get, filter}
use Rattle.std.specs.List.{AllByRecursion}
use Rattle.std.proofs.lemmas.Bool.{eqb-true}
use Rattle.std.proofs.lemmas.List.{length-map}
use Rattle.std.proofs.lemmas.Option.{slice_get_within}
use Rattle.arch_types.specs.declared.row.Row.{Row}
use Rattle.arch_types.specs.History.{is_in_table}
use Rattle.intervals.specs.declared.interval.Interval.{Interval}
use Rattle.history_items.specs.Items.{is_of_interval}
use Rattle.partitions.specs.declared.partition.Partition.{Partition}
use Rattle.partitions.specs.Partition.{partition_cmp, partition_of}
use Rattle.partitions.specs.Counts.{rows_counted}
use Rattle.partitions.specs.Rows.{partitions_of}
use Rattle.std.specs.Ordering.{is_eq}
use Rattle.archive_history.specs.LimitCounts.{LimitCountsView, interval_row_count}
use Rattle.archive_history.specs.Limits.{interval_rows}
use Rattle.archive_history.proofs.Steps.{few_filter}
use Rattle.archive_history.proofs.Sums.{interval_rows-append}
use Rattle.sealed_sums.specs.declared.stretch.Stretch.{Stretch}
use Rattle.sealed_sums.specs.Stretch.{IsStretchOf}
use Rattle.sealed_sums.specs.Sums.{AreSumsOf, SumsView}
use Rattle.sealed_sums.specs.TableSums.{AreTableSumsOf, TableSumsView}
use Rattle.sealed_sums.proofs.Stretches.{octets_with, other_same, own_more}

-- ---- an item of a list that is written

get_set : {X : Type 0} (xs : List X) (n : ℕ) (x : X) → n < length xs → slice_get (set xs n x) n ≡ Some x
get_set [] n x within = absurd (omega (arith, within))
get_set (y ∷ xs) zero x within = refl
get_set (y ∷ xs) (suc n) x within = get_set xs n x (omega (arith, within))

get_set_other : {X : Type 0} (xs : List X) (n t : ℕ) (x : X) → (t ≡ n → ⊥) → slice_get (set xs n x) t ≡ slice_get xs t
get_set_other [] n t x other = refl
get_set_other (y ∷ xs) zero zero x other = absurd (other refl)
get_set_other (y ∷ xs) zero (suc t) x other = refl
get_set_other (y ∷ xs) (suc n) zero x other = refl
get_set_other (y ∷ xs) (suc n) (suc t) x other = get_set_other xs n t x (λ same. other (ap suc same))

apart : (t n : ℕ) → (t == n) ≡ false → t ≡ n → ⊥
apart t n other same = true≢false (sym (eq-eqb t n same) ∙ other)

got : {X : Type 0} (xs : List X) (n : ℕ) (x : X) → n < length xs → x ≡ get_or xs n x → slice_get xs n ≡ Some x
got [] n x within is = absurd (omega (arith, within))
got (y ∷ xs) zero x within is = ap (λ z. Some z) (sym is)
got (y ∷ xs) (suc n) x within is = got xs n x (omega (arith, within)) is

pub all_got : {X : Type 0} (P : X → Type 0) (xs : List X) (n : ℕ) (x : X) → AllByRecursion P xs → slice_get xs n ≡ Some x → P x
all_got P [] n x all at = absurd cc
all_got P (y ∷ xs) zero x all at = let same : y ≡ x = cc in subst P same all.0
all_got P (y ∷ xs) (suc n) x all at = all_got P xs n x all.1 at

-- ---- the sums of rows, with more

module _ (old : SumsView) (s : Stretch) (this now : TableSumsView) (within : s.table < length old.tables) (is_this : this ≡ get_or old.tables s.table this) where
  those_same : (those : TableSumsView) → slice_get (set old.tables s.table now) s.table ≡ Some those → now ≡ those
  those_same those at = let same : Some now ≡ Some those = sym (get_set old.tables s.table now within) ∙ at in cc

  at_this : slice_get old.tables s.table ≡ Some this
  at_this = got old.tables s.table this within is_this

  module _ (limit_counts : LimitCountsView) where
    -- the sums, with rows that go together
    abbrev pub more : SumsView
    more = record { exponent = old.exponent; count = old.count + s.len; limit_counts = limit_counts; tables = set old.tables s.table now }

    pub sums_more : (before rows : List Row) → IsStretchOf old.exponent s rows → limit_counts.octets ≡ old.limit_counts.octets + s.octets
        → ((i : Interval) → interval_row_count limit_counts.rows i ≡ interval_row_count old.limit_counts.rows i + interval_rows old.exponent i rows)
        → ((before : List Row) → AreTableSumsOf before this → AreTableSumsOf (before ++ rows) now) → AreSumsOf before old → AreSumsOf (before ++ rows) more
    sums_more before rows is octets intervals told are = record {
      count = omega (arith, are.count, is.len, length-append before rows);
      octets = octets ∙ ap (λ (n : ℕ). n + s.octets) are.octets ∙ sym (octets_with old.exponent s before rows is);
      intervals = λ i. intervals i ∙ ap (λ (n : ℕ). n + interval_rows old.exponent i rows) (are.intervals i) ∙ sym (interval_rows-append old.exponent i before rows);
      tables = λ t those at. by t those at (t == s.table) refl;
    }
      where
        here : AreTableSumsOf (filter (is_in_table s.table) (before ++ rows)) now
        here = subst (λ (l : List Row). AreTableSumsOf l now) (sym (own_more old.exponent s before rows is)) (told (filter (is_in_table s.table) before) (are.tables s.table this at_this))

        by : (t : ℕ) (those : TableSumsView) → slice_get (set old.tables s.table now) t ≡ Some those → (b : Bool) → (t == s.table) ≡ b → AreTableSumsOf (filter (is_in_table t) (before ++ rows)) those
        by t those at true same =
            let table = eqb-true t s.table same in
            let is_now = those_same those (subst (λ (n : ℕ). slice_get (set old.tables s.table now) n ≡ Some those) table at) in
            subst (λ (n : ℕ). AreTableSumsOf (filter (is_in_table n) (before ++ rows)) those) (sym table) (subst (AreTableSumsOf (filter (is_in_table s.table) (before ++ rows))) is_now here)
        by t those at false other =
            subst (λ (l : List Row). AreTableSumsOf l those) (sym (other_same old.exponent s before rows is t other))
            (are.tables t those (sym (get_set_other old.tables s.table t now (apart t s.table other)) ∙ at))

  -- or with a table's as they were
  pub sums_kept : (before : List Row) (limit_counts : LimitCountsView) → limit_counts.octets ≡ old.limit_counts.octets → limit_counts.rows ≡ old.limit_counts.rows
      → ((before : List Row) → AreTableSumsOf before this → AreTableSumsOf before now) → AreSumsOf before old
      → AreSumsOf before (record { exponent = old.exponent; count = old.count; limit_counts = limit_counts; tables = set old.tables s.table now })
  sums_kept before limit_counts octets rows kept are = record {
    count = are.count;
    octets = octets ∙ are.octets;
    intervals = λ i. ap (λ (l : List (Interval × ℕ)). interval_row_count l i) rows ∙ are.intervals i;
    tables = λ t those at. by t those at (t == s.table) refl;
  }
    where
      by : (t : ℕ) (those : TableSumsView) → slice_get (set old.tables s.table now) t ≡ Some those → (b : Bool) → (t == s.table) ≡ b → AreTableSumsOf (filter (is_in_table t) before) those
      by t those at true same =
          let table = eqb-true t s.table same in
          let is_now = those_same those (subst (λ (n : ℕ). slice_get (set old.tables s.table now) n ≡ Some those) table at) in
          subst (λ (n : ℕ). AreTableSumsOf (filter (is_in_table n) before) those) (sym table)
          (subst (AreTableSumsOf (filter (is_in_table s.table) before)) is_now (kept (filter (is_in_table s.table) before) (are.tables s.table this at_this)))
      by t those at false other = are.tables t those (sym (get_set_other old.tables s.table t now (apart t s.table other)) ∙ at)

  -- no partition has more rows than there are
  pub few_counted : (before : List Row) → AreSumsOf before old → (p : Partition) → rows_counted this.partitions.counts p ≤ old.count
  few_counted before are p =
      let table = are.tables s.table this at_this in
      let own = filter (is_in_table s.table) before in
      omega (arith, table.partitions p, few_filter (λ other. is_eq (partition_cmp other p)) (partitions_of own), length-map own (λ row. partition_of row.key.time row.pname), few_filter (is_in_table s.table) before, are.count)

-- with rows of a table that isn't there
pub sums_without : (old : SumsView) (s : Stretch) → length old.tables ≤ s.table → (limit_counts : LimitCountsView) (before rows : List Row) → IsStretchOf old.exponent s rows → limit_counts.octets ≡ old.limit_counts.octets + s.octets
    → ((i : Interval) → interval_row_count limit_counts.rows i ≡ interval_row_count old.limit_counts.rows i + interval_rows old.exponent i rows) → AreSumsOf before old
    → AreSumsOf (before ++ rows) (record { exponent = old.exponent; count = old.count + s.len; limit_counts = limit_counts; tables = old.tables })
sums_without old s beyond limit_counts before rows is octets intervals are = record {
  count = omega (arith, are.count, is.len, length-append before rows);
  octets = octets ∙ ap (λ (n : ℕ). n + s.octets) are.octets ∙ sym (octets_with old.exponent s before rows is);
  intervals = λ i. intervals i ∙ ap (λ (n : ℕ). n + interval_rows old.exponent i rows) (are.intervals i) ∙ sym (interval_rows-append old.exponent i before rows);
  tables = λ t those at. subst (λ (l : List Row). AreTableSumsOf l those) (sym (other_same old.exponent s before rows is t (other t those at))) (are.tables t those at);
}
  where
    other : (t : ℕ) (those : TableSumsView) → slice_get old.tables t ≡ Some those → (t == s.table) ≡ false
    other t those at = by (t == s.table) refl
      where
        by : (b : Bool) → (t == s.table) ≡ b → b ≡ false
        by true same = absurd (omega (arith, eqb-true t s.table same, slice_get_within old.tables t those at, beyond))
        by false differ = refl

pub few_rows : (old : SumsView) (before : List Row) → AreSumsOf before old → (i : Interval) → interval_row_count old.limit_counts.rows i ≤ old.count
few_rows old before are i = omega (arith, are.intervals i, few_filter (is_of_interval old.exponent i) before, are.count)

-- ---- no row

pub sums_none : (e : ℕ) (limit_counts : LimitCountsView) (tables : List TableSumsView) → limit_counts ≡ record { octets = 0; rows = []; room = 0 } → AllByRecursion (AreTableSumsOf []) tables
    → AreSumsOf [] (record { exponent = e; count = 0; limit_counts = limit_counts; tables = tables })
sums_none e limit_counts tables none empty = record {
  count = refl;
  octets = ap (λ (v : LimitCountsView). v.octets) none;
  intervals = λ i. ap (λ (v : LimitCountsView). interval_row_count v.rows i) none;
  tables = λ t those at. all_got (AreTableSumsOf []) tables t those empty at;
}
