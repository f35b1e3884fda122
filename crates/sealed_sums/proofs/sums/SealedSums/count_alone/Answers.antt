use Rattle.std.proofs.Common.{◌≡◌, ◌+◌, ◌++◌, ◌≤◌, ◌∙◌, length, sym, subst, ap, arith}
use Rattle.archive_history.specs.LimitCounts.{LimitCountsView, interval_row_count}
use Rattle.archive_history.specs.Limits.{interval_rows}
use Rattle.intervals.specs.declared.interval.Interval.{Interval}
use Rattle.sealed_sums.specs.Stretch.{IsStretchOf}
use Rattle.sealed_sums.specs.Sums.{AreSumsOf, SumsView}
use Rattle.sealed_sums.proofs.Summing.{few_rows, sums_without}
use Rattle.sealed_sums.proofs.sums.SealedSums.count_alone.Goals as goal

pub count_stretch-requires-clause-few : goal.count_stretch-requires-clause-few
count_stretch-requires-clause-few c =
    let in' = c.self.inside in
    let old : SumsView = record { exponent = in'.exponent; count = in'.count; limit_counts = in'.limit_counts; tables = in'.tables.items } in
    let i = c.args.stretch.now.interval in
    let same = ap (λ (v : LimitCountsView). interval_row_count v.rows i) c.in_ok-reserve.ensures.ok in
    omega (arith, c.requires.few, ap (λ (v : SumsView). v.count) c.self.view_is, few_rows old c.self.invariant.rows c.self.invariant.are i, same)

pub invariant_of-self-2 : goal.invariant_of-self-2
invariant_of-self-2 c =
    let in' = c.self.inside in
    let s = c.args.stretch.now in
    let old : SumsView = record { exponent = in'.exponent; count = in'.count; limit_counts = in'.limit_counts; tables = in'.tables.items } in
    let beyond : length in'.tables.items ≤ s.table = omega (arith, c.requires.table, ap (λ (v : SumsView). length v.tables) c.self.view_is) in
    let rows = c.requires.stretch.0 in
    let is : IsStretchOf in'.exponent s rows = subst (λ (v : SumsView). IsStretchOf v.exponent s rows) (sym c.self.view_is) c.requires.stretch.1 in
    let octets : c.count_stretch.new.counts.octets ≡ in'.limit_counts.octets + s.octets = c.count_stretch.ensures.octets ∙ ap (λ (v : LimitCountsView). v.octets + s.octets) c.in_ok-reserve.ensures.ok in
    let intervals : (i : Interval) → interval_row_count c.count_stretch.new.counts.rows i ≡ interval_row_count in'.limit_counts.rows i + interval_rows in'.exponent i rows =
    λ i. c.count_stretch.ensures.intervals in'.exponent rows is i ∙ ap (λ (v : LimitCountsView). interval_row_count v.rows i + interval_rows in'.exponent i rows) c.in_ok-reserve.ensures.ok
    in
    record {
      rows = c.self.invariant.rows ++ rows;
      are = sums_without old s beyond c.count_stretch.new.counts c.self.invariant.rows rows is octets intervals c.self.invariant.are;
      small = omega (arith, octets, c.self.invariant.small, is.small);
    }

pub returns-clause-sums : goal.returns-clause-sums
returns-clause-sums c = λ before rows is' are'.
    let in' = c.self.inside in
    let s = c.args.stretch.now in
    let old : SumsView = record { exponent = in'.exponent; count = in'.count; limit_counts = in'.limit_counts; tables = in'.tables.items } in
    let beyond : length in'.tables.items ≤ s.table = omega (arith, c.requires.table, ap (λ (v : SumsView). length v.tables) c.self.view_is) in
    let is : IsStretchOf in'.exponent s rows = subst (λ (v : SumsView). IsStretchOf v.exponent s rows) (sym c.self.view_is) is' in
    let are : AreSumsOf before old = subst (AreSumsOf before) (sym c.self.view_is) are' in
    let octets : c.count_stretch.new.counts.octets ≡ in'.limit_counts.octets + s.octets = c.count_stretch.ensures.octets ∙ ap (λ (v : LimitCountsView). v.octets + s.octets) c.in_ok-reserve.ensures.ok in
    let intervals : (i : Interval) → interval_row_count c.count_stretch.new.counts.rows i ≡ interval_row_count in'.limit_counts.rows i + interval_rows in'.exponent i rows =
    λ i. c.count_stretch.ensures.intervals in'.exponent rows is i ∙ ap (λ (v : LimitCountsView). interval_row_count v.rows i + interval_rows in'.exponent i rows) c.in_ok-reserve.ensures.ok
    in
    sums_without old s beyond c.count_stretch.new.counts before rows is octets intervals are
