use Rattle.std.proofs.Common.{◌≡◌, ◌+◌, ◌++◌, ◌<◌, ◌∙◌, length, sym, subst, ap, arith}
use Rattle.archive_history.specs.LimitCounts.{LimitCountsView, interval_row_count}
use Rattle.archive_history.specs.Limits.{interval_rows}
use Rattle.intervals.specs.declared.interval.Interval.{Interval}
use Rattle.sealed_sums.specs.Stretch.{IsStretchOf}
use Rattle.sealed_sums.specs.Sums.{AreSumsOf, SumsView}
use Rattle.sealed_sums.proofs.Summing.{few_counted, few_rows, sums_kept, sums_more}
use Rattle.sealed_sums.proofs.sums.SealedSums.add_to_table.Goals as goal

pub add_stretch-requires-clause-small : goal.add_stretch-requires-clause-small
add_stretch-requires-clause-small c = λ p.
    let in' = c.self.inside in
    let old : SumsView = record { exponent = in'.exponent; count = in'.count; limit_counts = in'.limit_counts; tables = in'.tables.items } in
    let this = c.index_mut.result.now in
    let within : c.args.stretch.now.table < length in'.tables.items = omega (arith, c.requires.table, ap (λ (v : SumsView). length v.tables) c.self.view_is) in
    omega (arith, c.requires.few, ap (λ (v : SumsView). v.count) c.self.view_is, few_counted old c.args.stretch.now this this within c.index_mut.ensures.value c.self.invariant.rows c.self.invariant.are p)

pub count_stretch-requires-clause-few : goal.count_stretch-requires-clause-few
count_stretch-requires-clause-few c =
    let in' = c.self.inside in
    let old : SumsView = record { exponent = in'.exponent; count = in'.count; limit_counts = in'.limit_counts; tables = in'.tables.items } in
    let i = c.args.stretch.now.interval in
    let same = ap (λ (v : LimitCountsView). interval_row_count v.rows i) c.in_ok-reserve.ensures.ok in
    omega (arith, c.requires.few, ap (λ (v : SumsView). v.count) c.self.view_is, few_rows old c.self.invariant.rows c.self.invariant.are i, same)

pub invariant_of-self-in_err-add_stretch : goal.invariant_of-self-in_err-add_stretch
invariant_of-self-in_err-add_stretch c =
    let in' = c.self.inside in
    let old : SumsView = record { exponent = in'.exponent; count = in'.count; limit_counts = in'.limit_counts; tables = in'.tables.items } in
    let within : c.args.stretch.now.table < length in'.tables.items = omega (arith, c.requires.table, ap (λ (v : SumsView). length v.tables) c.self.view_is) in
    let octets = ap (λ (v : LimitCountsView). v.octets) c.in_ok-reserve.ensures.ok in
    let rows = ap (λ (v : LimitCountsView). v.rows) c.in_ok-reserve.ensures.ok in
    record {
      rows = c.self.invariant.rows;
      are = sums_kept old c.args.stretch.now c.index_mut.result.now c.add_stretch.new.self within c.index_mut.ensures.value c.self.invariant.rows c.reserve.new.self octets rows c.in_err-add_stretch.ensures.kept c.self.invariant.are;
      small = omega (arith, octets, c.self.invariant.small);
    }

pub invariant_of-self-2 : goal.invariant_of-self-2
invariant_of-self-2 c =
    let in' = c.self.inside in
    let s = c.args.stretch.now in
    let old : SumsView = record { exponent = in'.exponent; count = in'.count; limit_counts = in'.limit_counts; tables = in'.tables.items } in
    let within : s.table < length in'.tables.items = omega (arith, c.requires.table, ap (λ (v : SumsView). length v.tables) c.self.view_is) in
    let rows = c.requires.stretch.0 in
    let is : IsStretchOf in'.exponent s rows = subst (λ (v : SumsView). IsStretchOf v.exponent s rows) (sym c.self.view_is) c.requires.stretch.1 in
    let octets : c.count_stretch.new.counts.octets ≡ in'.limit_counts.octets + s.octets = c.count_stretch.ensures.octets ∙ ap (λ (v : LimitCountsView). v.octets + s.octets) c.in_ok-reserve.ensures.ok in
    let intervals : (i : Interval) → interval_row_count c.count_stretch.new.counts.rows i ≡ interval_row_count in'.limit_counts.rows i + interval_rows in'.exponent i rows =
    λ i. c.count_stretch.ensures.intervals in'.exponent rows is i ∙ ap (λ (v : LimitCountsView). interval_row_count v.rows i + interval_rows in'.exponent i rows) c.in_ok-reserve.ensures.ok
    in
    record {
      rows = c.self.invariant.rows ++ rows;
      are = sums_more old s c.index_mut.result.now c.add_stretch.new.self within c.index_mut.ensures.value c.count_stretch.new.counts c.self.invariant.rows rows is octets intervals
          (λ before. c.in_ok-add_stretch.ensures.sums in'.exponent before rows is) c.self.invariant.are;
      small = omega (arith, octets, c.self.invariant.small, is.small);
    }

pub returns-clause-sums : goal.returns-clause-sums
returns-clause-sums c = λ before rows is' are'.
    let in' = c.self.inside in
    let s = c.args.stretch.now in
    let old : SumsView = record { exponent = in'.exponent; count = in'.count; limit_counts = in'.limit_counts; tables = in'.tables.items } in
    let within : s.table < length in'.tables.items = omega (arith, c.requires.table, ap (λ (v : SumsView). length v.tables) c.self.view_is) in
    let is : IsStretchOf in'.exponent s rows = subst (λ (v : SumsView). IsStretchOf v.exponent s rows) (sym c.self.view_is) is' in
    let are : AreSumsOf before old = subst (AreSumsOf before) (sym c.self.view_is) are' in
    let octets : c.count_stretch.new.counts.octets ≡ in'.limit_counts.octets + s.octets = c.count_stretch.ensures.octets ∙ ap (λ (v : LimitCountsView). v.octets + s.octets) c.in_ok-reserve.ensures.ok in
    let intervals : (i : Interval) → interval_row_count c.count_stretch.new.counts.rows i ≡ interval_row_count in'.limit_counts.rows i + interval_rows in'.exponent i rows =
    λ i. c.count_stretch.ensures.intervals in'.exponent rows is i ∙ ap (λ (v : LimitCountsView). interval_row_count v.rows i + interval_rows in'.exponent i rows) c.in_ok-reserve.ensures.ok
    in
    sums_more old s c.index_mut.result.now c.add_stretch.new.self within c.index_mut.ensures.value c.count_stretch.new.counts before rows is octets intervals
    (λ before. c.in_ok-add_stretch.ensures.sums in'.exponent before rows is) are
