use Rattle.std.proofs.Common.{◌∙◌, sym, subst, ap, arith}
use Rattle.histogram.specs.Times.{IsHistogramOf}
use Rattle.partitions.specs.Counts.{rows_counted, AreCountsOf, PartitionCountsView}
use Rattle.partitions.specs.Rows.{partitions_of}
use Rattle.archive_history.specs.PartitionedTable.{named_times_of}
use Rattle.sealed_sums.specs.Stretch.{times_of_rows}
use Rattle.sealed_sums.specs.TableSums.{AreTableSumsOf, TableSumsView}
use Rattle.sealed_sums.proofs.Stretches.{named_more, partitions_more}
use Rattle.sealed_sums.proofs.table_sums.TableSums.add_stretch.Goals as goal

pub add_span-requires : goal.add_span-requires
add_span-requires c = (times_of_rows c.requires.stretch.1, c.requires.stretch.2.span)

pub overflow_cast-stretch : goal.overflow_cast-stretch
overflow_cast-stretch c = omega (arith, c.requires.small c.args.stretch.now.partition)

pub add_rows-requires-clause-small : goal.add_rows-requires-clause-small
add_rows-requires-clause-small c =
    let p = c.args.stretch.now.partition in
    let counts = ap (λ (v : PartitionCountsView). rows_counted v.counts p) c.in_ok-reserve.ensures.ok in
    let known = ap (λ (s : TableSumsView). rows_counted s.partitions.counts p) c.self.view_is in
    omega (arith, c.requires.small p, counts, known)

pub returns-clause-sums : goal.returns-clause-sums
returns-clause-sums c = λ e before rows is are.
    let s = c.args.stretch.now in
    let were : AreTableSumsOf before (record { partitions = c.self.inside.partitions; spans = c.self.inside.spans }) = subst (AreTableSumsOf before) (sym c.self.view_is) are in
    let counted : AreCountsOf c.reserve.new.self (partitions_of before) = λ p. ap (λ (v : PartitionCountsView). rows_counted v.counts p) c.in_ok-reserve.ensures.ok ∙ were.partitions p in
    record {
      partitions = subst (AreCountsOf c.add_rows.new.self) (sym (partitions_more e s before rows is)) (c.add_rows.ensures.rows (partitions_of before) counted);
      spans = subst (IsHistogramOf c.add_span.new.self) (sym (named_more e s before rows is)) (c.in_ok-add_span.ensures.times (named_times_of before) (times_of_rows rows) were.spans is.span);
    }
