use Rattle.std.proofs.Common.{◌≡◌, ◌∙◌, List, [], ap, subst}
use Rattle.histogram.specs.Times.{spans_of, spans_of_times, times_of}
use Rattle.yarch_table.specs.declared.table.Stored.{Stored}
use Rattle.yarch_table.specs.Stored.{TableView, rows_of}
use Rattle.archive_history.specs.PartitionedTable.{named_times_of, IsHistogramWith}
use Rattle.archive_history.proofs.Steps.{if_ok}
use Rattle.archive_history.proofs.partitioned_table.PartitionedTable.spans.Goals as goal

pub returns : goal.returns
returns c =
    let pname = c.args.pname in
    let made = c.in_ok-histogram.histogram in
    let same : c.stored.result.now ≡ c.args.self.now.stored = c.stored.ensures ∙ ap (λ (t : TableView). t.stored) c.self.view_is in
    let with_rows = subst (λ (l : List Stored). IsHistogramWith c.self.inside.gone pname made (named_times_of (rows_of l))) same c.in_ok-histogram.ensures in
    if_ok c.records.result (λ s. s ≡ spans_of pname made) (λ s. s ≡ spans_of_times (times_of pname (named_times_of (rows_of c.args.self.now.stored))))
    (λ s is. is ∙ with_rows [] c.self.invariant.kept) c.records.ensures.records
