use Rattle.std.proofs.Common.{◌≡◌, ◌+◌, ℕ, List, ◌∙◌, ap, arith}
use Rattle.partitions.specs.declared.partition.Partition.{Partition}
use Rattle.partitions.specs.Counts.{PartitionCountsView, rows_counted}
use Rattle.partitions.proofs.RowNumbers.{counted_more, hold_more}
use Rattle.partitions.proofs.counts.PartitionCounts.add_rows.Goals as goal

pub invariant_of-self : goal.invariant_of-self
invariant_of-self c =
    hold_more c.self.inside.counts.entries c.put_count.new.counts.entries c.args.partition (c.row_count.result + c.args.count) (omega (arith, c.requires.some)) c.self.invariant c.put_count.ensures.entries c.put_count.ensures.rising

pub returns-clause-rows : goal.returns-clause-rows
returns-clause-rows c = λ noted are p.
    let es = c.self.inside.counts.entries in
    let known = ap (λ (m : PartitionCountsView). rows_counted m.counts c.args.partition) c.self.view_is in
    let rows : c.row_count.result + c.args.count ≡ rows_counted es c.args.partition + c.args.count = omega (arith, c.row_count.ensures, known) in
    let were = λ (q : Partition). ap (λ (m : PartitionCountsView). rows_counted m.counts q) c.self.view_is ∙ are q in
    ap (λ (l : List (Partition × ℕ)). rows_counted l p) c.put_count.ensures.entries ∙ counted_more es c.args.partition c.args.count (c.row_count.result + c.args.count) rows noted were p
