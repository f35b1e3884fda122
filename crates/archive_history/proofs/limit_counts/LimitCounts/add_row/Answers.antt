use Rattle.std.proofs.Common.{◌+◌, ℕ, List, ◌∙◌, ap, arith}
use Rattle.intervals.specs.declared.interval.Interval.{Interval}
use Rattle.archive_history.specs.LimitCounts.{LimitCountsView, interval_row_count, one_at}
use Rattle.archive_history.proofs.Counting.{most_of_one, counted}
use Rattle.archive_history.proofs.limit_counts.LimitCounts.add_row.Goals as goal

pub invariant_of-self : goal.invariant_of-self
invariant_of-self c =
    let es = c.self.inside.rows.entries in
    let count = c.add_one-rows.ensures.count in
    let counts = λ (i : Interval). ap (λ (l : List (Interval × ℕ)). interval_row_count l i) c.add_one-rows.ensures.entries ∙ counted es c.args.interval i c.add_one-rows.result count in
    most_of_one es c.add_one-rows.new.self.entries c.args.interval c.self.inside.most c.add_one-rows.result _ c.self.invariant counts count c.max-self-inside.ensures

pub returns-clause-rows : goal.returns-clause-rows
returns-clause-rows c = λ i.
    let es = c.self.inside.rows.entries in
    ap (λ (l : List (Interval × ℕ)). interval_row_count l i) c.add_one-rows.ensures.entries
    ∙ counted es c.args.interval i c.add_one-rows.result c.add_one-rows.ensures.count
    ∙ ap (λ (m : LimitCountsView). interval_row_count m.rows i + one_at c.args.interval i) c.self.view_is
