use Rattle.std.proofs.Common.{◌≡◌, ◌+◌, ◌*◌, ℕ, List, ◌∙◌, ap, arith}
use Rattle.intervals.specs.declared.interval.Interval.{Interval}
use Rattle.archive_history.specs.LimitCounts.{LimitCountsView, interval_row_count, one_at}
use Rattle.archive_history.proofs.Counting.{most_of_many, counted_many}
use Rattle.archive_history.proofs.limit_counts.LimitCounts.add_rows.Goals as goal

pub invariant_of-self : goal.invariant_of-self
invariant_of-self c =
    let es = c.self.inside.rows.entries in
    let rows = c.rows_of.result + c.args.count in
    let known = ap (λ (m : LimitCountsView). interval_row_count m.rows c.args.interval) c.self.view_is in
    let count : rows ≡ interval_row_count es c.args.interval + c.args.count = omega (arith, c.rows_of.ensures, known) in
    let counts = λ (i : Interval). ap (λ (l : List (Interval × ℕ)). interval_row_count l i) c.put_count.ensures.entries ∙ counted_many es c.args.interval i c.args.count rows count in
    most_of_many es c.put_count.new.counts.entries c.args.interval c.args.count c.self.inside.most rows _ c.self.invariant counts count c.max-self-inside.ensures

pub returns-clause-rows : goal.returns-clause-rows
returns-clause-rows c = λ i.
    let es = c.self.inside.rows.entries in
    let rows = c.rows_of.result + c.args.count in
    let known = ap (λ (m : LimitCountsView). interval_row_count m.rows c.args.interval) c.self.view_is in
    let count : rows ≡ interval_row_count es c.args.interval + c.args.count = omega (arith, c.rows_of.ensures, known) in
    ap (λ (l : List (Interval × ℕ)). interval_row_count l i) c.put_count.ensures.entries
    ∙ counted_many es c.args.interval i c.args.count rows count
    ∙ ap (λ (m : LimitCountsView). interval_row_count m.rows i + one_at c.args.interval i * c.args.count) c.self.view_is
