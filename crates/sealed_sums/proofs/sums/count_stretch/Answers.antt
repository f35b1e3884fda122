use Rattle.std.proofs.Common.{◌≡◌, ◌+◌, ◌*◌, ℕ, false, ap, sym, ◌∙◌, arith}
use Rattle.std.specs.Prelude.{◌==◌}
use Rattle.std.proofs.lemmas.Bool.Decides.{nat_tests}
use Rattle.archive_history.specs.LimitCounts.{interval_row_count, LimitCountsView, one_at}
use Rattle.sealed_sums.proofs.Stretches.{interval_all, interval_none}
use Rattle.sealed_sums.proofs.sums.count_stretch.Goals as goal

pub returns-then-stretch-eq-TM-clause-intervals : goal.returns-then-stretch-eq-TM-clause-intervals
returns-then-stretch-eq-TM-clause-intervals c = λ e rows is i.
    let s = c.args.stretch.now in
    let same = ap (λ (v : LimitCountsView). interval_row_count v.rows i) c.add_octets.ensures in
    let all = interval_all e s.table s.interval s.partition i c.if-stretch-eq-TM.true rows is.each ∙ ap (λ (n : ℕ). one_at s.interval i * n) (sym is.len) in
    c.add_rows.ensures.rows i ∙ ap (λ (n : ℕ). n + one_at s.interval i * s.len) same ∙ ap (λ (n : ℕ). interval_row_count c.args.counts.now.rows i + n) (sym all)

pub returns-else-stretch-eq-TM-clause-intervals : goal.returns-else-stretch-eq-TM-clause-intervals
returns-else-stretch-eq-TM-clause-intervals c = λ e rows is i.
    let s = c.args.stretch.now in
    let other : (s.table == 0) ≡ false = grind (arith, nat_tests, c.if-stretch-eq-TM.false) in
    let same = ap (λ (v : LimitCountsView). interval_row_count v.rows i) c.add_octets.ensures in
    omega (arith, same, interval_none e s.table s.interval s.partition i other rows is.each)
