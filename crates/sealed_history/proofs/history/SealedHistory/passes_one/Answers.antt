use Rattle.std.proofs.Common.{refl, ◌≡◌, ◌≤◌, ℕ, ◌++◌, sym, ◌∙◌, ap, subst, arith}
use Rattle.std.specs.List.{AllByRecursion}
use Rattle.std.proofs.lemmas.List.{take_all}
use Rattle.intervals.specs.declared.interval.Interval.{Interval}
use Rattle.intervals.specs.Interval.{interval_of}
use Rattle.archive_history.specs.Limits.{interval_rows}
use Rattle.archive_history.proofs.Counting.{together}
use Rattle.archive_history.proofs.Steps.{all_take_more}
use Rattle.sealed_history.specs.Inside.{IsAmongFew}
use Rattle.sealed_history.specs.SealedHistory.{counted_rows}
use Rattle.sealed_history.proofs.Within.{not_more}
use Rattle.sealed_history.proofs.history.SealedHistory.passes_one.Goals as goal
use Rattle.sealed_history.proofs.history.SealedHistory.passes_one.Goals.{then-row-eq-TM+else-are_too_many, else-row-eq-TM}

pub loop-row-preserved : goal.loop-row-preserved
loop-row-preserved c =
    let e = c.args.self.now.exponent in
    let rows = c.args.rows.now in
    let all = counted_rows c.args.self.now ++ rows in
    all_take_more (IsAmongFew e all) rows c.loop-row.row-index c.row-item.result c.loop-row-test.true c.row-item.is c.loop-row.invariant
    (elim c.if-row-eq-TM.branch [
      | then-row-eq-TM+else-are_too_many w ↦ λ table interval same.
          let i = w.interval_of_row-interval.result in
          let here : interval ≡ i = together interval i (same ∙ sym (w.interval_of_row-interval.ensures ∙ ap (λ (x : ℕ). interval_of x c.row-item.result.key.time) w.exponent.ensures)) in
          let few = not_more 262144 _ (λ many. absurd (let no = w.if-are_too_many.ensures.1 many in cc)) in
          subst (λ (x : Interval). interval_rows e x all ≤ 262144) (sym here) few
      | else-row-eq-TM w ↦ λ table interval same. absurd (omega (arith, w.if-row-eq-TM.false, table))
    ])

pub returns-then-are_too_many-clause-yes : goal.returns-then-are_too_many-clause-yes
returns-then-are_too_many-clause-yes c is = (c.interval_of_row-interval.result, c.if-are_too_many.ensures.0 refl)

pub returns-clause-no : goal.returns-clause-no
returns-clause-no c is =
    let rows = c.args.rows.now in
    subst (AllByRecursion (IsAmongFew c.args.self.now.exponent (counted_rows c.args.self.now ++ rows))) (take_all c.loop-row.row-index rows (omega (arith, c.loop-row-test.false))) c.loop-row.invariant
