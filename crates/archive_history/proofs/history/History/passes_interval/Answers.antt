use Rattle.std.proofs.Common.{refl, ◌≡◌, ◌≤◌, ◌++◌, sym, ◌∙◌, ap, subst, arith}
use Rattle.std.specs.List.{AllByRecursion}
use Rattle.std.proofs.lemmas.List.{take_all}
use Rattle.intervals.specs.declared.interval.Interval.{Interval}
use Rattle.intervals.specs.Interval.{interval_of}
use Rattle.archive_history.specs.History.{HistoryView}
use Rattle.archive_history.specs.Limits.{interval_rows, IsWithin}
use Rattle.archive_history.proofs.Counting.{together}
use Rattle.archive_history.proofs.Intervals.{IsCounted, intervals_within, not_more}
use Rattle.history_items.specs.Items.{is_of_interval, rows_in}
use Rattle.archive_history.proofs.Steps.{all_take_more, few_filter}
use Rattle.archive_history.proofs.Sums.{interval_rows-append}
use Rattle.archive_history.proofs.history.History.passes_interval.Goals as goal
use Rattle.archive_history.proofs.history.History.passes_interval.Goals.{then-row-eq-TM+else-are_too_many, else-row-eq-TM}

pub are_too_many-requires-clause-counted : goal.are_too_many-requires-clause-counted
are_too_many-requires-clause-counted c =
    let i = c.interval_of_row-interval.result in
    omega (arith, c.self.invariant.counted.rows i, c.self.invariant.counted.within.intervals i)

pub loop-row-preserved : goal.loop-row-preserved
loop-row-preserved c =
    let e = c.args.self.now.exponent in
    let before = rows_in c.args.self.now.items in
    let rows = c.args.rows.now in
    all_take_more (IsCounted e before rows) rows c.loop-row.row-index c.row-item.result c.loop-row-test.true c.row-item.is c.loop-row.invariant
    (elim c.if-row-eq-TM.branch [
      | then-row-eq-TM+else-are_too_many w ↦ λ table interval same.
          let i = w.interval_of_row-interval.result in
          let here : interval ≡ i = together interval i (same ∙ sym (w.interval_of_row-interval.ensures ∙ ap (λ (s : HistoryView). interval_of s.exponent c.row-item.result.key.time) c.self.view_is)) in
          let few = not_more 262144 _ (λ many. absurd (let no = w.if-are_too_many.ensures.1 many in cc)) in
          subst (λ (x : Interval). interval_rows e x (before ++ rows) ≤ 262144) (sym here)
          (omega (arith, interval_rows-append e i before rows, c.self.invariant.counted.rows i, few, ap (λ (s : HistoryView). interval_rows s.exponent i (rows_in s.items)) c.self.view_is, ap (λ (s : HistoryView). interval_rows s.exponent i rows) c.self.view_is))
      | else-row-eq-TM w ↦ λ table interval same. absurd (omega (arith, w.if-row-eq-TM.false, table))
    ])

pub returns-then-are_too_many : goal.returns-then-are_too_many
returns-then-are_too_many c =
    let i = c.interval_of_row-interval.result in
    let e = c.args.self.now.exponent in
    let before = rows_in c.args.self.now.items in
    let rows = c.args.rows.now in (
      λ is. (i, omega (arith, interval_rows-append e i before rows, c.self.invariant.counted.rows i, c.if-are_too_many.ensures.0 refl, ap (λ (s : HistoryView). interval_rows s.exponent i (rows_in s.items)) c.self.view_is, ap (λ (s : HistoryView). interval_rows s.exponent i rows) c.self.view_is)),
      λ many. refl,
    )

pub returns-then-most_rows-limit : goal.returns-then-most_rows-limit
returns-then-most_rows-limit c =
    let e = c.args.self.now.exponent in
    let before = rows_in c.args.self.now.items in
    let rows = c.args.rows.now in (
      λ is. absurd cc,
      λ many.
          let i = many.0 in
          absurd (omega (arith, many.1, interval_rows-append e i before rows, few_filter (is_of_interval e i) rows, c.self.invariant.counted.rows i, c.most_rows.ensures.at_most i, c.limit-limit.ensures, c.if-added-limit.true, c.if-most_rows-limit.true, ap (λ (s : HistoryView). interval_rows s.exponent i (rows_in s.items)) c.self.view_is, ap (λ (s : HistoryView). interval_rows s.exponent i rows) c.self.view_is)),
    )

pub returns : goal.returns
returns c =
    let e = c.args.self.now.exponent in
    let before = rows_in c.args.self.now.items in
    let rows = c.args.rows.now in
    let all = subst (AllByRecursion (IsCounted e before rows)) (take_all c.loop-row.row-index rows (omega (arith, c.loop-row-test.false))) c.loop-row.invariant in
    let few = intervals_within e before rows (subst (λ (s : HistoryView). IsWithin s.exponent (rows_in s.items)) c.self.view_is c.self.invariant.counted.within) all in (
      λ is. absurd cc,
      λ many. absurd (omega (arith, many.1, few many.0)),
    )
