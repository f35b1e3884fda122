use Rattle.std.proofs.Common.{refl, ap, arith, length-append}
use Rattle.history_items.specs.Items.{rows_in}
use Rattle.archive_history.specs.History.{HistoryView}
use Rattle.archive_history.specs.Limits.{octets_of}
use Rattle.archive_history.proofs.Intervals.{not_more}
use Rattle.archive_history.proofs.Sums.{octets-append}
use Rattle.archive_history.proofs.history.History.limit_passed.Goals as goal

pub returns-then-octets_in-limit-clause-first : goal.returns-then-octets_in-limit-clause-first
returns-then-octets_in-limit-clause-first c =
    let before = rows_in c.args.self.now.items in
    let rows = c.args.rows.now in (
      omega (arith, length-append before rows, c.if-rows-limit.false, c.len.ensures.rows, c.limit.ensures, c.len.ensures.within.few),
      omega (arith, octets-append before rows, c.octets_in.ensures, c.octets.ensures, c.self.invariant.counted.octets, ap (λ (x : HistoryView). octets_of (rows_in x.items)) c.self.view_is, c.if-octets_in-limit.true, c.limit-2.ensures, c.len.ensures.within.octets),
    )

pub returns-then-passes_interval-clause-first : goal.returns-then-passes_interval-clause-first
returns-then-passes_interval-clause-first c =
    let before = rows_in c.args.self.now.items in
    let rows = c.args.rows.now in
    let many = c.if-passes_interval.ensures.0 refl in (
      omega (arith, length-append before rows, c.if-rows-limit.false, c.len.ensures.rows, c.limit.ensures, c.len.ensures.within.few),
      omega (arith, octets-append before rows, c.octets_in.ensures, c.octets.ensures, c.self.invariant.counted.octets, ap (λ (x : HistoryView). octets_of (rows_in x.items)) c.self.view_is, c.if-octets_in-limit.false, c.limit-2.ensures, c.len.ensures.within.octets),
      many.0,
      many.1,
    )

pub returns-clause-none : goal.returns-clause-none
returns-clause-none c =
    let before = rows_in c.args.self.now.items in
    let rows = c.args.rows.now in record {
      few = omega (arith, length-append before rows, c.if-rows-limit.false, c.len.ensures.rows, c.limit.ensures, c.len.ensures.within.few);
      octets = omega (arith, octets-append before rows, c.octets_in.ensures, c.octets.ensures, c.self.invariant.counted.octets, ap (λ (x : HistoryView). octets_of (rows_in x.items)) c.self.view_is, c.if-octets_in-limit.false, c.limit-2.ensures, c.len.ensures.within.octets);
      intervals = λ i. not_more 262144 _ (λ many. absurd (let no = c.if-passes_interval.ensures.1 (i, many) in cc));
    }
