use Rattle.std.proofs.Common.{◌≡◌, ◌+◌, ◌<◌, ◌++◌, true, ap, subst, arith}
use Rattle.std.proofs.lemmas.Bool.Decides.{nat_tests}
use Rattle.archive_history.specs.Limits.{octets_of}
use Rattle.history_items.specs.Items.{rows_in}
use Rattle.run_pages.specs.Placed.{rows_of_placed}
use Rattle.sealed_history.specs.SealedHistory.{SealedHistoryView, counted_rows, rows_told}
use Rattle.sealed_history.proofs.Within.{counts_of, octets_three}
use Rattle.sealed_history.proofs.history.SealedHistory.passes_octets.Goals as goal

pub returns : goal.returns
returns c =
    let s = c.self.inside in
    let runs = rows_of_placed (rows_told s.told.items) in
    let log = rows_in s.log.items in
    let rows = c.args.rows.now in
    let counts = counts_of (rows_told s.told.items) s.base s.sums s.log c.limit_counts.result.now c.limit_counts-2.result.now c.self.invariant c.limit_counts.ensures c.limit_counts-2.ensures.octets c.limit_counts-2.ensures.rows in
    let here : octets_of ((runs ++ log) ++ rows) ≡ octets_of (counted_rows c.args.self.now ++ rows) = ap (λ (v : SealedHistoryView). octets_of (counted_rows v ++ rows)) c.self.view_is in
    let all = octets_three runs log rows in (
      (λ is. let more : c.limit.result < c.saturating_add.result = grind (arith, nat_tests, is) in
          omega (arith, more, c.limit.ensures, here, all, counts.octets_in_runs, counts.octets_in_log, c.octets-in_runs.ensures, c.octets.ensures, c.octets_in.ensures, c.saturating_add.ensures, c.saturating_add-octets.ensures)),
      (λ many. let more : c.limit.result < c.saturating_add.result =
          omega (arith, many, c.limit.ensures, here, all, counts.octets_in_runs, counts.octets_in_log, c.octets-in_runs.ensures, c.octets.ensures, c.octets_in.ensures, c.saturating_add.ensures, c.saturating_add-octets.ensures) in
          grind (arith, nat_tests, more)),
    )
