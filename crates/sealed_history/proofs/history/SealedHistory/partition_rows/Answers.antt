use Rattle.std.proofs.Common.{◌≡◌, ℕ, ◌-◌, List, take, ap, ◌∙◌, subst, arith}
use Rattle.std.specs.Prelude.{IfOk}
use Rattle.arch_types.specs.declared.row.Row.{Row}
use Rattle.replay_merge.specs.RowSource.{rows_of_partition}
use Rattle.history_items.specs.Items.{prefix, rows_in}
use Rattle.sealed_history.specs.SealedHistory.{SealedHistoryView, log_below}
use Rattle.sealed_history.proofs.Alone.{below_front}
use Rattle.sealed_history.proofs.history.SealedHistory.partition_rows.Goals as goal

pub returns : goal.returns
returns c =
    let s = c.self.inside in
    let below : c.saturating_sub-front.result ≡ c.args.front - s.base = omega (arith, c.saturating_sub-front.ensures) in
    let seen : rows_in (prefix c.saturating_sub-front.result s.log.items) ≡ log_below c.args.front c.args.self.now =
    below_front s.log.items c.self.invariant.rows_alone c.saturating_sub-front.result ∙ ap (λ (n : ℕ). take n (rows_in s.log.items)) below ∙ ap (λ (v : SealedHistoryView). log_below c.args.front v) c.self.view_is in
    subst (λ (l : List Row). IfOk c.partition_rows.result (λ rows. rows ≡ rows_of_partition c.args.table c.args.partition.now l)) seen c.partition_rows.ensures
