use Rattle.std.proofs.Common.{◌≡◌, ℕ, ◌-◌, List, take, w64, ap, ◌∙◌, arith}
use Rattle.std.proofs.lemmas.Int.{to_z-of_z}
use Rattle.arch_types.specs.declared.row.Row.{Row}
use Rattle.arch_types.specs.Table.{range_of}
use Rattle.history_items.specs.Items.{prefix, rows_in}
use Rattle.sealed_history.specs.SealedHistory.{SealedHistoryView, log_below}
use Rattle.sealed_history.proofs.Alone.{below_front}
use Rattle.sealed_history.proofs.history.SealedHistory.range_at.Goals as goal

pub returns : goal.returns
returns c =
    let s = c.self.inside in
    let below : c.saturating_sub-front.result ≡ c.args.front - s.base = omega (arith, c.saturating_sub-front.ensures) in
    let seen : rows_in (prefix c.saturating_sub-front.result s.log.items) ≡ log_below c.args.front c.args.self.now =
    below_front s.log.items c.self.invariant.rows_alone c.saturating_sub-front.result ∙ ap (λ (n : ℕ). take n (rows_in s.log.items)) below ∙ ap (λ (v : SealedHistoryView). log_below c.args.front v) c.self.view_is in
    let low = to_z-of_z w64 c.args.from c.ranges.from in
    let high = to_z-of_z w64 c.args.to c.ranges.to in
    rw (low, high) at c.range_at.ensures ∙ ap (λ (l : List Row). range_of c.args.table c.args.from c.args.to l) seen
