use Rattle.std.proofs.Common.{◌≡◌, ◌⊎◌, ℕ, inl, inr, List, None, true≢false, sym, ◌∙◌}
use Rattle.history_items.specs.declared.items.Item.{Item}
use Rattle.history_items.specs.Late.{IsLate}
use Rattle.fill_tracker.specs.FillTracker.{AreMarksOf}
use Rattle.archive_history.proofs.Steps.{if_none}
use Rattle.store_fills.specs.LastFills.{fillings_in}
use Rattle.archive_store.proofs.CurrentSets.{if_any}
use Rattle.archive_store.proofs.segments.current_fill.Goals as goal

pub returns-then-is_late-clause-none : goal.returns-then-is_late-clause-none
returns-then-is_late-clause-none c = λ exponent history are. inl ((c.is_late.ensures exponent history are).0 c.if-is_late.true)

pub returns-clause-current : goal.returns-clause-current
returns-clause-current c =
    let tracker = c.args.tracker.now in
    if_any c.get.result ((exponent : ℕ) (history : List Item) → AreMarksOf exponent history tracker.fills tracker.marks → IsLate exponent c.args.interval history tracker.fills → ⊥)
    (λ exponent history are late. true≢false (sym ((c.is_late.ensures exponent history are).1 late) ∙ c.if-is_late.false))

pub returns-clause-none : goal.returns-clause-none
returns-clause-none c =
    let tracker = c.args.tracker.now in
    if_none c.get.result (fillings_in c.args.sets.now.filled c.args.interval ≡ None)
    ((exponent : ℕ) (history : List Item) → AreMarksOf exponent history tracker.fills tracker.marks → IsLate exponent c.args.interval history tracker.fills ⊎ (fillings_in c.args.sets.now.filled c.args.interval ≡ None))
    (λ unfilled exponent history are. inr unfilled) c.get.ensures.none
