use Rattle.std.proofs.Common.{◌≡◌, ◌≤◌, Option, None, Some, sym, ◌∙◌, subst}
use Rattle.std.specs.Prelude.{IfNone}
use Rattle.history_items.specs.Late.{last_in}
use Rattle.interval_fills.specs.Intervals.{NoneSince}
use Rattle.archive_store.specs.StoreView.{StoreView}
use Rattle.archive_store.proofs.Installs.{never_since, none_since_last}
use Rattle.archive_store.proofs.store.Store.later_change.Goals as goal

-- what holds whatever came, holds at None
at_none : {T : Type 0} (o : Option T) (P : Type 0) → P → IfNone o P
at_none None P p = p
at_none (Some x) P p = tt

pub returns-in_err-last-clause-none : goal.returns-in_err-last-clause-none
returns-in_err-last-clause-none g c =
    let s = c.self.inside in
    at_none c.from_residual.result (NoneSince c.args.self.now.exponent c.args.interval c.args.base c.args.self.now.history)
    (subst (λ (x : StoreView g.row.D.Denot). NoneSince x.exponent c.args.interval c.args.base x.history) c.self.view_is
    (never_since s.history.exponent c.args.interval c.args.base s.history.items c.last.result (c.last.ensures.last s.history.exponent s.history.items c.self.invariant.3) c.self.invariant.0.alone c.in_err-last.was))

pub returns-then-last-base-clause-none : goal.returns-then-last-base-clause-none
returns-then-last-base-clause-none g c =
    let s = c.self.inside in
    subst (λ (x : StoreView g.row.D.Denot). NoneSince x.exponent c.args.interval c.args.base x.history) c.self.view_is
    (none_since_last s.history.exponent c.args.interval c.args.base s.history.items c.last.result (c.last.ensures.last s.history.exponent s.history.items c.self.invariant.3) c.in_ok-last.last c.in_ok-last.was c.if-last-base.true)

pub returns-clause-later : goal.returns-clause-later
returns-clause-later g c =
    let s = c.self.inside in
    let last = c.in_ok-last.last in
    subst (λ (x : StoreView g.row.D.Denot). (c.args.base ≤ last) × (last_in x.exponent c.args.interval x.history ≡ Some last)) c.self.view_is
    (c.if-last-base.false, sym (c.last.ensures.last s.history.exponent s.history.items c.self.invariant.3) ∙ c.in_ok-last.was)
