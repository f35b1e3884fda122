use Rattle.std.proofs.Common.{◌≤◌, ◌++◌, inl, inr, refl, sym, subst, arith}
use Rattle.refusals.specs.Limits.{limit_of}
use Rattle.refusals.specs.declared.refusal.Which.TheVariants as limits
use Rattle.history_items.specs.Items.{rows_in}
use Rattle.history_items.proofs.ItemLists.{rows_behind}
use Rattle.archive_history.specs.Limits.{IsWithin, PassesFirst}
use Rattle.archive_store.specs.StoreView.{StoreView}
use Rattle.archive_store.proofs.store.Store.limit_passed.Goals as goal

pub returns-in-Some-clause-first : goal.returns-in-Some-clause-first
returns-in-Some-clause-first g c =
    let now = c.args.self.now in
    let limit = c.in-Some.limit in
    let passes = subst (λ (x : StoreView g.row.D.Denot). PassesFirst x.exponent limit (rows_in x.history ++ c.args.fresh.now)) c.self.view_is c.in-Some.ensures.first in
    inl (limit, c.limit_of_history.ensures, subst (PassesFirst now.exponent limit) (sym (rows_behind now.history c.args.fresh.now)) passes)

pub returns-then-count-limit-clause-first : goal.returns-then-count-limit-clause-first
returns-then-count-limit-clause-first g c =
    let now = c.args.self.now in
    let within = subst (λ (x : StoreView g.row.D.Denot). IsWithin x.exponent (rows_in x.history ++ c.args.fresh.now)) c.self.view_is c.in_default.ensures.none in
    let full = subst (λ (x : StoreView g.row.D.Denot). limit_of limits.Records ≤ x.records) c.self.view_is (omega (arith, c.count.ensures, c.limit.ensures, c.if-count-limit.true)) in
    inr (refl, subst (IsWithin now.exponent) (sym (rows_behind now.history c.args.fresh.now)) within, full)
