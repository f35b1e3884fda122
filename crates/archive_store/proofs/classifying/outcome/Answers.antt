use Rattle.std.proofs.Common.{◌+◌, ◌++◌, ℕ, Some, None, length, sym, ap, subst, arith}
use Rattle.std.specs.Prelude.{IfSome}
use Rattle.arch_types.specs.declared.inserted.Inserted.TheVariants.{Duplicate}
use Rattle.history_items.specs.Items.{items_of}
use Rattle.history_items.specs.Outcomes.{Says}
use Rattle.replay_merge.specs.RowSource.{IsPositionOf}
use Rattle.archive_store.proofs.Outcomes.{says_known, says_fresh, says_new}
use Rattle.archive_store.proofs.Positions.{item_at, no_item_at, told_position}
use Rattle.archive_store.proofs.classifying.outcome.Goals as goal

pub returns-in-Some-clause-says : goal.returns-in-Some-clause-says
returns-in-Some-clause-says g c items row tells is =
    let at = c.args.at in
    let position = c.in-Some.position in
    let told = told_position (g.R.RowSource.state c.args.source.now) items c.args.known tells at.table at.key (Some position) (subst (λ o. IfSome (g.R.RowSource.state c.args.source.now).history (λ history. IsPositionOf history at.table at.key o)) c.in-Some.is c.in_ok-position.ensures.told) in
    let found = item_at at.table at.key items position told in
    says_known items c.args.classified.now.fresh at position found.0 found.1 found.2 row is

pub returns-in-Some-fresh_place-clause-says : goal.returns-in-Some-fresh_place-clause-says
returns-in-Some-fresh_place-clause-says g c items row tells is =
    let fresh = c.args.classified.now.fresh in
    let found = c.in-Some-fresh_place.ensures in
    subst (λ (n : ℕ). Says (items ++ items_of fresh) row (Duplicate (n + c.in-Some-fresh_place.i))) (sym tells.all)
    (says_fresh items fresh c.args.at c.in-Some-fresh_place.i found.0 found.1 found.2 row is)

pub returns-in-None-clause-says : goal.returns-in-None-clause-says
returns-in-None-clause-says g c items row tells is =
    let at = c.args.at in
    let fresh = c.args.classified.now.fresh in
    let told = told_position (g.R.RowSource.state c.args.source.now) items c.args.known tells at.table at.key None (subst (λ o. IfSome (g.R.RowSource.state c.args.source.now).history (λ history. IsPositionOf history at.table at.key o)) c.in_default.is c.in_ok-position.ensures.told) in
    says_new items fresh at (c.args.known + length c.as_slice-fresh.result.now) (no_item_at at.table at.key items told) c.in-None.ensures
    (omega (arith, tells.all, ap length c.as_slice-fresh.ensures)) row is
