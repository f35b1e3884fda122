use Rattle.std.proofs.Common.{List, [], subst, sym}
use Rattle.mdb_items.specs.declared.container.Container.{Container}
use Rattle.mdb_items.specs.ContainerRows.{rows_of_container}
use Rattle.mdb_model.specs.Rechecking.{ContainersRechecked}
use Rattle.mdb_rules.proofs.Outcomes.{at_err}
use Rattle.mdb_model.proofs.RowsAgain.{Left, at_index, containers_done, containers_refused, left_begin, left_more, left_refused}
use Rattle.mdb_rules.proofs.TotalsSteps.{in_path_at_first}
use Rattle.mdb_model.proofs.rechecking.rechecked_containers.Goals as goal

pub loop-c-init : goal.loop-c-init
loop-c-init c =
    let ps = c.args.parameters.now in
    let new = c.new-containers in
    let P : List Container → Type 0 = λ cs. Left ps rows_of_container [] c.args.given.now cs 0 in
    (in_path_at_first ps new.result new.ensures.none new.ensures.names new.ensures.all_totals, subst P (sym new.ensures.none) (left_begin ps rows_of_container [] c.args.given.now))

pub returns-in_err-recheck_container : goal.returns-in_err-recheck_container
returns-in_err-recheck_container c =
    at_err (λ r. ContainersRechecked c.args.parameters.now c.args.given.now r) c.from_residual.result _ c.from_residual.ensures.1
    (containers_refused c.args.parameters.now c.args.given.now _ (left_refused c.args.parameters.now rows_of_container [] c.loop-c.containers.items.items c.args.given.now c.loop-c.c-index _ _ (at_index c.args.given.now c.loop-c.c-index _ c.loop-c-test.true c.c-item.is) c.in_err-recheck_container.ensures c.loop-c.invariant.1))

pub loop-c-preserved : goal.loop-c-preserved
loop-c-preserved c =
    let taken = c.in_ok-recheck_container.ensures in
    (taken.2, left_more c.args.parameters.now rows_of_container [] c.loop-c.containers.items.items c.recheck_container.new.containers.items.items c.args.given.now c.loop-c.c-index _ (at_index c.args.given.now c.loop-c.c-index _ c.loop-c-test.true c.c-item.is) taken.0 taken.1 c.loop-c.invariant.1)

pub returns : goal.returns
returns c =
    let done = containers_done c.args.parameters.now c.args.given.now c.loop-c.containers.items.items c.loop-c.c-index c.loop-c-test.false c.loop-c.invariant.1 in
    (done.0, done.1, c.loop-c.invariant.0)
