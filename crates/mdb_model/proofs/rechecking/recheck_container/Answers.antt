use Rattle.std.proofs.Common.{List, [], ◌∷◌, subst}
use Rattle.std.specs.Prelude.{flat_map}
use Rattle.mdb_items.specs.declared.container.ParameterEntry.{ParameterEntry}
use Rattle.mdb_items.specs.ContainerRows.{entry_row}
use Rattle.mdb_model.specs.Rechecking.{RowsRechecked}
use Rattle.mdb_model.proofs.RowsAgain.{container_rest}
use Rattle.mdb_model.proofs.rechecking.recheck_container.Goals as goal

pub returns : goal.returns
returns c =
    let ps = c.args.parameters.now in
    let mid = c.recheck_begin.new.containers in
    let now = c.recheck_entries.new.containers in
    let result = c.recheck_entries.result in
    let P : List ParameterEntry → Type 0 = λ entries. RowsRechecked ps mid now (flat_map (λ e. entry_row e ∷ []) entries) result in
    container_rest ps c.args.containers.now mid now c.args.c.now result c.in_ok-recheck_begin.ensures (subst P c.as_slice.ensures c.recheck_entries.ensures)
