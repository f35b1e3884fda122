use Rattle.std.proofs.Common.{◌∷◌, []}
use Rattle.std.specs.Prelude.{flat_map}
use Rattle.std.proofs.lemmas.Option.{slice_get-get_or}
use Rattle.mdb_items.specs.ContainerRows.{entry_row}
use Rattle.mdb_model.specs.Rechecking.{RowsRechecked}
use Rattle.mdb_rules.proofs.Outcomes.{at_err}
use Rattle.mdb_model.proofs.RowsAgain.{entered_length, left_done, left_more, left_refused}
use Rattle.mdb_model.proofs.rechecking.recheck_entries.Goals as goal

pub returns-in_err-recheck_entry : goal.returns-in_err-recheck_entry
returns-in_err-recheck_entry c =
    at_err (λ r. RowsRechecked c.args.parameters.now c.args.containers.now c.recheck_entry.new.containers (flat_map (λ e. entry_row e ∷ []) c.args.entries.now) r) c.from_residual.result _ c.from_residual.ensures.1
    (left_refused c.args.parameters.now (λ e. entry_row e ∷ []) c.args.containers.now.items.items c.loop-e.containers.items.items c.args.entries.now c.loop-e.e-index _ _ (slice_get-get_or c.args.entries.now c.loop-e.e-index _ c.loop-e-test.true) c.in_err-recheck_entry.ensures c.loop-e.invariant.2)

pub loop-e-preserved : goal.loop-e-preserved
loop-e-preserved c =
    let taken = c.in_ok-recheck_entry.ensures in (
      taken.2,
      entered_length _ _ _ taken.1 c.loop-e.invariant.1,
      left_more c.args.parameters.now (λ e. entry_row e ∷ []) c.args.containers.now.items.items c.loop-e.containers.items.items c.recheck_entry.new.containers.items.items c.args.entries.now c.loop-e.e-index _ (slice_get-get_or c.args.entries.now c.loop-e.e-index _ c.loop-e-test.true) taken.0 taken.1 c.loop-e.invariant.2,
    )

pub returns : goal.returns
returns c =
    let done = left_done c.args.parameters.now (λ e. entry_row e ∷ []) c.args.containers.now.items.items c.loop-e.containers.items.items c.args.entries.now c.loop-e.e-index c.loop-e-test.false c.loop-e.invariant.2 in
    (done.0, done.1, c.loop-e.invariant.0)
