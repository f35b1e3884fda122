use Rattle.history_items.specs.Items.{rows_in}
use Rattle.script_answers.proofs.HeldParts.{all_clocked, sources_held}
use Rattle.ssql_conditions.specs.ConditionBounds.{bounds_of}
use Rattle.ssql_select.proofs.Selected.{if_ok, tables_held}
use Rattle.script_answers.proofs.statements.held_parts.Goals as goal

pub pruned_parts-requires : goal.pruned_parts-requires
pruned_parts-requires g c = rw c.as_slice.ensures c.requires

pub returns-clause-held : goal.returns-clause-held
returns-clause-held g c =
    let store = c.args.store.now in
    let query = c.args.query.now in
    if_ok c.pruned_parts.result _ _
    (λ parts are. tables_held query.condition parts query.sources (rows_in store.history) (all_clocked store.head store.history (rows_in store.history) c.is_kept.ensures.rows)
    (sources_held (bounds_of query.condition) store.history query.sources parts are))
    (rw (c.as_slice.ensures, c.in_ok-bounds.ensures) at c.pruned_parts.ensures.pruned)

pub returns-clause-pruned : goal.returns-clause-pruned
returns-clause-pruned g c = rw (c.as_slice.ensures, c.in_ok-bounds.ensures) at c.pruned_parts.ensures.pruned
