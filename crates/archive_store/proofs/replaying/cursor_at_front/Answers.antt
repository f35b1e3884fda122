use Rattle.std.proofs.Common.{◌≡◌, ℕ, List, Option, sym, ap, ◌∙◌, subst}
use Rattle.arch_types.specs.declared.row.Row.{Row}
use Rattle.arch_types.specs.Directions.{truncated}
use Rattle.history_items.specs.declared.items.Item.{Item}
use Rattle.history_items.specs.Items.{rows_in}
use Rattle.partitions.specs.declared.bounds.Bounds.{Bounds}
use Rattle.replay_merge.specs.Replay.{rows_asked, HoldsEachRow}
use Rattle.archive_store.specs.Replays.{rows_below}
use Rattle.archive_store.proofs.ReplayedRows.{below_its_end, hold_each}
use Rattle.archive_store.proofs.replaying.cursor_at_front.Goals as goal

pub returns-clause-replay : goal.returns-clause-replay
returns-clause-replay c = λ later begins.
    let history : List Item = c.args.history.now.items in
    let rows : List Row = rows_in history in
    let request = c.args.request.now in
    let table = c.args.table in
    let front = c.len-front.result in
    let parts = c.in_ok-parts.parts in
    let bounds = c.bounds_of-bounds.result in
    let same = c.bounds_of-bounds.ensures in
    let below : rows_below later front ≡ rows = below_its_end history later front c.len-front.ensures.len begins in
    let held = hold_each bounds table parts rows c.in_ok-parts.ensures.exactly in
    let asked = subst (λ (b : Bounds). HoldsEachRow parts (rows_asked table b.from b.to bounds.names rows)) same held in
    c.open.ensures.replays (rows_below later) (subst (λ (l : List Row). HoldsEachRow parts (rows_asked table request.from request.to bounds.names l)) (sym below) asked)
    ∙ ap (λ (l : List Row). truncated request.limit (rows_asked table request.from request.to bounds.names l)) below
    ∙ ap (λ (n : Option (List ℕ)). truncated request.limit (rows_asked table request.from request.to n rows)) (ap (λ (b : Bounds). b.names) same ∙ c.in_ok-names.ensures)
