use Rattle.std.proofs.Common.{◌≡◌, ◌∙◌, List, refl, ap}
use Rattle.arch_types.specs.declared.row.Row.{Row}
use Rattle.arch_types.specs.declared.row_fault.RowFault.TheVariants.{OutOfMemory}
use Rattle.partitions.specs.declared.partition.Partition.{Partition}
use Rattle.history_items.specs.Items.{rows_in}
use Rattle.archive_history.specs.History.{rows_in_table}
use Rattle.archive_store.specs.Replays.{rows_below}
use Rattle.archive_store.specs.UnreadRows.{IsSourceFault}
use Rattle.archive_store.proofs.Calls.{passed_on}
use Rattle.archive_store.specs.ReadOn.{read_none}
use Rattle.ssql_select.specs.ShowText.{partition_lines}
use Rattle.ssql_select.proofs.Selected.{if_ok}
use Rattle.script_answers.specs.Statements.{parts_of_rows, table_partitions}
use Rattle.script_answers.proofs.HeldParts.{all_clocked, whole_rows}
use Rattle.script_answers.proofs.RisingParts.{parts_are}
use Rattle.script_answers.proofs.Told.{told_ok}
use Rattle.script_answers.proofs.statements.table_partitions.Goals as goal

-- there was no memory for the partitions

pub returns-in_err-parts-clause-refused : goal.returns-in_err-parts-clause-refused
returns-in_err-parts-clause-refused g c =
    passed_on c.from_residual.result OutOfMemory (IsSourceFault g.D.Disk.device c.args.store.now c.args.store.now) c.from_residual.ensures.1 refl

pub returns-in_err-parts-clause-same : goal.returns-in_err-parts-clause-same
returns-in_err-parts-clause-same g c = read_none g.D.Disk.device c.args.store.now

-- the rows were asked for

pub returns-clause-lines : goal.returns-clause-lines
returns-clause-lines g c tells =
    let store = c.args.store.now in
    let table = c.args.table in
    let front = c.front-front.result in
    let parts = c.as_slice.result.now in
    let history = rows_in store.history in
    let clocks = all_clocked store.head store.history history c.is_kept.ensures.rows in
    let are = parts_are store.history table c.in_ok-parts.parts clocks (rw c.all_bounds-bounds.ensures at c.in_ok-parts.ensures) in
    let same = ap (λ (l : List Partition). partition_lines table (rows_below store.history front) l) (c.as_slice.ensures ∙ are)
    ∙ ap (λ (l : List Row). partition_lines table l (parts_of_rows (rows_in_table table store.history))) (whole_rows store.history front c.front-front.ensures) in
    if_ok c.partition_lines.result _ (λ lines. lines.items ≡ table_partitions table store.history) (λ lines is. is ∙ same)
    (told_ok g.D.Disk.device store tells c.partition_lines.result (λ lines history. lines.items ≡ partition_lines table (history front) parts) c.partition_lines.ensures.lines)
