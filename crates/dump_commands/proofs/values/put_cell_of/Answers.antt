use Rattle.std.proofs.Common.{◌≡◌, ◌∙◌, ◌++◌, ap, append-nil, sym, Option, Some, None}
use Rattle.arch_types.specs.declared.cell.Cell.{Cell}
use Rattle.mdb_items.specs.declared.calibration.Calibration.{Calibration}
use Rattle.container_extract.specs.Extraction.{cell_of}
use Rattle.retrieval.specs.CellText.{cell_line}
use Rattle.dump_commands.specs.ValuesPrinting.{count_if, cells_in_row, line_if, line_of}
use Rattle.mdb_lookups.specs.Lookups.{calibration_of}
use Rattle.dump_commands.proofs.values.put_cell_of.Goals as goal

pub returns-in-None-clause-line : goal.returns-in-None-clause-line
unfolding line_of
returns-in-None-clause-line g c =
    let db = c.args.known.now.mdb in
    let number = c.args.known.now.number in
    let none : cell_of db number c.args.row.now ≡ None = sym c.cell_of.ensures.cell ∙ c.in-None.is in
    sym (ap (λ (o : Option Cell). c.args.line_buffer.now ++ line_if (calibration_of db number) o) none ∙ append-nil c.args.line_buffer.now)

pub returns-in-None-clause-count : goal.returns-in-None-clause-count
unfolding cells_in_row
returns-in-None-clause-count g c =
    let none : cell_of c.args.known.now.mdb c.args.known.now.number c.args.row.now ≡ None = sym c.cell_of.ensures.cell ∙ c.in-None.is in
    sym (ap count_if none)

pub returns-in-Some-clause-line : goal.returns-in-Some-clause-line
unfolding line_of
returns-in-Some-clause-line g c =
    let db = c.args.known.now.mdb in
    let number = c.args.known.now.number in
    let some : cell_of db number c.args.row.now ≡ Some c.in-Some.cell = sym c.cell_of.ensures.cell ∙ c.in-Some.is in
    c.put_cell.ensures ∙ ap (λ (calibration : Option Calibration). c.args.line_buffer.now ++ cell_line calibration c.in-Some.cell) c.calibration_of.ensures.value ∙
    sym (ap (λ (o : Option Cell). c.args.line_buffer.now ++ line_if (calibration_of db number) o) some)

pub returns-in-Some-clause-count : goal.returns-in-Some-clause-count
unfolding cells_in_row
returns-in-Some-clause-count g c =
    let some : cell_of c.args.known.now.mdb c.args.known.now.number c.args.row.now ≡ Some c.in-Some.cell = sym c.cell_of.ensures.cell ∙ c.in-Some.is in
    sym (ap count_if some)
