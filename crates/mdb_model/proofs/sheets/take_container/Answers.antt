use Rattle.std.proofs.Common.{◌∙◌, ℕ, List, ◌∷◌, Option, Ok, ap, sym}
use Rattle.std.specs.Prelude.{not, ◌==◌}
use Rattle.mdb_items.specs.Checks.{first_broken}
use Rattle.mdb_items.specs.ContainerRows.{columns_checks, last_path}
use Rattle.mdb_items.specs.Paths.{path_at, path_end, paths_of}
use Rattle.mdb_model.specs.Sheets.{read_position, read_reference}
use Rattle.mdb_items.specs.Texts.{Text}
use Rattle.mdb_model.proofs.ContainerRecords.{entry_answers, columns_is}
use Rattle.mdb_rules.proofs.ContainerSteps.{none_of}
use Rattle.mdb_model.proofs.sheets.take_container.Goals as goal

pub returns-clause-fault : goal.returns-clause-fault
returns-clause-fault c =
    let ps = c.args.parameters.now.items.items in
    let above = c.args.containers.now in
    let middle = c.take_columns.new.self.items.items in
    let fields = c.args.fields.now in
    let columns = c.in_ok-columns.columns in
    let entry = c.read_reference-entry.result in
    let heads = columns_is ps above.items.items c.args.parameters.now.names above.names fields columns c.requires.names c.requires.path.names c.in_ok-columns.ensures in
    let none = none_of c.in_ok-rule.rule (sym c.is_some.ensures ∙ c.if-is_some.false) in
    let went = ap (λ (o : Option ℕ). Ok o) none in
    let sound = sym none ∙ c.in_ok-rule.ensures.fault ∙ ap (λ (n : ℕ). first_broken ((2, not (n == 6)) ∷ columns_checks above.items.items columns)) c.len.ensures in
    let grown = c.in_ok-rule.ensures.added went in
    let path = c.in_ok-rule.ensures.path went ps c.requires.path in
    let enters = c.read_reference-entry.ensures ∙ ap (λ (xs : List Text). read_reference xs c.field.result.now) c.requires.names ∙ ap (read_reference _) c.field.ensures in
    let ends = c.end_of_path-end.ensures ps path ∙ ap (λ (o : Option ℕ). path_end ps (path_at (paths_of middle) o)) c.last-last.ensures in
    let placed = c.read_position-position.ensures ∙ ap (λ (n : ℕ). read_position n entry c.field-2.result.now) ends ∙ ap (read_position (path_end ps (last_path middle)) entry) c.field-2.ensures in
    entry_answers ps c.as_slice-items.result.now above.items.items middle fields columns c.is_continuing-continuing.result entry c.read_position-position.result c.take_entry.result c.as_slice-items.ensures.value heads sound grown c.is_continuing-continuing.ensures enters placed c.take_entry.ensures.fault
