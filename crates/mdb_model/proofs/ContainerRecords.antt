-- One record of the containers sheet: its columns before the entry, and then its entry.
use Rattle.std.proofs.Common.{◌≡◌, ◌∙◌, ℕ, List, ◌∷◌, length, map, Option, None, Result, Bool, ap, subst}
use Rattle.std.specs.Prelude.{IfOk, not, ◌==◌}
use Rattle.mdb_items.specs.declared.container.Container.{Container}
use Rattle.mdb_items.specs.declared.parameter.Parameter.{Parameter}
use Rattle.mdb_items.specs.declared.rows.ContainerColumns.{ContainerColumns}
use Rattle.mdb_items.specs.declared.rows.EntryPosition.{EntryPosition}
use Rattle.mdb_items.specs.declared.rows.Reference.{Reference}
use Rattle.mdb_items.specs.Checks.{first_broken, or_else}
use Rattle.mdb_items.specs.ContainerRows.{entry_checks, columns_checks, is_continuing, last_path, row_fault, with_columns}
use Rattle.mdb_items.specs.Paths.{path_end}
use Rattle.mdb_model.specs.Sheets.{columns_of, name_of_container, name_of_parameter, read_container, read_columns, read_position, read_reference}
use Rattle.mdb_items.specs.Texts.{Text, field}

-- the names are those of the items
pub columns_is : (ps : List Parameter) (above : List Container) (names numbers : List Text) (fields : List Text) (columns : ContainerColumns) → names ≡ map name_of_parameter ps → numbers ≡ map name_of_container above
    → columns ≡ read_columns names numbers (field fields 0) (field fields 1) (field fields 2) (field fields 3) → columns ≡ columns_of ps above fields
columns_is ps above names numbers fields columns first second is =
    is ∙ ap (λ (xs : List Text). read_columns xs numbers (field fields 0) (field fields 1) (field fields 2) (field fields 3)) first
    ∙ ap (λ (xs : List Text). read_columns (map name_of_parameter ps) xs (field fields 0) (field fields 1) (field fields 2) (field fields 3)) second

-- once the columns before the entry break no rule, the entry's rules decide
entry_decides : (ps : List Parameter) (above middle : List Container) (fields : List Text) (columns : ContainerColumns) (continuing : Bool) (entry : Reference) (position : EntryPosition) → columns ≡ columns_of ps above fields
    → None ≡ first_broken ((2, not (length fields == 6)) ∷ columns_checks above columns) → middle ≡ with_columns above columns → continuing ≡ is_continuing columns
    → entry ≡ read_reference (map name_of_parameter ps) (field fields 4) → position ≡ read_position (path_end ps (last_path middle)) entry (field fields 5)
    → first_broken (entry_checks ps (last_path middle) continuing entry position) ≡ row_fault ps above (read_container ps above fields)
entry_decides ps above middle fields columns continuing entry position heads sound grown continues enters placed =
    let h = columns_of ps above fields in
    let e = read_reference (map name_of_parameter ps) (field fields 4) in
    let at = λ (m : List Container) (r : Reference). read_position (path_end ps (last_path m)) r (field fields 5) in
    let rest : Option ℕ = first_broken (entry_checks ps (last_path (with_columns above h)) (is_continuing h) e (at (with_columns above h) e)) in
    let passes : None ≡ first_broken ((2, not (length fields == 6)) ∷ columns_checks above h) = sound ∙ ap (λ (x : ContainerColumns). first_broken ((2, not (length fields == 6)) ∷ columns_checks above x)) heads in
    ap (λ (p : EntryPosition). first_broken (entry_checks ps (last_path middle) continuing entry p)) placed
    ∙ ap (λ (m : List Container). first_broken (entry_checks ps (last_path m) continuing entry (at m entry))) grown
    ∙ ap (λ (b : Bool). first_broken (entry_checks ps (last_path (with_columns above columns)) b entry (at (with_columns above columns) entry))) continues
    ∙ ap (λ (r : Reference). first_broken (entry_checks ps (last_path (with_columns above columns)) (is_continuing columns) r (at (with_columns above columns) r))) enters
    ∙ ap (λ (x : ContainerColumns). first_broken (entry_checks ps (last_path (with_columns above x)) (is_continuing x) e (at (with_columns above x) e))) heads
    ∙ ap (λ (o : Option ℕ). or_else o rest) passes

pub entry_answers : {E : Type 0} (ps slice : List Parameter) (above middle : List Container) (fields : List Text) (columns : ContainerColumns) (continuing : Bool) (entry : Reference) (position : EntryPosition) (r : Result (Option ℕ) E) → slice ≡ ps → columns ≡ columns_of ps above fields
    → None ≡ first_broken ((2, not (length fields == 6)) ∷ columns_checks above columns) → middle ≡ with_columns above columns → continuing ≡ is_continuing columns
    → entry ≡ read_reference (map name_of_parameter ps) (field fields 4) → position ≡ read_position (path_end ps (last_path middle)) entry (field fields 5)
    → IfOk r (λ rule. rule ≡ first_broken (entry_checks slice (last_path middle) continuing entry position)) → IfOk r (λ rule. rule ≡ row_fault ps above (read_container ps above fields))
entry_answers ps slice above middle fields columns continuing entry position r same heads sound grown continues enters placed answer =
    let P : Option ℕ → Type 0 = λ x. IfOk r (λ rule. rule ≡ x) in
    let Q : List Parameter → Type 0 = λ xs. IfOk r (λ rule. rule ≡ first_broken (entry_checks xs (last_path middle) continuing entry position)) in
    subst P (entry_decides ps above middle fields columns continuing entry position heads sound grown continues enters placed) (subst Q same answer)
