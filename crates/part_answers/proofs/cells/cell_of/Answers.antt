use Rattle.std.proofs.Common.{◌∙◌, None, Some, ap, rules, sym, FitsSigned}
use Rattle.std.specs.Prelude.{option_copied}
use Rattle.std.specs.Int.{w128}
use Rattle.std.proofs.lemmas.Int.{to_z-of_z}
use Rattle.container_extract.specs.Extraction.{raw_extraction}
use Rattle.container_extract.specs.Values.{raw_among}
use Rattle.container_extract.proofs.Extracting.{raw_value_is_sound}
use Rattle.part_answers.proofs.FoundCells.{cell_is}
use Rattle.part_answers.proofs.cells.cell_of.Goals as goal

pub eng_of-requires : goal.eng_of-requires
eng_of-requires g c =
    let db = c.args.mdb.now in
    let all = c.extract-extracted.ensures.values ∙ ap (raw_extraction db) c.as_slice.ensures in
    let found = sym (c.value.ensures ∙ ap (raw_among c.args.number) all) ∙ ap option_copied c.in-Some.is in
    raw_value_is_sound db c.args.row.now.packet c.args.number c.in-Some.value.now c.is_sound.ensures found

pub returns-in-Some-clause-cell : goal.returns-in-Some-clause-cell
returns-in-Some-clause-cell g c =
    let db = c.args.mdb.now in
    let v = c.in-Some.value.now in
    let all = c.extract-extracted.ensures.values ∙ ap (raw_extraction db) c.as_slice.ensures in
    let fits : FitsSigned w128 v.raw = search rules in
    rw (to_z-of_z w128 v.raw fits, c.eng_of.ensures)
    (cell_is db c.args.number c.args.row.now c.extract-extracted.result.now.values.items (Some v) all (sym (ap option_copied c.in-Some.is) ∙ c.value.ensures))

pub returns-in-None-clause-cell : goal.returns-in-None-clause-cell
returns-in-None-clause-cell g c =
    let db = c.args.mdb.now in
    let all = c.extract-extracted.ensures.values ∙ ap (raw_extraction db) c.as_slice.ensures in
    cell_is db c.args.number c.args.row.now c.extract-extracted.result.now.values.items None all (sym (ap option_copied c.in-None.is) ∙ c.value.ensures)
