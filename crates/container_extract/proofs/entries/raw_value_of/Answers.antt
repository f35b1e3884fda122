-- The rules give the parameter's width.
use Rattle.std.proofs.Common.{rules, FitsSigned}
use Rattle.std.specs.Int.{w128}
use Rattle.std.proofs.lemmas.Int.{to_z-of_z}
use Rattle.mdb_model.proofs.Structure.{structured}
use Rattle.container_extract.proofs.Taking.{ends_inside, item_is, raw_value_is}
use Rattle.container_extract.proofs.entries.raw_value_of.Goals as goal

pub bits-requires-clause-width : goal.bits-requires-clause-width
bits-requires-clause-width c =
    let db = c.args.mdb.now in
    let p = c.index-parameter_list-entry.result in
    let at = item_is c.parameter_list.result.now db.parameters c.args.entry.parameter p c.parameter_list.ensures.value c.requires.known c.index-parameter_list-entry.is in
    ((structured db c.parameter_list.ensures.sound).parameters c.args.entry.parameter p at).width

pub bits-requires-clause-inside : goal.bits-requires-clause-inside
bits-requires-clause-inside c =
    let db = c.args.mdb.now in
    let p = c.index-parameter_list-entry.result in
    let at = item_is c.parameter_list.result.now db.parameters c.args.entry.parameter p c.parameter_list.ensures.value c.requires.known c.index-parameter_list-entry.is in
    ends_inside db c.args.packet.now c.args.entry p at c.requires.inside

pub returns : goal.returns
returns c =
    let db = c.args.mdb.now in
    let p = c.index-parameter_list-entry.result in
    let at = item_is c.parameter_list.result.now db.parameters c.args.entry.parameter p c.parameter_list.ensures.value c.requires.known c.index-parameter_list-entry.is in
    let fits : FitsSigned w128 c.bits.result = search rules in
    raw_value_is db c.args.packet.now c.args.entry p _ c.bits.result at (to_z-of_z w128 c.bits.result fits) c.bits.ensures
