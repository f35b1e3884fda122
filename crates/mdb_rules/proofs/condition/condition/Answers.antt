use Rattle.std.proofs.Common.{◌∙◌, map, sym}
use Rattle.mdb_items.specs.Conditions.{all_of, comparison, pieces}
use Rattle.mdb_rules.proofs.Pieces.{condition_more, joined-none, some_octet}
use Rattle.mdb_rules.proofs.condition.condition.Goals as goal

pub pieces-init : goal.pieces-init
pieces-init c =
    let some = some_octet c.args.text.now (sym c.is_empty.ensures ∙ c.if-is_empty.false) in
    rw c.new-comparisons.ensures (joined-none (all_of (map (comparison c.args.parameters.now) (pieces c.args.text.now))) ∙ sym (condition_more c.args.parameters.now c.args.text.now some))
