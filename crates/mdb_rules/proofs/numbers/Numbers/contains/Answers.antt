use Rattle.std.proofs.Common.{◌∙◌, ap}
use Rattle.std.specs.Prelude.{ℤ}
use Rattle.std.specs.Int.{w128}
use Rattle.std.proofs.lemmas.Int.{to_z-of_z}
use Rattle.mdb_items.specs.Numbers.{has_number}
use Rattle.mdb_rules.proofs.numbers.Numbers.contains.Goals as goal

pub returns : goal.returns
returns c =
    let same = to_z-of_z w128 c.args.number c.ranges.number in
    c.contains.ensures ∙ ap (λ (x : ℤ). has_number x c.self.inside.tree.keys) same ∙ c.self.invariant c.args.number ∙ ap (has_number c.args.number) c.self.view_is
