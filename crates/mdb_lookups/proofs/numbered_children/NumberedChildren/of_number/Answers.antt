use Rattle.std.proofs.Common.{◌∙◌, ap, sym}
use Rattle.std.specs.Prelude.{ℤ, option_copied}
use Rattle.std.specs.Int.{w128}
use Rattle.std.proofs.lemmas.Int.{to_z-of_z}
use Rattle.mdb_lookups.specs.NumberedChildren.{children_at, listed}
use Rattle.mdb_lookups.proofs.numbered_children.NumberedChildren.of_number.Goals as goal

pub returns-in-None : goal.returns-in-None
returns-in-None c =
    let same = to_z-of_z w128 c.args.number c.ranges.number in
    ap listed (ap option_copied (sym c.in-None.is) ∙ c.get.ensures.value) ∙ ap (λ (x : ℤ). children_at c.args.self.now.by_number x) same

pub returns-in-Some : goal.returns-in-Some
returns-in-Some c =
    let same = to_z-of_z w128 c.args.number c.ranges.number in
    c.as_slice.ensures.value ∙ ap listed (ap option_copied (sym c.in-Some.is) ∙ c.get.ensures.value) ∙ ap (λ (x : ℤ). children_at c.args.self.now.by_number x) same
