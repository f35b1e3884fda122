use Rattle.std.proofs.Common.{◌≡◌, ◌∙◌, ◌++◌, ◌∷◌, [], List, true, cond, ap, subst, sym}
use Rattle.std.specs.Prelude.{ℤ}
use Rattle.std.specs.Int.{w128}
use Rattle.std.specs.Ordering.{int_eq}
use Rattle.std.proofs.lemmas.Int.{to_z-of_z}
use Rattle.mdb_items.specs.Numbers.{has_number}
use Rattle.mdb_rules.specs.NotedNumbers.{HaveSameNumbers, noted_numbers}
use Rattle.mdb_rules.proofs.NumberSteps.{noted_more, same_more}
use Rattle.mdb_rules.proofs.numbers.Numbers.add.Goals as goal

pub invariant_of-self-2 : goal.invariant_of-self-2
invariant_of-self-2 c =
    let number = c.args.number in
    let keys = c.self.inside.tree.keys in
    let same = to_z-of_z w128 number c.ranges.number in
    let told = c.of.ensures in
    let noted : c.of.result.value ≡ number = cc in
    let grown : noted_numbers c.push_reserved.new.self.items ≡ noted_numbers c.self.inside.order.items ++ number ∷ [] =
    ap noted_numbers c.push_reserved.ensures.items ∙ noted_more c.reserve.new.self.items c.of.result number noted
    ∙ ap (λ o. noted_numbers o ++ number ∷ []) c.reserve.ensures.items in
    let added : (x : ℤ) → has_number x c.insert.new.self.keys ≡ cond (int_eq number x) true (has_number x keys) = λ x.
    c.in_ok-insert.ensures.updates.0 x ∙ ap (λ (n : ℤ). cond (int_eq n x) true (has_number x keys)) same in
    subst (λ (ns : List ℤ). HaveSameNumbers c.insert.new.self.keys ns) (sym grown)
    (same_more keys c.insert.new.self.keys (noted_numbers c.self.inside.order.items) number c.self.invariant added)

pub returns-clause-added : goal.returns-clause-added
returns-clause-added c =
    let number = c.args.number in
    let same = to_z-of_z w128 number c.ranges.number in
    let told = c.of.ensures in
    let noted : c.of.result.value ≡ number = cc in
    ap noted_numbers c.push_reserved.ensures.items ∙ noted_more c.reserve.new.self.items c.of.result number noted
    ∙ ap (λ o. noted_numbers o ++ number ∷ []) c.reserve.ensures.items ∙ ap (λ (ns : List ℤ). ns ++ number ∷ []) c.self.view_is
