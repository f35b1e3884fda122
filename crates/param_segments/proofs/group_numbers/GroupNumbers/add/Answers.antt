use Rattle.std.proofs.Common.{◌≡◌, ◌∙◌, ◌++◌, ◌∷◌, [], List, ℕ, Some, None, ap, length, arith, subst, sym}
use Rattle.std.specs.Prelude.{nat_eq}
use Rattle.std.specs.List.{position}
use Rattle.std.specs.Global.{Vec}
use Rattle.std.specs.declared.snapshot.Snapshot.{Snapshot}
use Rattle.std.proofs.lemmas.List.{length-map}
use lib.Pointwise.{pointwise}
use Rattle.param_segments.specs.NotedLists.{AreNumbered, noted_lists}
use Rattle.param_segments.proofs.ListSteps.{noted_more, numbered_more}
use Rattle.param_segments.proofs.group_numbers.GroupNumbers.add.Goals as goal

pub invariant_of-self-2 : goal.invariant_of-self-2
invariant_of-self-2 c =
    let key = c.args.parameters in
    let lists = noted_lists c.self.inside.order.items in
    let grown : noted_lists c.push_reserved.new.self.items ≡ lists ++ key.items ∷ [] =
    ap noted_lists c.push_reserved.ensures.items ∙ noted_more c.reserve.new.self.items c.of-noted.result key c.of-noted.ensures
    ∙ ap (λ o. noted_lists o ++ key.items ∷ []) c.reserve.ensures.items in
    let new : position (pointwise nat_eq key.items) lists ≡ None = ap (position (pointwise nat_eq key.items)) c.self.view_is ∙ c.requires in
    let count : c.len-number.result ≡ length lists = omega (arith, c.len-number.ensures, ap length c.reserve.ensures.items, length-map c.self.inside.order.items (λ (s : Snapshot (Vec ℕ)). s.value.items)) in
    subst (AreNumbered c.insert.new.self.entries) (sym grown)
    (numbered_more c.self.inside.tree.entries c.insert.new.self.entries lists key c.self.invariant new (c.in_ok-insert.ensures.updates.1 ∙ ap (λ (n : ℕ). Some n) count) c.in_ok-insert.ensures.updates.3)

pub returns-clause-added : goal.returns-clause-added
returns-clause-added c =
    let key = c.args.parameters in
    ap noted_lists c.push_reserved.ensures.items ∙ noted_more c.reserve.new.self.items c.of-noted.result key c.of-noted.ensures
    ∙ ap (λ o. noted_lists o ++ key.items ∷ []) c.reserve.ensures.items ∙ ap (λ (ls : List (List ℕ)). ls ++ key.items ∷ []) c.self.view_is
