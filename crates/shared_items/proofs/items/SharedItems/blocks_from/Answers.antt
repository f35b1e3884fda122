use Rattle.std.proofs.Common.{◌≡◌, ◌∙◌, ◌-◌, ◌≤◌, ℕ, ℤ, List, length, take, drop, map, sym, ap, subst, arith, length-drop, w64, to_z, of_z, SFits, rules}
use Rattle.std.specs.Arc.{arc_value}
use Rattle.std.proofs.lemmas.Int.{to_z-of_z}
use Rattle.std.proofs.lemmas.List.{drop-map, take_all}
use Rattle.shared_items.specs.Blocks.{IsBlockFor, items_of_blocks}
use Rattle.shared_items.specs.Order.{AreFrom}
use Rattle.shared_items.proofs.Blocks.{from_place}
use Rattle.shared_items.proofs.items.SharedItems.blocks_from.Goals as goal

-- from a place on to the end
to_the_end : {X : Type 0} (xs : List X) (n : ℕ) → take (length xs - n) (drop n xs) ≡ drop n xs
to_the_end xs n = let all : length (drop n xs) ≤ length xs - n = omega (arith, length-drop n xs) in take_all (length xs - n) (drop n xs) all

pub returns-clause-from : goal.returns-clause-from
returns-clause-from g c =
    let n = g.T.Numbered.number_of in
    let blocks = c.self.inside.blocks.items in
    let place = c.block_for-place.result in
    let slice = c.as_slice-3.result.now in
    let fits : SFits w64 c.args.number = search rules in
    let number = to_z-of_z w64 c.args.number fits in
    let at = subst (λ l. IsBlockFor n (to_z w64 (of_z w64 c.args.number)) (map arc_value l) place) c.as_slice-2.ensures.value c.block_for-place.ensures in
    let is = subst (λ (m : ℤ). IsBlockFor n m (map arc_value blocks) place) number at in
    let rest = to_the_end slice place ∙ ap (drop place) c.as_slice-3.ensures.value in
    let items = ap (λ l. items_of_blocks (map arc_value l)) rest ∙ ap items_of_blocks (sym (drop-map arc_value place blocks)) in
    subst (λ l. AreFrom n c.args.number l (items_of_blocks (map arc_value (take (length slice - place) (drop place slice))))) c.self.view_is
    (from_place n c.args.number (map arc_value blocks) place _ is items)
