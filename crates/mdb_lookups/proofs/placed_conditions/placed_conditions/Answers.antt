use Rattle.std.proofs.Common.{◌≡◌, ◌∙◌, ◌<◌, ◌++◌, ◌∷◌, List, [], length, map, refl, ap, arith}
use Rattle.std.specs.Prelude.{ℕ}
use Rattle.std.proofs.lemmas.Option.{slice_get_read}
use Rattle.mdb_items.specs.declared.container.Comparison.{Comparison}
use Rattle.mdb_items.specs.Paths.{path_at, paths_of}
use Rattle.mdb_lookups.specs.PlacedConditions.{path_parameters, placed_below, with_place}
use Rattle.mdb_lookups.proofs.PathPlaces.{made_more}
use Rattle.mdb_lookups.proofs.placed_conditions.placed_conditions.Goals as goal

pub loop-container-preserved : goal.loop-container-preserved
loop-container-preserved c =
    let cs = c.args.containers.now in
    let i = c.loop-container.container-index in
    let k = c.container-item.result in
    let before = c.loop-container.conditions.items in
    let own = c.in_ok-comparisons.comparisons.items in
    let lt : i < length cs = omega arith in
    let at = slice_get_read cs (length cs) i k refl lt c.container-item.is in
    let above = path_parameters (path_at (paths_of cs) k.parent) in
    let up : c.parameters_at-parameters.result.now ≡ above = c.parameters_at-parameters.ensures (paths_of cs) (c.as_slice.ensures.value ∙ c.in_ok-paths.ensures) in
    let is : own ≡ placed_below (paths_of cs) k = c.in_ok-comparisons.ensures
    ∙ ap (λ (ps : List ℕ). map (with_place ps) c.as_slice-in-loop-container.result.now) up ∙ ap (map (with_place above)) c.as_slice-in-loop-container.ensures in
    let grown : c.push.new.self.items ≡ before ++ own ∷ [] = c.in_ok-push.ensures.items ∙ ap (λ (xs : List (Comparison × ℕ)). before ++ xs ∷ []) c.from_vec.ensures in
    grown ∙ ap (λ (xs : List (Comparison × ℕ)). before ++ xs ∷ []) is ∙ made_more (placed_below (paths_of cs)) cs i k before at c.loop-container.invariant
