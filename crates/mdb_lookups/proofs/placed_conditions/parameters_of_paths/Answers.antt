use Rattle.std.proofs.Common.{◌≡◌, ◌∙◌, ◌<◌, ◌++◌, ◌∷◌, List, [], length, map, take, refl, ap, sym, arith}
use Rattle.std.specs.Prelude.{ℕ}
use Rattle.std.proofs.lemmas.Option.{slice_get_read}
use Rattle.mdb_items.specs.declared.container.ParameterEntry.{ParameterEntry}
use Rattle.mdb_items.specs.Paths.{path_at, paths_of}
use Rattle.mdb_lookups.specs.PlacedConditions.{path_parameters}
use Rattle.mdb_lookups.proofs.PathPlaces.{paths_begin, paths_more}
use Rattle.mdb_lookups.proofs.placed_conditions.parameters_of_paths.Goals as goal

pub loop-container-init : goal.loop-container-init
loop-container-init c = c.in_ok-paths.ensures.items ∙ sym paths_begin

pub loop-container-preserved : goal.loop-container-preserved
loop-container-preserved c =
    let cs = c.args.containers.now in
    let i = c.loop-container.container-index in
    let k = c.container-item.result in
    let paths = c.loop-container.paths.items in
    let own = c.in_ok-parameters.parameters.items in
    let lt : i < length cs = omega arith in
    let at = slice_get_read cs (length cs) i k refl lt c.container-item.is in
    let front = paths_of (take i cs) in
    let up : c.parameters_at-above.result.now ≡ path_parameters (path_at front k.parent) = c.parameters_at-above.ensures front (c.as_slice.ensures.value ∙ c.loop-container.invariant) in
    let is : own ≡ path_parameters (path_at front k.parent) ++ map (λ (e : ParameterEntry). e.parameter) k.entries = c.in_ok-parameters.ensures
    ∙ ap (λ (xs : List ℕ). xs ++ map (λ (e : ParameterEntry). e.parameter) c.as_slice-in-loop-container.result.now) up
    ∙ ap (λ (es : List ParameterEntry). path_parameters (path_at front k.parent) ++ map (λ (e : ParameterEntry). e.parameter) es) c.as_slice-in-loop-container.ensures in
    let grown : c.push.new.self.items ≡ paths ++ own ∷ [] = c.in_ok-push.ensures.items ∙ ap (λ (xs : List ℕ). paths ++ xs ∷ []) c.from_vec.ensures in
    grown ∙ paths_more cs i k paths own at c.loop-container.invariant is
