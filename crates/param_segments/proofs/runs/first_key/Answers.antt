use Rattle.std.proofs.Common.{◌≡◌, ◌∷◌, List, subst, sym}
use Rattle.arch_types.specs.declared.key.Key.{Key}
use Rattle.param_segments.proofs.KeyPlaces.{first_is}
use Rattle.param_segments.proofs.runs.first_key.Goals as goal

pub returns : goal.returns
returns c =
    let keys = c.args.segment.now.keys in
    subst (λ (k : Key). (rest : List Key) × (keys ≡ k ∷ rest)) (sym c.first.ensures) (first_is keys c.requires.some_rows)
