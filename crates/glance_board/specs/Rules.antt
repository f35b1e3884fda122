-- The rule of the board.
use Rattle.std.specs.Prelude.{◌≡◌, ℕ, List, [], ◌∷◌}
use Rattle.std.specs.List.{AllByRecursion}
use mathlib.Core.Option.{some}
use lib.ListN.{get_elem?}
use Rattle.glance_log.specs.Sightings.{Sighting, IsFollowedBy}
use Rattle.glance_board.specs.declared.rule.Watched.{Watched}

-- what is shown follows all that anybody has seen
abbrev pub Shows : {X : Type 0} → Sighting X → List (Watched X) → Type 0
Shows {X} now views =
    (seat : ℕ) (v : Watched X) → get_elem? views seat ≡ some v → AllByRecursion (λ s. IsFollowedBy s now) v.seen

-- what was shown before follows what was seen, and what is shown now is seen
abbrev pub SeesNow : {X : Type 0} → Watched X → Sighting X → Sighting X → Watched X → Type 0
SeesNow v before now w = AllByRecursion (λ s. IsFollowedBy s before) v.seen × (w.seen ≡ now ∷ [])

-- one publication was seen, which follows this one
pub record HasSeen {X : Type 0} (v : Watched X) (at : Sighting X) : Type 0 where
  pub now : Sighting X
  pub seen : v.seen ≡ now ∷ []
  pub follows : IsFollowedBy at now

-- what had seen one that follows a publication has so still
abbrev pub Moves : {X : Type 0} → Watched X → Watched X → Type 0
Moves {X} v w = (at : Sighting X) → HasSeen v at → HasSeen w at
