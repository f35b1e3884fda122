-- What comes of jobs.
use Rattle.std.specs.Prelude.{◌≡◌, List, [], ◌∷◌, ◌++◌}

-- this came of each job, in their order
abbrev pub EachDid : {J E : Type 0} → (J → E → Type 0) → List J → List E → Type 0
EachDid did [] [] = Unit {0}
EachDid did [] (end ∷ ends) = ⊥
EachDid did (job ∷ jobs) [] = ⊥
EachDid did (job ∷ jobs) (end ∷ ends) = did job end × EachDid did jobs ends

-- what came of the jobs stands behind what came of others
pub record Ends {J E : Type 0} (did : J → E → Type 0) (jobs : List J) (old new : List E) : Type 0 where
  pub ends : List E
  pub added : new ≡ old ++ ends
  pub each : EachDid did jobs ends
