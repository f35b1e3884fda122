-- The containers directly below a container.
use Rattle.std.specs.Prelude.{◌≡◌, ◌<◌, ℕ, suc, ◌==◌, Bool, false, List, [], ◌∷◌, length, slice_get, Option, Some, None, if◌then◌else◌}
use Rattle.mdb_items.specs.declared.container.Container.{Container}

-- the number is that of the parent
abbrev pub is_parent_of : ℕ → Option ℕ → Bool
is_parent_of n None = false
is_parent_of n (Some p) = p == n

-- the numbers of the containers below the one with a number, where the first of the list has the number k
abbrev pub children_from : ℕ → ℕ → List Container → List ℕ
children_from n k [] = []
children_from n k (c ∷ cs) = if is_parent_of n c.parent then k ∷ children_from n (suc k) cs else children_from n (suc k) cs

-- the numbers of the containers directly below the one with a number, in the order of the sheet
abbrev pub children_of : List Container → ℕ → List ℕ
children_of containers n = children_from n 0 containers

-- the child itself where the number is that of its parent
abbrev pub if_parent : ℕ → Option ℕ → ℕ → List ℕ
if_parent n parent child = if is_parent_of n parent then child ∷ [] else []

-- one list for each container: the numbers of its children
pub record AreChildren (containers : List Container) (lists : List (List ℕ)) : Type 0 where
  pub count : length lists ≡ length containers
  pub each : (n : ℕ) → n < length containers → slice_get lists n ≡ Some (children_of containers n)
