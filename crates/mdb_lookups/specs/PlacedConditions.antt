-- Conditions whose comparisons each know where on the path above their parameter stands.
use Rattle.std.specs.Prelude.{◌≡◌, ℕ, ◌==◌, List, [], map, slice_get, Option, Some, None}
use Rattle.std.specs.List.{position_or_len}
use Rattle.mdb_items.specs.declared.container.Comparison.{Comparison}
use Rattle.mdb_items.specs.declared.container.Container.{Container}
use Rattle.mdb_items.specs.Paths.{ContainerPath, path_at, paths_of}

-- the parameters of the entries of a path, from the root on
abbrev pub path_parameters : ContainerPath → List ℕ
path_parameters path = map (λ e. e.parameter) path.entries

-- a comparison with the place of its parameter among those of a path, counted from 0
abbrev pub with_place : List ℕ → Comparison → Comparison × ℕ
with_place parameters x = (x, position_or_len (λ p. p == x.parameter) parameters)

-- the condition of a container, each comparison with its place on the path of the parent
abbrev pub placed_below : List ContainerPath → Container → List (Comparison × ℕ)
placed_below paths c = map (with_place (path_parameters (path_at paths c.parent))) c.condition

-- the same where there is a container
abbrev pub placed_of : List ContainerPath → Option Container → List (Comparison × ℕ)
placed_of paths None = []
placed_of paths (Some c) = placed_below paths c

-- the condition of the container with a number, each comparison with its place on the path of the parent
abbrev pub placed_condition : List Container → ℕ → List (Comparison × ℕ)
placed_condition containers n = placed_of (paths_of containers) (slice_get containers n)

-- a list for each container: its condition, placed
abbrev pub ArePlacedConditions : List Container → List (List (Comparison × ℕ)) → Type 0
ArePlacedConditions containers lists = lists ≡ map (placed_below (paths_of containers)) containers
