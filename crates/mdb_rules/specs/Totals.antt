-- What the containers of the rows so far keep beside themselves.
use Rattle.std.specs.Prelude.{◌≡◌, ◌<◌, ℕ, List, length, map, slice_get, unwrap_or, Option, Some, None}
use Rattle.mdb_items.specs.declared.container.Container.{Container}
use Rattle.mdb_rules.specs.declared.container_rows.Containers.{Containers}
use Rattle.mdb_rules.specs.declared.container_rows.PathTotals.{PathTotals}
use Rattle.mdb_items.specs.declared.parameter.Parameter.{Parameter}
use Rattle.mdb_items.specs.Paths.{AreEarlier, ContainerPath, path_end, paths_of}

-- the counts of a path, and the bit after its last entry
abbrev pub totals_of : List Parameter → ContainerPath → PathTotals
totals_of parameters path = record { containers = path.containers; entries = length path.entries; end = path_end parameters path }

-- the number, if any, is that of a container
abbrev pub IsNumber : List Container → Option ℕ → Type 0
IsNumber cs number = (n : ℕ) → number ≡ Some n → n < length cs

-- the names and the totals are those of the containers, each of which stands below its parent
pub record HasPaths (parameters : List Parameter) (c : Containers) : Type 0 where
  pub names : c.names ≡ map (λ x. x.name) c.items.items
  pub all_totals : c.all_totals.items ≡ map (totals_of parameters) (paths_of c.items.items)
  pub earlier : AreEarlier c.items.items

-- so it is for some parameters
abbrev pub HasSomePaths : Containers → Type 0
HasSomePaths c = (parameters : List Parameter) × HasPaths parameters c

-- what holds for some parameters holds for them still
abbrev pub KeepsPaths : Containers → Containers → Type 0
KeepsPaths old new = (parameters : List Parameter) → HasPaths parameters old → HasPaths parameters new

-- the counts above the root
abbrev pub no_totals : PathTotals
no_totals = record { containers = 0; entries = 0; end = 0 }

-- the totals of the container with a number
abbrev pub totals_at : List PathTotals → Option ℕ → PathTotals
totals_at all_totals None = no_totals
totals_at all_totals (Some n) = unwrap_or (slice_get all_totals n) no_totals
