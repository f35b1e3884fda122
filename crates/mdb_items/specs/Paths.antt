-- What stands on the path from the root down to a container.
use Rattle.std.specs.Prelude.{◌≡◌, ℕ, suc, ◌+◌, ◌<◌, ◌==◌, Bool, List, [], ◌∷◌, ◌++◌, length, fold, slice_get, Option, Some, None, unwrap_or}
use Rattle.std.specs.List.{list_any}
use Rattle.mdb_items.specs.declared.container.Container.{Container}
use Rattle.mdb_items.specs.declared.container.ParameterEntry.{ParameterEntry}
use Rattle.mdb_items.specs.declared.parameter.Parameter.{Parameter}
use Rattle.mdb_items.specs.Lists.{last_of}

-- how many containers stand on a path, and their entries from the root on
pub record ContainerPath : Type 0 where
  pub containers : ℕ
  pub entries : List ParameterEntry

-- above the root nothing stands
abbrev pub no_path : ContainerPath
no_path = record { containers = 0; entries = [] }

-- the path of a container: its parent's path, and then itself
abbrev pub path_below : ContainerPath → Container → ContainerPath
path_below up c = record { containers = suc up.containers; entries = up.entries ++ c.entries }

-- the path of the container with a number
abbrev pub path_at : List ContainerPath → Option ℕ → ContainerPath
path_at paths None = no_path
path_at paths (Some n) = unwrap_or (slice_get paths n) no_path

-- the paths with that of one more container, which stands below its parent
abbrev pub with_path : List ContainerPath → Container → List ContainerPath
with_path paths c = paths ++ path_below (path_at paths c.parent) c ∷ []

-- the paths of containers that each stand below their parents
unfoldable pub paths_of : List Container → List ContainerPath
paths_of containers = fold with_path [] containers

-- the parent of a container, where there is one
abbrev pub parent_of : Option Container → Option ℕ
parent_of None = None
parent_of (Some c) = c.parent

-- each parent stands earlier
abbrev pub AreEarlier : List Container → Type 0
AreEarlier cs = (n p : ℕ) → n < length cs → parent_of (slice_get cs n) ≡ Some p → p < n

-- the number of the last container
abbrev pub last_number : List Container → Option ℕ
last_number [] = None
last_number (c ∷ containers) = Some (length containers)

-- the parameter is that of an entry
abbrev pub stands_on : List ParameterEntry → ℕ → Bool
stands_on entries n = list_any (λ e. e.parameter == n) entries

-- the bits of a parameter, or none
abbrev pub bits_of_parameter : Option Parameter → ℕ
bits_of_parameter None = 0
bits_of_parameter (Some p) = p.bits

-- the bits of a parameter
abbrev pub bits_at : List Parameter → ℕ → ℕ
bits_at parameters n = bits_of_parameter (slice_get parameters n)

-- the bit after an entry; before the first entry positions count from 0
abbrev pub end_after : List Parameter → Option ParameterEntry → ℕ
end_after parameters None = 0
end_after parameters (Some e) = e.at + bits_at parameters e.parameter

-- the bit after the last entry of a line
abbrev pub path_end : List Parameter → ContainerPath → ℕ
path_end parameters path = end_after parameters (last_of path.entries)
