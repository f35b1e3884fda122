-- One step from a container to the next.
use Rattle.std.specs.Prelude.{◌≡◌, ◌||◌, ℕ, Bool, false, List, [], ◌++◌, length, map, nat_le, nat_lt, slice_get, Option, Some, None, if◌then◌else◌}
use Rattle.std.specs.List.{find, list_all, take_while}
use Rattle.mdb_items.specs.declared.container.Comparison.{Comparison}
use Rattle.mdb_items.specs.declared.container.Container.{Container}
use Rattle.mdb_items.specs.Database.{Database}
use Rattle.mdb_items.specs.Paths.{path_at, paths_of}
use Rattle.mdb_lookups.specs.declared.numbered_children.NumberedChildren.{NumberedChildren}
use Rattle.mdb_lookups.specs.NumberedChildren.{children_at}
use Rattle.mdb_lookups.specs.PlacedConditions.{path_parameters, placed_condition}
use Rattle.container_extract.specs.declared.values.RawValue.{RawValue}
use Rattle.container_extract.specs.Chain.{entries_at, first_child}
use Rattle.container_extract.specs.Values.{fits, is_met, raw_value_of}

-- the raw values with those of a container's entries, cut before the first that passes the packet's end, and what comes after the container
pub record IsStep (db : Database) (packet : List ℕ) (values : List RawValue) (n : ℕ) (more : List RawValue) (next : Option ℕ) : Type 0 where
  pub values_are : more ≡ values ++ map (raw_value_of db packet) (take_while (fits db packet) (entries_at db n))
  pub next_is : next ≡ (if list_all (fits db packet) (entries_at db n) then first_child db.containers n more else None)

-- the parameters of raw values
abbrev pub parameters_of_values : List RawValue → List ℕ
parameters_of_values values = map (λ v. v.parameter) values

-- the values are of the entries of the path of the container with a number, in their order
abbrev pub AreOfPath : Database → ℕ → List RawValue → Type 0
AreOfPath db n values = parameters_of_values values ≡ path_parameters (path_at (paths_of db.containers) (Some n))

-- with values of the container's own entries behind them they are
abbrev pub AreAbove : Database → ℕ → List RawValue → Type 0
AreAbove db n values = parameters_of_values values ++ map (λ e. e.parameter) (entries_at db n) ≡ path_parameters (path_at (paths_of db.containers) (Some n))

-- the value at the place of a comparison meets it
abbrev pub is_met_at : List RawValue → Comparison × ℕ → Bool
is_met_at values placed = is_met placed.0 (slice_get values placed.1)

-- each comparison of a condition is met by the value at its place
abbrev pub holds_by_places : List RawValue → List (Comparison × ℕ) → Bool
holds_by_places values condition = list_all (is_met_at values) condition

-- the container with a number is there, and its condition holds of the values at its places
abbrev pub holds_at : List Container → List RawValue → ℕ → Bool
holds_at containers values n = if nat_lt n (length containers) then holds_by_places values (placed_condition containers n) else false

-- the children that ask for the number of a value, where there is a value
abbrev pub children_asking : NumberedChildren → Option RawValue → List ℕ
children_asking children None = []
children_asking children (Some v) = children_at children.by_number v.raw

-- a container stands no earlier than the first one that was found, where one was
abbrev pub is_behind : Option ℕ → ℕ → Bool
is_behind None n = false
is_behind (Some first) n = nat_le first n

-- the first one that was found, unless another stands earlier
abbrev pub earlier_of : Option ℕ → Option ℕ → Option ℕ
earlier_of first None = first
earlier_of first (Some other) = if is_behind first other then first else Some other

-- the first one that was found, unless another that a test passes stands earlier
abbrev pub first_unless : (ℕ → Bool) → Option ℕ → List ℕ → Option ℕ
first_unless test first others = earlier_of first (find (λ n. is_behind first n || test n) others)
