-- The containers sheet: a row with a name begins a container, one without a name continues the last with one more entry.
use Rattle.std.specs.Prelude.{ℕ, ◌+◌, ◌==◌, ◌&&◌, not, Bool, true, false, List, [], ◌∷◌, ◌++◌, length, map, take, fold, slice_get, Option, Some, None, is_some, unwrap_or, nat_le, nat_lt}
use Rattle.std.specs.List.{list_any, list_all}
use Rattle.text_forms.specs.Names.{is_name}
use Rattle.mdb_items.specs.declared.container.Comparison.{Comparison}
use Rattle.mdb_items.specs.declared.container.Container.{Container}
use Rattle.mdb_items.specs.declared.container.ParameterEntry.{ParameterEntry}
use Rattle.mdb_items.specs.declared.parameter.Parameter.{Parameter}
use Rattle.mdb_items.specs.declared.rows.NewContainer.{NewContainer}
use Rattle.mdb_items.specs.declared.rows.ContainerColumns.{ContainerColumns}
use Rattle.mdb_items.specs.declared.rows.ContainerColumns.TheVariants.{Begins, Continues}
use Rattle.mdb_items.specs.declared.rows.EntryPosition.{EntryPosition}
use Rattle.mdb_items.specs.declared.rows.EntryPosition.TheVariants as place
use Rattle.mdb_items.specs.declared.rows.EntryPosition.TheVariants.{At}
use Rattle.mdb_items.specs.declared.rows.Reference.{Reference}
use Rattle.mdb_items.specs.declared.rows.Reference.TheVariants.{Nothing, Unknown, Known}
use Rattle.mdb_items.specs.Checks.{Checks, first_broken, or_else}
use Rattle.mdb_items.specs.Limits.{longest_packet_bits, most_comparisons}
use Rattle.mdb_items.specs.Paths.{ContainerPath, bits_at, last_number, path_at, paths_of, stands_on}
use Rattle.mdb_items.specs.Lists.{at_last, is_empty}
use Rattle.mdb_items.specs.Numbers.{is_in_range}
use Rattle.mdb_items.specs.ParameterRows.{is_reference, referenced_number, reference_to}
use Rattle.mdb_items.specs.Texts.{place_of}

-- a row: the number of fields of its record, its columns before the entry, and its entry
pub record ContainerRow : Type 0 where
  pub fields : ℕ
  pub columns : ContainerColumns
  pub entry : Reference
  pub position : EntryPosition

-- the field is empty
abbrev pub is_nothing : Reference → Bool
is_nothing Nothing = true
is_nothing Unknown = false
is_nothing (Known n) = false

-- the parent is a container above
abbrev pub is_parent : ℕ → Reference → Bool
is_parent above Nothing = true
is_parent above Unknown = false
is_parent above (Known n) = nat_lt n above

-- comparisons with whole numbers, no more than a condition may have
abbrev pub is_condition : Option (List Comparison) → Bool
is_condition None = false
is_condition (Some comparisons) = nat_le (length comparisons) most_comparisons && list_all (λ c. is_in_range c.number) comparisons

-- a parameter is compared that is no entry of an ancestor
abbrev pub compares_other : List ParameterEntry → List Comparison → Bool
compares_other entries comparisons = list_any (λ c. not (stands_on entries c.parameter)) comparisons

-- the rules of a row that begins a container, below the containers above it; `up` is its parent's path
abbrev pub new_container_checks : List Container → ContainerPath → NewContainer → Checks
new_container_checks above up b =
    -- the name isn't a name
    (3, not (is_name b.name))
    -- the name is that of an earlier container
    ∷ (5, is_some (place_of b.name (map (λ c. c.name) above)))
    -- more than 32 containers stand on the path
    ∷ (29, nat_le 32 up.containers)
    -- the parent isn't an earlier container
    ∷ (16, not (is_parent (length above) b.parent))
    -- it is a second container without a parent
    ∷ (17, is_nothing b.parent && not (is_empty above))
    -- the text isn't a condition
    ∷ (20, not (is_condition b.condition))
    -- a parameter is compared that is no entry of an ancestor
    ∷ (21, compares_other up.entries (unwrap_or b.condition []))
    -- the root has a condition
    ∷ (22, is_empty above && not (is_empty (unwrap_or b.condition [])))
    -- archive isn't yes, no or empty
    ∷ (23, not (is_some b.archive))
    ∷ []

-- the rules of a row without a container name
abbrev pub continued_checks : List Container → Bool → Checks
continued_checks above says =
    -- the first row after the header has no container
    (15, is_empty above)
    -- a continuing row has a parent, condition or archive text
    ∷ (18, says)
    ∷ []

-- the path of the parent of a container that begins
abbrev pub path_up : List Container → NewContainer → ContainerPath
path_up above b = path_at (paths_of above) (referenced_number b.parent)

-- the rules of the columns before the entry
abbrev pub columns_checks : List Container → ContainerColumns → Checks
columns_checks above (Begins b) = new_container_checks above (path_up above b) b
columns_checks above (Continues says) = continued_checks above says

-- the row has no name: it continues the container above it
abbrev pub is_continuing : ContainerColumns → Bool
is_continuing (Begins b) = false
is_continuing (Continues says) = true

-- the field names something that is there
abbrev pub is_known : Reference → Bool
is_known Nothing = false
is_known Unknown = false
is_known (Known n) = true

-- the parameter of the entry stands on the path already
abbrev pub is_repeated : List ParameterEntry → Reference → Bool
is_repeated entries Nothing = false
is_repeated entries Unknown = false
is_repeated entries (Known n) = stands_on entries n

-- an entry has a position, and a row without an entry has none
abbrev pub is_placed : Reference → EntryPosition → Bool
is_placed Nothing place.Nothing = true
is_placed Nothing place.Unknown = false
is_placed Nothing (At at) = false
is_placed Unknown position = false
is_placed (Known n) place.Nothing = false
is_placed (Known n) place.Unknown = false
is_placed (Known n) (At at) = true

-- the entry ends after the last bit of the longest packet
abbrev pub is_too_far : List Parameter → Reference → EntryPosition → Bool
is_too_far parameters (Known n) (At at) = not (nat_le (at + bits_at parameters n) longest_packet_bits)
is_too_far parameters entry position = false

-- the rules of a row's entry, which goes to the end of the path
abbrev pub entry_checks : List Parameter → ContainerPath → Bool → Reference → EntryPosition → Checks
entry_checks parameters path continuing entry position =
    -- no parameter has the name
    (24, not (is_reference (length parameters) entry))
    -- the parameter stands twice on the path
    ∷ (25, is_repeated path.entries entry)
    -- a continuing row has no entry
    ∷ (26, continuing && is_nothing entry)
    -- more than 256 entries stand on the path
    ∷ (29, is_known entry && nat_le 256 (length path.entries))
    -- the text isn't a position, or there is a position without an entry
    ∷ (27, not (is_placed entry position))
    -- position plus bits is above 524,336
    ∷ (28, is_too_far parameters entry position)
    ∷ []

-- the containers with one more, where the row begins one; it has no entry yet
abbrev pub with_columns : List Container → ContainerColumns → List Container
with_columns above (Continues says) = above
with_columns above (Begins b) = above ++ record {
  name = b.name;
  parent = referenced_number b.parent;
  archive = unwrap_or b.archive false;
  condition = unwrap_or b.condition [];
  entries = [];
} ∷ []

-- the container with one more entry at its end
abbrev pub with_new_entry : ParameterEntry → Container → Container
with_new_entry e c = record { name = c.name; parent = c.parent; archive = c.archive; condition = c.condition; entries = c.entries ++ e ∷ [] }

-- the containers with one more entry in the last
abbrev pub with_entry : List Container → Reference → EntryPosition → List Container
with_entry containers (Known n) (At at) = at_last (with_new_entry (record { parameter = n; at = at })) containers
with_entry containers entry position = containers

-- the containers with one more row
abbrev pub with_container_row : List Container → ContainerRow → List Container
with_container_row above row = with_entry (with_columns above row.columns) row.entry row.position

-- the containers that rows spell
abbrev pub containers_of : List ContainerRow → List Container
containers_of rows = fold with_container_row [] rows

-- the path of the last container
abbrev pub last_path : List Container → ContainerPath
last_path containers = path_at (paths_of containers) (last_number containers)

-- the first rule that a row breaks, from the left
abbrev pub row_fault : List Parameter → List Container → ContainerRow → Option ℕ
row_fault parameters above row =
    or_else (first_broken ((2, not (row.fields == 6)) ∷ columns_checks above row.columns))
    (first_broken (entry_checks parameters (last_path (with_columns above row.columns)) (is_continuing row.columns) row.entry row.position))

-- the first rule that a row breaks, where there is a row
abbrev pub container_fault : List Parameter → List Container → Option ContainerRow → Option ℕ
container_fault parameters above None = None
container_fault parameters above (Some row) = row_fault parameters above row

-- the first rule that the row at a place breaks
unfoldable pub container_fault_at : List Parameter → List ContainerRow → ℕ → Option ℕ
container_fault_at parameters rows i = container_fault parameters (containers_of (take i rows)) (slice_get rows i)

-- the row that begins a container
abbrev pub begin_row : Container → ContainerRow
begin_row c = record {
  fields = 6;
  columns = Begins (record { name = c.name; parent = reference_to c.parent; condition = Some c.condition; archive = Some c.archive });
  entry = Nothing;
  position = place.Nothing;
}

-- the row that adds an entry
abbrev pub entry_row : ParameterEntry → ContainerRow
entry_row e = record { fields = 6; columns = Continues false; entry = Known e.parameter; position = At e.at }

-- the rows of a container
abbrev pub rows_of_container : Container → List ContainerRow
rows_of_container c = begin_row c ∷ map entry_row c.entries
