-- The index of a table: its entries name the stored rows in the order of their keys.
use Rattle.std.specs.Prelude.{◌≡◌, ℕ, ℤ, ◌+◌, ◌^◌, ◌<◌, ◌≤◌, vec_len, vec_capacity, List, map, length, slice_index_or, slice_get, filter_map, Bool, true, Option, Some, None, ◌&&◌, if◌then◌else◌, nat_lt, int_lt}
use Rattle.std.specs.Global.{Vec}
use Rattle.std.specs.List.{AllByRecursion}
use Rattle.arch_types.specs.declared.row.Row.{Row}
use Rattle.arch_types.specs.declared.key.Key.{Key}
use Rattle.arch_types.specs.Order.{key_cmp, is_before, order_by}
use Rattle.block_map.specs.Rising.{IsRising}
use Rattle.block_map.specs.Index.{Listing}
use Rattle.yarch_table.specs.declared.table.Stored.{Stored}

-- whether a stored row's key is below another's
abbrev pub comes_before : Stored → Stored → Bool
comes_before a b = is_before a.row b.row

-- stored rows, each with its position, in the order of their keys
abbrev pub by_key : List Stored → List Stored
by_key stored = order_by comes_before stored

-- the stored row that an entry names
abbrev pub stored_at : List Stored → Stored → Key × ℕ → Stored
stored_at stored d entry = slice_index_or stored entry.1 d

-- an entry names a stored row, and has its key
abbrev pub IsEntryOf : List Stored → Key × ℕ → Type 0
IsEntryOf stored entry = (entry.1 < length stored) × ((d : Stored) → entry.0 ≡ (stored_at stored d entry).row.key)

-- the entries name the stored rows, each once, in the order of their keys
pub record IsKeyIndex (stored : List Stored) (entries : List (Key × ℕ)) : Type 0 where
  pub each : AllByRecursion (IsEntryOf stored) entries
  pub order : (d : Stored) → map (stored_at stored d) entries ≡ order_by comes_before stored

-- an index of the stored rows, with room in their vector for as many more as in the index, whose places have 32 bits
pub record IsIndexedTable (stored : Vec Stored) (index : Listing Key ℕ) : Type 0 where
  pub names : IsKeyIndex stored.items index.entries
  pub has_room : vec_len stored + index.room ≤ vec_capacity stored
  pub short_places : vec_len stored + index.room < 2 ^ 32

-- entries in the order of their keys, each of which names a stored row of its key
pub record AreRisingKeys (stored : List Stored) (entries : List (Key × ℕ)) : Type 0 where
  pub each : AllByRecursion (IsEntryOf stored) entries
  pub rising : IsRising key_cmp entries

-- whether a time is below an end, where there is one
abbrev pub is_before_end : Option ℤ → ℤ → Bool
is_before_end None time = true
is_before_end (Some end) time = int_lt time end

-- whether a stored row is seen: its position is below the front, and its time below the end
abbrev pub is_seen : ℕ → Option ℤ → Stored → Bool
is_seen front end s = nat_lt s.position front && is_before_end end s.row.key.time

-- the row of a stored row, where it is there and seen
abbrev pub seen_row : ℕ → Option ℤ → Option Stored → Option Row
seen_row front end None = None
seen_row front end (Some s) = if is_seen front end s then Some s.row else None

-- the rows that entries name and that are seen, in the order of the entries
abbrev pub rows_left : List Stored → ℕ → Option ℤ → List (Key × ℕ) → List Row
rows_left stored front end entries = filter_map (λ e. seen_row front end (slice_get stored e.1)) entries

-- the stored rows that entries name, each with its position, in the order of the entries
abbrev pub stored_left : List Stored → List (Key × ℕ) → List Stored
stored_left stored entries = filter_map (λ e. slice_get stored e.1) entries
