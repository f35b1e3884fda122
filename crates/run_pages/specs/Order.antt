-- The order in which rows stand, in a page and in a whole run.
use Rattle.std.specs.Prelude.{ℕ, List, [], ◌∷◌, Bool, true, false, ◌==◌, ◌&&◌, Option, Some, None}
use Rattle.std.specs.Ordering.{int_eq, is_lt}
use Rattle.arch_types.specs.declared.row.Row.{Row}
use Rattle.arch_types.specs.declared.key.Key.{Key}
use Rattle.arch_types.specs.Order.{key_cmp}

-- whether two keys are one
abbrev pub is_same_key : Key → Key → Bool
is_same_key a b = int_eq a.time b.time && (a.seq == b.seq)

-- whether a key may follow the last one, or be the first
abbrev pub follows : Key → Option Key → Key → Bool
follows first None key = is_same_key key first
follows first (Some last) key = is_lt (key_cmp last key)

-- whether a key is below the next page's first, if there is a next
abbrev pub is_below_next : Key → Option Key → Bool
is_below_next key None = true
is_below_next key (Some next) = is_lt (key_cmp key next)

-- whether there is a last key, below the next page's first
abbrev pub ends_below : Option Key → Option Key → Bool
ends_below None next = false
ends_below (Some last) next = is_below_next last next

-- whether rows are of a table, their keys rising above the last one, or from the first, to below the next page's first
abbrev pub are_ordered : ℕ → Key → Option Key → Option Key → List Row → Bool
are_ordered table first next last [] = ends_below last next
are_ordered table first next last (row ∷ rows) = (row.table == table) && (follows first last row.key && are_ordered table first next (Some row.key) rows)
