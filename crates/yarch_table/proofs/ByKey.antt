-- The rows that the index gives with their positions, as the stored rows in the order of their keys.
use Rattle.std.proofs.Common.{◌≡◌, ℕ, ◌+◌, ◌<◌, List, [], ◌∷◌, length, map, drop, Bool, true, false, cond, refl, ◌∙◌, ap, arith}
use Rattle.std.specs.Prelude.{filter}
use Rattle.std.specs.List.{AllByRecursion, enumerate_from}
use Rattle.std.proofs.lemmas.Option.{slice_get-get_or}
use Rattle.arch_types.specs.declared.row.Row.{Row}
use Rattle.arch_types.specs.declared.key.Key.{Key}
use Rattle.arch_types.specs.History.{is_in_table}
use Rattle.arch_types.specs.Table.{sorted, table_of}
use Rattle.yarch_table.specs.declared.table.Stored.{Stored}
use Rattle.yarch_table.specs.Stored.{rows_of}
use Rattle.yarch_table.specs.Placed.{stored_from, stored_rest, at_position}
use Rattle.yarch_table.specs.Index.{by_key, stored_at, stored_left, IsEntryOf, IsKeyIndex}
use Rattle.yarch_table.proofs.RowsLeft.{rows-order}

-- the first entry gives the stored row that it names
pub stored_left-first : (stored : List Stored) (e : Key × ℕ) (es : List (Key × ℕ)) (d : Stored) → e.1 < length stored →
    stored_left stored (e ∷ es) ≡ stored_at stored d e ∷ stored_left stored es
stored_left-first stored e es d within = rw (slice_get-get_or stored e.1 d within) refl

stored_left-map : (stored : List Stored) (d : Stored) (es : List (Key × ℕ)) → AllByRecursion (IsEntryOf stored) es →
    stored_left stored es ≡ map (stored_at stored d) es
stored_left-map stored d [] all = refl
stored_left-map stored d (e ∷ es) all =
    stored_left-first stored e es d all.0.0
    ∙ ap (λ (xs : List Stored). stored_at stored d e ∷ xs) (stored_left-map stored d es all.1)

-- all entries give the stored rows in the order of their keys
pub stored_left-all : (stored : List Stored) (es : List (Key × ℕ)) → IsKeyIndex stored es → stored_left stored es ≡ by_key stored
stored_left-all [] [] index = refl
stored_left-all [] (e ∷ es) index = let n = index.each.0.0 in absurd (omega arith)
stored_left-all (s ∷ stored) es index = stored_left-map (s ∷ stored) s es index.each ∙ index.order s

all_cases : (b : Bool) (n : ℕ) (row : Row) (ps : List (ℕ × Row)) (rows : List Row) → rows_of (map at_position ps) ≡ rows →
    rows_of (map at_position (cond b ((n, row) ∷ ps) ps)) ≡ cond b (row ∷ rows) rows
all_cases true n row ps rows more = ap (λ (l : List Row). row ∷ l) more
all_cases false n row ps rows more = more

-- the rows of a table in what stands from a place on
pub rows-stored_rest : (n table : ℕ) (rest : List Row) → rows_of (stored_rest n table rest) ≡ filter (is_in_table table) rest
rows-stored_rest n table [] = refl
rows-stored_rest n table (row ∷ rest) =
    all_cases (is_in_table table row) n row (filter (λ p. is_in_table table p.1) (enumerate_from (n + 1) rest)) (filter (is_in_table table) rest) (rows-stored_rest (n + 1) table rest)

-- the rows of a table from a place on, in the order of their keys
pub rows-by_key : (n table : ℕ) (history : List Row) → rows_of (by_key (stored_from n table history)) ≡ table_of table (drop n history)
rows-by_key n table history = rows-order (stored_from n table history) ∙ ap sorted (rows-stored_rest n table (drop n history))
