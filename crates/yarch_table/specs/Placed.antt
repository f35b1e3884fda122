-- The rows of a table in a history, each with its position.
use Rattle.std.specs.Prelude.{ℕ, List, map, filter, drop}
use Rattle.std.specs.List.{enumerate_from}
use Rattle.arch_types.specs.declared.row.Row.{Row}
use Rattle.arch_types.specs.History.{is_in_table}
use Rattle.yarch_table.specs.declared.table.Stored.{Stored}

-- a row with its position
abbrev pub at_position : ℕ × Row → Stored
at_position p = record { row = p.1; position = p.0 }

-- the rows of a table, each with its place in the history
abbrev pub placed : ℕ → List Row → List Stored
placed table history = map at_position (filter (λ p. is_in_table table p.1) (enumerate_from 0 history))

-- the same of what stands in a history from a place on
abbrev pub stored_rest : ℕ → ℕ → List Row → List Stored
stored_rest n table rest = map at_position (filter (λ p. is_in_table table p.1) (enumerate_from n rest))

-- the rows of a table from a place of the history on, each with its place in the history
abbrev pub stored_from : ℕ → ℕ → List Row → List Stored
stored_from n table history = stored_rest n table (drop n history)
