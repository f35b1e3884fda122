-- The tables that a script creates.
use Rattle.std.specs.Prelude.{◌≡◌, ℕ, List, [], ◌++◌, filter_map, Option, Some, None}
use Rattle.std.specs.List.{IsDistinct}
use Rattle.std.specs.Str.{bytes_eq}
use Rattle.ssql_parse.specs.Parsing.{WrittenScript}
use Rattle.ssql_types.specs.declared.place.ScriptPlace.TheVariants.{Create}
use Rattle.ssql_types.specs.declared.statement.TypedStatement.{TypedStatement}
use Rattle.ssql_types.specs.declared.statement.TypedStatement.TheVariants as ts
use Rattle.ssql_types.specs.Typed.{typed_script}
use Rattle.ssql_types.specs.Typing.{typing_fault}

-- the table that a statement creates, if it creates one
abbrev pub created_table : TypedStatement → Option (List ℕ)
created_table (ts.CreateTable name) = Some name
created_table (ts.CreateStream flow) = None
created_table (ts.Insert table flow) = None
created_table (ts.Select select) = None
created_table (ts.ShowHistogram table) = None
created_table (ts.ShowPartitions table) = None

-- the tables that a script creates, in its order
abbrev pub created_tables : List TypedStatement → List (List ℕ)
created_tables script = filter_map created_table script

-- where nothing is wrong with a script of `create`, the tables that there are and those that it creates have distinct names, if the former do
abbrev pub CreatedTablesAreDistinct : Type 0
CreatedTablesAreDistinct =
    (tables names : List (List ℕ)) (script : WrittenScript) → IsDistinct bytes_eq tables → typing_fault Create tables script ≡ None →
    IsDistinct bytes_eq (tables ++ created_tables (typed_script tables names [] script.statements))
