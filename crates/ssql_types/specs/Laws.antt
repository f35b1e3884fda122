-- What the definitions come to.
use Rattle.std.specs.Prelude.{◌≡◌, ◌<◌, ℕ, List, map, length, None, true}
use Rattle.std.specs.List.{AllByRecursion}
use Rattle.ssql_parse.specs.declared.statement.Statement.{Statement}
use Rattle.ssql_parse.specs.Grammar.{AreStatements, Cond, cond_pieces, script_tokens}
use Rattle.ssql_types.specs.declared.place.ScriptPlace.{ScriptPlace}
use Rattle.ssql_types.specs.declared.statement.TypedStatement.{TypedStatement}
use Rattle.ssql_types.specs.declared.statement.TypedStatement.TheVariants as ts
use Rattle.ssql_types.specs.Faults.{script_faults}
use Rattle.ssql_types.specs.Rules.{first_sql_fault}
use Rattle.ssql_types.specs.Typed.{typed_piece, typed_predicate, typed_script}
use Rattle.ssql_types.specs.ConditionFormula.{condition_formula}
use Rattle.ssql_conditions.specs.Formulas.{formula_of}

-- the formula of a condition's pieces is the one by cases on the grammar
abbrev pub ConditionIsFormula : Type 0
ConditionIsFormula = (names : List (List ℕ)) (c : Cond) → formula_of (map (typed_piece names) (cond_pieces c)) ≡ condition_formula (typed_predicate names) c

-- there is a fault or none for each token of a script with a `;` behind each statement
abbrev pub EachTokenIsAsked : Type 0
EachTokenIsAsked =
    (place : ScriptPlace) (tables created : List (List ℕ)) (statements : List Statement) → AreStatements statements →
    length (script_faults place tables created statements) ≡ length (script_tokens true statements)

-- the tables of a statement are among so many
abbrev pub NamesTables : ℕ → TypedStatement → Type 0
NamesTables count (ts.CreateTable name) = Unit {0}
NamesTables count (ts.CreateStream flow) = Unit {0}
NamesTables count (ts.Insert table flow) = table < count
NamesTables count (ts.Select select) = AllByRecursion (λ table. table < count) select.sources
NamesTables count (ts.ShowHistogram table) = table < count
NamesTables count (ts.ShowPartitions table) = table < count

-- where nothing is wrong with a script, its tables are among those that there are
abbrev pub TypedNamesTables : Type 0
TypedNamesTables =
    (place : ScriptPlace) (tables names created : List (List ℕ)) (statements : List Statement) (places : List ℕ) →
    first_sql_fault (script_faults place tables created statements) places ≡ None →
    AllByRecursion (NamesTables (length tables)) (typed_script tables names created statements)
