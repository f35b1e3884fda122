-- The tables of a script in which nothing is wrong are among those that there are.
use Rattle.std.proofs.Common.{◌≡◌, ℕ, ◌<◌, List, [], ◌∷◌, ◌++◌, length, map, Option, Some, None, refl}
use Rattle.std.specs.Prelude.{is_some, unwrap_or, if◌then◌else◌}
use Rattle.std.specs.List.{AllByRecursion}
use Rattle.std.specs.Str.{bytes_eq}
use Rattle.std.proofs.lemmas.List.Quantifiers.{position-Some}
use Rattle.ssql_parse.specs.declared.query.QuerySource.{QuerySource}
use Rattle.ssql_parse.specs.declared.query.QuerySource.TheVariants.{One, Merge}
use Rattle.ssql_parse.specs.declared.query.Query.{Query}
use Rattle.ssql_parse.specs.declared.statement.Statement.{Statement}
use Rattle.ssql_parse.specs.declared.statement.Statement.TheVariants as st
use Rattle.ssql_types.specs.declared.place.ScriptPlace.{ScriptPlace}
use Rattle.ssql_types.specs.Rules.{TokenFault, no_fault, unknown, first_sql_fault, later_places}
use Rattle.ssql_types.specs.Faults.{table_fault, columns_faults, source_faults, listed_faults, filter_faults, order_faults, limit_faults, query_faults, statement_faults, script_faults}
use Rattle.ssql_types.specs.Names.{number_among, names_created}
use Rattle.ssql_types.specs.Typed.{known_number, source_names, typed_select, typed_statement, typed_script}
use Rattle.ssql_types.specs.Laws.{NamesTables, TypedNamesTables}

-- nothing is wrong with any of some tokens
abbrev AreSound : List TokenFault → Type 0
AreSound faults = AllByRecursion (λ (fault : TokenFault). fault ≡ None) faults

each_sound : (faults : List TokenFault) (places : List ℕ) → first_sql_fault faults places ≡ None → AreSound faults
each_sound [] places none = tt
each_sound (None ∷ faults) places none = (refl, each_sound faults (later_places places) none)
each_sound (Some fault ∷ faults) places none = absurd (cc (none))

-- nor with the first of them, or the last
first_sound : (a b : List TokenFault) → AreSound (a ++ b) → AreSound a
first_sound [] b all = tt
first_sound (fault ∷ a) b all = (all.0, first_sound a b all.1)

last_sound : (a b : List TokenFault) → AreSound (a ++ b) → AreSound b
last_sound [] b all = all
last_sound (fault ∷ a) b all = last_sound a b all.1

-- ---- a table

known_below : (tables : List (List ℕ)) (name : List ℕ) → table_fault tables name ≡ None → known_number tables name < length tables
known_below tables name sound = by (number_among tables name) refl sound
  where
    by : (o : Option ℕ) → number_among tables name ≡ o → (if is_some o then no_fault else Some (unknown name)) ≡ None → unwrap_or o 0 < length tables
    by None none sound = absurd (cc (sound))
    by (Some n) some sound = (position-Some (bytes_eq name) tables n [] some).0

-- ---- sources, queries, statements

listed_below : (tables names : List (List ℕ)) → AreSound (listed_faults (table_fault tables) names) → AllByRecursion (λ table. table < length tables) (map (known_number tables) names)
listed_below tables [] sound = tt
listed_below tables (name ∷ names) sound = (known_below tables name sound.0, listed_below tables names sound.1.1)

source_below : (tables : List (List ℕ)) (source : QuerySource) → AreSound (source_faults (table_fault tables) source) →
    AllByRecursion (λ table. table < length tables) (map (known_number tables) (source_names source))
source_below tables (One name) sound = (known_below tables name sound.0, tt)
source_below tables (Merge names) sound = listed_below tables names sound.1.1

query_below : (tables names : List (List ℕ)) (query : Query) → AreSound (query_faults no_fault (table_fault tables) query) →
    AllByRecursion (λ table. table < length tables) (typed_select tables names query).sources
query_below tables names query sound =
    let columns = columns_faults no_fault query.columns in
    let source = source_faults (table_fault tables) query.source in
    let rest = filter_faults query.filter ++ (order_faults no_fault query.order ++ limit_faults no_fault query.limit) in
    source_below tables query.source (first_sound source rest (last_sound columns (source ++ rest) sound))

statement_tables : (place : ScriptPlace) (tables names created : List (List ℕ)) (statement : Statement) → AreSound (statement_faults place tables created statement) →
    NamesTables (length tables) (typed_statement tables names created statement)
statement_tables place tables names created (st.CreateTable name like) sound = tt
statement_tables place tables names created (st.CreateStream name query) sound = tt
statement_tables place tables names created (st.Insert table query) sound = known_below tables table sound.1.1.0
statement_tables place tables names created (st.Query query) sound = query_below tables names query sound.1
statement_tables place tables names created (st.ShowHistogram table) sound = known_below tables table sound.1.1.0
statement_tables place tables names created (st.ShowPartitions table) sound = known_below tables table sound.1.1.0

all_tables : (place : ScriptPlace) (tables names created : List (List ℕ)) (statements : List Statement) → AreSound (script_faults place tables created statements) →
    AllByRecursion (NamesTables (length tables)) (typed_script tables names created statements)
all_tables place tables names created [] sound = tt
all_tables place tables names created (statement ∷ statements) sound =
    let first = statement_faults place tables created statement in
    let more = script_faults place tables (created ++ names_created statement) statements in (
      statement_tables place tables names created statement (first_sound first (no_fault ∷ more) sound),
      all_tables place tables names (created ++ names_created statement) statements (last_sound first (no_fault ∷ more) sound).1,
    )

pub script_tables : TypedNamesTables
script_tables place tables names created statements places none = all_tables place tables names created statements (each_sound (script_faults place tables created statements) places none)
