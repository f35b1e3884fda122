-- A route in which nothing is wrong names tables that there are.
use Rattle.std.proofs.Common.{◌≡◌, ℕ, ◌<◌, List, [], ◌∷◌, ◌++◌, length, Option, Some, None, refl, arith}
use Rattle.std.specs.Prelude.{is_some, unwrap_or, slice_get, Ok, if◌then◌else◌}
use Rattle.std.specs.List.{AllByRecursion}
use Rattle.std.specs.Str.{bytes_eq}
use Rattle.std.proofs.lemmas.List.Quantifiers.{position-Some}
use Rattle.field_codec.specs.Entries.{tm}
use Rattle.ssql_parse.specs.declared.statement.Statement.{Statement}
use Rattle.ssql_parse.specs.declared.statement.Statement.TheVariants as st
use Rattle.ssql_types.specs.declared.place.ScriptPlace.TheVariants.{Route}
use Rattle.ssql_types.specs.Rules.{TokenFault, no_fault, unknown, first_sql_fault, later_places}
use Rattle.ssql_types.specs.Faults.{table_fault, statement_faults, script_faults}
use Rattle.ssql_types.specs.Names.{number_among, names_created}
use Rattle.ssql_types.specs.Typed.{known_number, typed_script}
use Rattle.stream_graph.specs.Laws.{NamesTableBelow}
use Rattle.stream_graph.specs.declared.statement.RouteStatement.{RouteStatement}
use Rattle.stream_graph.specs.Routes.{every_packet_route, route_statements}
use Rattle.history_items.specs.Databases.{names_in}
use Rattle.archive_store.specs.Head.{Head}
use Rattle.archive_store.specs.Entries.{Archive}
use Rattle.load_session.specs.Receiving.{IsRouteOver}
use Rattle.load_command.specs.Loading.{IsRouteAnswer}

abbrev AreSound : List TokenFault → Type 0
AreSound faults = AllByRecursion (λ (fault : TokenFault). fault ≡ None) faults

each_sound : (faults : List TokenFault) (places : List ℕ) → first_sql_fault faults places ≡ None → AreSound faults
each_sound [] places none = tt
each_sound (None ∷ faults) places none = (refl, each_sound faults (later_places places) none)
each_sound (Some fault ∷ faults) places none = absurd (cc (none))

last_sound : (a b : List TokenFault) → AreSound (a ++ b) → AreSound b
last_sound [] b all = all
last_sound (fault ∷ a) b all = last_sound a b all.1

known_below : (tables : List (List ℕ)) (name : List ℕ) → table_fault tables name ≡ None → known_number tables name < length tables
known_below tables name sound = by (number_among tables name) refl sound
  where
    by : (o : Option ℕ) → number_among tables name ≡ o → (if is_some o then no_fault else Some (unknown name)) ≡ None → unwrap_or o 0 < length tables
    by None none sound = absurd (cc (sound))
    by (Some n) some sound = (position-Some (bytes_eq name) tables n [] some).0

all_below : (tables names created : List (List ℕ)) (statements : List Statement) → AreSound (script_faults Route tables created statements) →
    AllByRecursion (NamesTableBelow (length tables)) (route_statements (typed_script tables names created statements))
all_below tables names created [] sound = tt
all_below tables names created (st.CreateStream name query ∷ statements) sound =
    let first = statement_faults Route tables created (st.CreateStream name query) in
    let more = script_faults Route tables (created ++ names_created (st.CreateStream name query)) statements in
    (tt, all_below tables names (created ++ names_created (st.CreateStream name query)) statements (last_sound first (no_fault ∷ more) sound).1)
all_below tables names created (st.Insert table query ∷ statements) sound =
    let first = statement_faults Route tables created (st.Insert table query) in
    let more = script_faults Route tables (created ++ names_created (st.Insert table query)) statements in
    (known_below tables table sound.1.1.0, all_below tables names (created ++ names_created (st.Insert table query)) statements (last_sound first (no_fault ∷ more) sound).1)
all_below tables names created (st.CreateTable name like ∷ statements) sound = absurd (cc (sound.0))
all_below tables names created (st.Query query ∷ statements) sound = absurd (cc (sound.0))
all_below tables names created (st.ShowHistogram table ∷ statements) sound = absurd (cc (sound.0))
all_below tables names created (st.ShowPartitions table ∷ statements) sound = absurd (cc (sound.0))

first_there : (tables : List (List ℕ)) → slice_get tables 0 ≡ Some tm → 0 < length tables
first_there [] first = absurd cc
first_there (table ∷ tables) first = omega arith

-- the route of every packet does, where there is a first table
pub tm_below : (head : Head) → slice_get head.tables 0 ≡ Some tm → IsRouteOver head every_packet_route
tm_below head first = (first_there head.tables first, tt)

-- and so does that of a text
pub script_below : (archive : Archive) (text : List ℕ) (route : List RouteStatement) → IsRouteAnswer archive (Some text) (Ok route) → IsRouteOver archive.head route
script_below archive text route is =
    let typed = is.1 in
    let tables = archive.head.tables in
    let names = names_in archive.head.mdb archive.history in
    let below = all_below tables names [] typed.0.statements (each_sound (script_faults Route tables [] typed.0.statements) typed.0.places typed.2) in
    rw (is.2, typed.3) below
