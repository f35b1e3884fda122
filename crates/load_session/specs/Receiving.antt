-- How packets are received, and the rows that they are.
use Rattle.std.specs.Prelude.{ℕ, ℤ, List, [], length, slice_get, unwrap_or}
use Rattle.std.specs.List.{AllByRecursion}
use Rattle.arch_types.specs.declared.row.Row.{Row}
use Rattle.arch_types.specs.Arrivals.{arrivals, kept, row_of}
use Rattle.container_extract.specs.Chain.{packet_name_of}
use Rattle.history_items.specs.declared.items.Item.{Item}
use Rattle.history_items.specs.Databases.{database_in, names_in, names_of_database}
use Rattle.mdb_items.specs.Database.{Database}
use Rattle.mdb_items.specs.Texts.{Text, place_of}
use Rattle.archive_store.specs.Head.{Head}
use Rattle.stream_graph.specs.declared.statement.RouteStatement.{RouteStatement}
use Rattle.stream_graph.specs.Laws.{NamesTableBelow}
use Rattle.stream_graph.specs.RouteTables.{route_of}

-- Packets are received by a link at a moment, in milliseconds since 1970, and go by a route into the tables of an archive with this head,
-- behind this history.
pub record Receiving : Type 0 where
  pub head : Head
  pub history : List Item
  pub route : List RouteStatement
  pub link : ℕ
  pub moment : ℤ

-- packets are received so
abbrev pub receiving : Head → List Item → List RouteStatement → ℕ → ℤ → Receiving
receiving head history route link moment = record { head = head; history = history; route = route; link = link; moment = moment }

-- the INSERTs of a route name tables that a head has
abbrev pub IsRouteOver : Head → List RouteStatement → Type 0
IsRouteOver head route = AllByRecursion (NamesTableBelow (length head.tables)) route

-- the number among packet names of the name that a database gives a packet
abbrev pub name_number : List Text → Database → List ℕ → ℕ
name_number names db packet =
    let name = unwrap_or (slice_get (names_of_database db) (packet_name_of db packet)) [] in
    unwrap_or (place_of name names) 0

-- the packet name of a packet, by the database in force
abbrev pub received_pname : Receiving → List ℕ → ℕ
received_pname r packet = name_number (names_in r.head.mdb r.history) (database_in r.head.mdb r.history) packet

-- the tables of a packet: those that its row reaches, whichever table the row is asked in
abbrev pub tables_of_packet : Receiving → List ℕ → List ℕ
tables_of_packet r packet = route_of r.route (row_of r.link r.moment (received_pname r) packet 0)

-- the rows of packets: one for each packet that isn't idle and each of its tables, with the packet name that the database in force gives it
abbrev pub rows_received : Receiving → List (List ℕ) → List Row
rows_received r packets = arrivals r.link r.moment (received_pname r) (tables_of_packet r) packets

-- how many packets aren't idle
abbrev pub arrived : List (List ℕ) → ℕ
arrived packets = length (kept packets)
