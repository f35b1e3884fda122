-- What the definitions come to.
use Rattle.std.specs.Prelude.{◌≡◌, ℕ, ℤ, List, [], ◌∷◌, length}
use Rattle.arch_types.specs.Arrivals.{arrivals}
use Rattle.container_extract.specs.Chain.{packet_name_of}
use Rattle.archive_store.specs.Head.{Head}
use Rattle.history_items.specs.declared.items.Item.{Item}
use Rattle.history_items.specs.Databases.{database_in, names_in}
use Rattle.history_items.specs.Items.{databases_in}
use Rattle.mdb_items.specs.Database.{IsDatabase}
use Rattle.stream_graph.specs.Routes.{every_packet_route}
use Rattle.load_session.specs.Receiving.{arrived, name_number, receiving, rows_received}

-- by the route of a load that is given none, the rows of packets stand in the table `tm`
abbrev pub EveryPacketGoesIntoTm : Type 0
EveryPacketGoesIntoTm =
    (head : Head) (history : List Item) (link : ℕ) (moment : ℤ) (packets : List (List ℕ)) →
    rows_received (receiving head history every_packet_route link moment) packets
    ≡ arrivals link moment (name_number (names_in head.mdb history) (database_in head.mdb history)) (λ p. 0 ∷ []) packets

-- and they are as many as there are packets that aren't idle
abbrev pub EveryPacketIsOneRow : Type 0
EveryPacketIsOneRow =
    (head : Head) (history : List Item) (link : ℕ) (moment : ℤ) (packets : List (List ℕ)) →
    length (rows_received (receiving head history every_packet_route link moment) packets) ≡ arrived packets

-- behind rows alone, a packet name is the number of its container in the head's database
abbrev pub NamesOfHeadAreNumbers : Type 0
NamesOfHeadAreNumbers =
    (head : Head) (history : List Item) (packet : List ℕ) → IsDatabase head.mdb → databases_in history ≡ [] →
    name_number (names_in head.mdb history) (database_in head.mdb history) packet ≡ packet_name_of head.mdb packet
