-- The number of a packet's name behind rows alone is that of its container.
use Rattle.std.proofs.Common.{◌≡◌, ℕ, ℤ, zero, suc, ◌<◌, List, [], ◌∷◌, length, get_or, ◌++◌, Bool, true, false, true≢false, Option, Some, refl, sym, ap, ◌∙◌, subst, arith, lt-ltb}
use Rattle.std.specs.Prelude.{slice_get, unwrap_or}
use mathlib.Core.List.{IsPrefix}
use Rattle.std.specs.List.{position_or_len}
use Rattle.std.specs.Str.{bytes_eq}
use Rattle.std.proofs.lemmas.List.{length-map}
use Rattle.std.proofs.lemmas.List.Sums.{position_or_len_is}
use Rattle.std.proofs.lemmas.Map.Keys.{apart_from_distinct}
use Rattle.std.proofs.lemmas.Slice.Eq.{bytes_eq-Decides}
use Rattle.arch_types.specs.Arrivals.{arrivals, row_of}
use Rattle.archive_store.specs.Head.{Head}
use Rattle.archive_store.proofs.RowsAlone.{in_force, names_of_head}
use Rattle.container_extract.specs.Chain.{packet_name_of}
use Rattle.container_extract.proofs.Known.{packet_name_is_known}
use Rattle.history_items.specs.declared.items.Item.{Item}
use Rattle.history_items.specs.Databases.{database_in, names_in, names_of_database}
use Rattle.history_items.specs.Items.{databases_in}
use Rattle.history_items.proofs.ItemLists.{databases_in-append}
use Rattle.mdb_items.specs.Database.{Database, IsDatabase}
use Rattle.mdb_items.specs.Structure.{AreDistinctNames}
use Rattle.mdb_items.specs.Texts.{Text, place_of}
use Rattle.mdb_model.proofs.Structure.{structured}
use Rattle.stream_graph.specs.RouteTables.{route_of}
use Rattle.stream_graph.specs.declared.statement.RouteStatement.{RouteStatement}
use Rattle.load_session.specs.Batches.{IsTakenFor}
use Rattle.load_session.specs.Receiving.{name_number, receiving, rows_received}
use Rattle.load_session.specs.declared.batches.NextBatch.{NextBatch}

-- ---- a name's place among distinct names

at_or : (names : List Text) (n : ℕ) (d : Text) → unwrap_or (slice_get names n) d ≡ get_or names n d
at_or [] zero d = refl
at_or [] (suc n) d = refl
at_or (name ∷ names) zero d = refl
at_or (name ∷ names) (suc n) d = at_or names n d

itself : (name : Text) → bytes_eq name name ≡ true
itself name = (bytes_eq-Decides name name).1 refl

other_way : (a b : Text) → bytes_eq a b ≡ false → bytes_eq b a ≡ false
other_way a b apart = go (bytes_eq b a) refl
  where
    go : (t : Bool) → bytes_eq b a ≡ t → bytes_eq b a ≡ false
    go false is = is
    go true is =
        let same : b ≡ a = (bytes_eq-Decides b a).0 is in
        absurd (true≢false (sym (itself a) ∙ subst (λ (x : Text). bytes_eq a x ≡ false) same apart))

own_place : (names : List Text) (n : ℕ) → AreDistinctNames names → n < length names → place_of (get_or names n []) names ≡ Some n
own_place names n distinct within =
    let name = get_or names n [] in
    let first : position_or_len (bytes_eq name) names ≡ n =
    position_or_len_is (bytes_eq name) names n [] (omega (arith, within)) (λ k below. other_way (get_or names k []) name (apart_from_distinct bytes_eq names k n [] distinct below within)) (λ here. itself name) in
    rw (first, lt-ltb n (length names) within) refl

-- ---- packet names of a database

-- by its own names, a database gives a packet the number of its container
pub own_number : (db : Database) (packet : List ℕ) → IsDatabase db → name_number (names_of_database db) db packet ≡ packet_name_of db packet
own_number db packet is =
    let names = names_of_database db in
    let n = packet_name_of db packet in
    let within : n < length names = omega (arith, packet_name_is_known db packet is, length-map db.containers (λ container. container.name)) in
    ap (λ (name : Text). unwrap_or (place_of name names) 0) (at_or names n []) ∙ ap (λ (o : Option ℕ). unwrap_or o 0) (own_place names n (structured db is).container_names within)

-- which is that of one of them
pub own_within : (db : Database) (packet : List ℕ) → IsDatabase db → name_number (names_of_database db) db packet < length (names_of_database db)
own_within db packet is =
    omega (arith, own_number db packet is, packet_name_is_known db packet is, length-map db.containers (λ container. container.name))

-- ---- behind rows alone

none_first : (some more : List Database) → some ++ more ≡ [] → some ≡ []
none_first [] more none = refl
none_first (database ∷ some) more none = absurd cc

-- what a history of rows alone begins with is one
pub begins_alone : (history later : List Item) → IsPrefix history later → databases_in later ≡ [] → databases_in history ≡ []
begins_alone history later begins alone =
    none_first (databases_in history) (databases_in begins.0) (sym (databases_in-append history begins.0) ∙ ap databases_in begins.1 ∙ alone)

pub alone_number : (head : Head) (history : List Item) (packet : List ℕ) → IsDatabase head.mdb → databases_in history ≡ [] →
    name_number (names_in head.mdb history) (database_in head.mdb history) packet ≡ packet_name_of head.mdb packet
alone_number head history packet is alone =
    ap (λ (names : List Text). name_number names (database_in head.mdb history) packet) (names_of_head head.mdb history alone)
    ∙ ap (λ (db : Database). name_number (names_of_database head.mdb) db packet) (in_force head.mdb history alone) ∙ own_number head.mdb packet is

-- packets give the rows that they give behind no item
same_rows : (head : Head) (history : List Item) (route : List RouteStatement) (link : ℕ) (moment : ℤ) (packets : List (List ℕ)) → databases_in history ≡ [] →
    rows_received (receiving head [] route link moment) packets ≡ rows_received (receiving head history route link moment) packets
same_rows head history route link moment packets alone =
    let rows = λ (names : List Text) (db : Database).
    arrivals link moment (name_number names db) (λ packet. route_of route (row_of link moment (name_number names db) packet 0)) packets in
    ap (λ (names : List Text). rows names head.mdb) (sym (names_of_head head.mdb history alone)) ∙ ap (rows (names_in head.mdb history)) (sym (in_force head.mdb history alone))

-- so that packets that were taken for a batch behind no item were behind such a history
pub taken_for_behind : (head : Head) (history : List Item) (route : List RouteStatement) (link : ℕ) (moment : ℤ) (packets : List (List ℕ)) (taken : NextBatch) → databases_in history ≡ [] →
    IsTakenFor (receiving head [] route link moment) packets taken → IsTakenFor (receiving head history route link moment) packets taken
taken_for_behind head history route link moment packets taken alone is = record {
  count = is.count;
  few = is.few;
  batch = record {
    received = is.batch.received;
    takes = λ later begins. is.batch.takes later (later, refl);
    rows = is.batch.rows ∙ same_rows head history route link moment packets alone;
    count = is.batch.count;
  };
}
