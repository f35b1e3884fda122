use Rattle.std.proofs.Common.{◌≡◌, ◌++◌, drop}
use Rattle.std.specs.List.{filter_map}
use Rattle.asks.specs.Names.{packet_name_number}
use Rattle.history_items.specs.Databases.{names_of_database}
use Rattle.archive_store.proofs.replaying.numbers_of.Given as goal

abbrev pub invariant-loop-name : goal.invariant-loop-name
invariant-loop-name l = l.numbers ++ filter_map (packet_name_number (names_of_database l.head.mdb)) (drop l.name-index l.names) ≡ filter_map (packet_name_number (names_of_database l.head.mdb)) l.names
