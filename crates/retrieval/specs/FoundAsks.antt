-- Asks whose names were looked up.
use Rattle.std.specs.Prelude.{List, map}
use Rattle.std.specs.List.{AllByRecursion}
use Rattle.asks.specs.declared.ask.Ask.{Ask}
use Rattle.asks.specs.declared.ask.Ask.TheVariants as asked
use Rattle.history_items.specs.declared.items.Item.{Item}
use Rattle.history_items.specs.Databases.{database_in}
use Rattle.archive_store.specs.Head.{Head}
use Rattle.archive_store.specs.Finding.{IsReplayFound, IsRequestFound}
use Rattle.retrieval.specs.declared.found_asks.FoundAsk.{FoundAsk}
use Rattle.retrieval.specs.declared.found_asks.FoundAsk.TheVariants.{Values, Replay}

-- the ask that was found
abbrev pub ask_found : FoundAsk → Ask
ask_found (Values found) = asked.Values found.request
ask_found (Replay found) = asked.Replay found.request

-- the asks that were found
abbrev pub asks_found : List FoundAsk → List Ask
asks_found found = map ask_found found

-- an ask was found over a history: a request in the database in force, a request for rows among the head's tables
abbrev pub IsAskFound : Head → List Item → FoundAsk → Type 0
IsAskFound head history (Values found) = IsRequestFound (database_in head.mdb history) found
IsAskFound head history (Replay found) = IsReplayFound head.tables found

-- each ask was
abbrev pub AreFound : Head → List Item → List FoundAsk → Type 0
AreFound head history found = AllByRecursion (IsAskFound head history) found
