-- What an ask names, once it was looked up.
use Rattle.std.specs.Prelude.{◌≡◌, ◌<◌, ◌≤ℤ◌, List, ℕ, Option, Some, None, length}
use Rattle.std.specs.Arc.{arc_value}
use Rattle.asks.specs.declared.refusal.AskRefusal.{AskRefusal}
use Rattle.asks.specs.declared.refusal.AskRefusal.TheVariants as asked
use Rattle.asks.specs.Names.{parameter_number, table_number}
use Rattle.refusals.specs.declared.refusal.Refusal.{Refusal}
use Rattle.refusals.specs.declared.refusal.Refusal.TheVariants.{UnknownParameter, BadRange, UnknownTable, OutOfMemory}
use Rattle.mdb_items.specs.Database.{Database}
use Rattle.archive_store.specs.declared.finding.FoundReplay.{FoundReplay}
use Rattle.archive_store.specs.declared.finding.FoundRequest.{FoundRequest}

-- the refusal of an archive for that of an ask
abbrev pub refusal_of_ask : AskRefusal → Refusal
refusal_of_ask asked.UnknownParameter = UnknownParameter
refusal_of_ask (asked.BadRange from to) = BadRange from to
refusal_of_ask (asked.UnknownTable name) = UnknownTable name

-- a request was found in a database: its parameter has this number there, so one of the database's, and its range
-- doesn't end before it begins
pub record IsRequestFound (db : Database) (found : FoundRequest) : Type 0 where
  pub mdb : arc_value found.mdb ≡ db
  pub number : parameter_number db found.request.parameter ≡ Some found.number
  pub within : found.number < length (arc_value found.mdb).parameters
  pub range : found.request.from ≤ℤ found.request.to

-- a request for rows was found among tables: its table has this number, so one of theirs, and its range doesn't end
-- before it begins
pub record IsReplayFound (tables : List (List ℕ)) (found : FoundReplay) : Type 0 where
  pub table : table_number tables found.request.table ≡ Some found.table
  pub within : found.table < length tables
  pub range : found.request.from ≤ℤ found.request.to

-- why nothing was found: what is refused of the ask, or, where nothing is, want of memory
abbrev pub IsNotFound : Option AskRefusal → Refusal → Type 0
IsNotFound (Some refused) refusal = refusal ≡ refusal_of_ask refused
IsNotFound None refusal = refusal ≡ OutOfMemory
