-- Why an ask has no answer.
use Rattle.std.specs.Prelude.{ℤ, List, Option, Some, None, if◌then◌else◌, int_lt}
use Rattle.std.specs.Option.{option_map_or}
use Rattle.mdb_items.specs.Database.{Database}
use Rattle.mdb_items.specs.Texts.{Text}
use Rattle.asks.specs.declared.ask.Ask.{Ask}
use Rattle.asks.specs.declared.ask.Ask.TheVariants.{Values, Replay}
use Rattle.asks.specs.declared.ask.ReplayRequest.{ReplayRequest}
use Rattle.asks.specs.declared.ask.Request.{Request}
use Rattle.asks.specs.declared.refusal.AskRefusal.{AskRefusal}
use Rattle.asks.specs.declared.refusal.AskRefusal.TheVariants.{UnknownParameter, BadRange, UnknownTable}
use Rattle.asks.specs.Names.{parameter_number, table_number}

-- why a range is none: it ends before it begins
abbrev pub range_refusal : ℤ → ℤ → Option AskRefusal
range_refusal from to = if int_lt to from then Some (BadRange from to) else None

-- why a request has no answer: the database lacks its parameter, or else its range ends before it begins
abbrev pub request_refusal : Database → Request → Option AskRefusal
request_refusal db request =
    option_map_or (λ number. range_refusal request.from request.to) (parameter_number db request.parameter)
    (Some UnknownParameter)

-- why a replay has no rows: no table has its name, or else its range ends before it begins
abbrev pub replay_refusal : List Text → ReplayRequest → Option AskRefusal
replay_refusal tables request =
    option_map_or (λ table. range_refusal request.from request.to) (table_number tables request.table)
    (Some (UnknownTable request.table))

-- why an ask has no answer over tables and a database
abbrev pub ask_refusal : List Text → Database → Ask → Option AskRefusal
ask_refusal tables db (Values request) = request_refusal db request
ask_refusal tables db (Replay request) = replay_refusal tables request
