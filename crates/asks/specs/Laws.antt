-- Where an ask is refused, and by what.
use Rattle.std.specs.Prelude.{◌≡◌, ◌≢◌, ◌↔◌, ◌<ℤ◌, ◌≤ℤ◌, ℤ, List, Option, Some, None}
use Rattle.mdb_items.specs.Database.{Database}
use Rattle.mdb_items.specs.Texts.{Text}
use Rattle.asks.specs.declared.ask.ReplayRequest.{ReplayRequest}
use Rattle.asks.specs.declared.ask.Request.{Request}
use Rattle.asks.specs.declared.refusal.AskRefusal.TheVariants.{UnknownParameter, BadRange, UnknownTable}
use Rattle.asks.specs.Names.{parameter_number, table_number}
use Rattle.asks.specs.Refusals.{replay_refusal, request_refusal}

-- a range ends before it begins, and these are its ends
abbrev pub IsReversed : ℤ → ℤ → ℤ → ℤ → Type 0
IsReversed from to low high = (to <ℤ from) × (low ≡ from) × (high ≡ to)

-- a request is refused with UnknownParameter exactly where no parameter has its name
abbrev pub UnknownParameterExactly : Type 0
UnknownParameterExactly =
    (db : Database) (request : Request) →
    (request_refusal db request ≡ Some UnknownParameter) ↔ (parameter_number db request.parameter ≡ None)

-- with BadRange exactly where a parameter has its name and its range ends before it begins
abbrev pub BadRequestRangeExactly : Type 0
BadRequestRangeExactly =
    (db : Database) (request : Request) (low high : ℤ) →
    (request_refusal db request ≡ Some (BadRange low high))
    ↔ ((parameter_number db request.parameter ≢ None) × IsReversed request.from request.to low high)

-- and not at all exactly where a parameter has its name and its range doesn't end before it begins
abbrev pub RequestHasAnswerExactly : Type 0
RequestHasAnswerExactly =
    (db : Database) (request : Request) →
    (request_refusal db request ≡ None)
    ↔ ((parameter_number db request.parameter ≢ None) × (request.from ≤ℤ request.to))

-- a replay is refused with UnknownTable exactly where no table has its name
abbrev pub UnknownTableExactly : Type 0
UnknownTableExactly =
    (tables : List Text) (request : ReplayRequest) (name : Text) →
    (replay_refusal tables request ≡ Some (UnknownTable name))
    ↔ ((table_number tables request.table ≡ None) × (name ≡ request.table))

-- with BadRange exactly where a table has its name and its range ends before it begins
abbrev pub BadReplayRangeExactly : Type 0
BadReplayRangeExactly =
    (tables : List Text) (request : ReplayRequest) (low high : ℤ) →
    (replay_refusal tables request ≡ Some (BadRange low high))
    ↔ ((table_number tables request.table ≢ None) × IsReversed request.from request.to low high)

-- and not at all exactly where a table has its name and its range doesn't end before it begins
abbrev pub ReplayHasRowsExactly : Type 0
ReplayHasRowsExactly =
    (tables : List Text) (request : ReplayRequest) →
    (replay_refusal tables request ≡ None)
    ↔ ((table_number tables request.table ≢ None) × (request.from ≤ℤ request.to))
