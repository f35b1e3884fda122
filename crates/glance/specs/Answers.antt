-- What a glance answers.
use Rattle.std.specs.Prelude.{◌≡◌, ◌⊎◌, ◌<ℤ◌, ◌≤ℤ◌, ℕ, List, length, Some, None}
use Rattle.asks.specs.declared.ask.Answer.{Answer}
use Rattle.asks.specs.declared.ask.Request.{Request}
use Rattle.asks.specs.declared.refusal.AskRefusal.TheVariants as asked
use Rattle.asks.specs.Names.{parameter_number}
use Rattle.asks.specs.Refusals.{request_refusal}
use Rattle.refusals.specs.declared.refusal.Refusal.{Refusal}
use Rattle.refusals.specs.declared.refusal.Refusal.TheVariants as refused
use Rattle.intervals.specs.declared.interval.Interval.{Interval}
use Rattle.history_items.specs.declared.fills.Fill.{Fill}
use Rattle.history_items.specs.declared.items.Item.{Item}
use Rattle.history_items.specs.Items.{rows_in}
use Rattle.history_items.specs.Late.{IsLate}
use Rattle.interval_walks.specs.Turns.{MeetsRange}
use Rattle.mdb_items.specs.Database.{Database}
use Rattle.container_extract.specs.Answer.{answer_of}
use Rattle.glance_log.specs.Sightings.{Sighting}
use Rattle.glance_board.specs.Listings.{StayingFacts, database_of}

-- ---- of an archive with a history and its fills

-- an interval meets the range of a request, which isn't empty, and is late
pub record IsLateAsked (archive : StayingFacts) (history : List Item) (fills : List Fill) (request : Request)
    (interval : Interval) : Type 0 where
  pub late : IsLate archive.exponent interval history fills
  pub some : request.from <ℤ request.to
  pub meets : MeetsRange archive.exponent request.from request.to interval

-- the least of these
pub record IsLeastLate (archive : StayingFacts) (history : List Item) (fills : List Fill) (request : Request)
    (interval : Interval) : Type 0 where
  pub here : IsLateAsked archive history fills request interval
  pub least : (other : Interval) → IsLateAsked archive history fills request other → interval.0 ≤ℤ other.0

-- No interval is late that the range meets. The cells are those that the rows of the history give by the database in
-- force, where the fills that the archive was opened with are sound.
pub record IsTimelyAnswer (archive : StayingFacts) (history : List Item) (fills : List Fill) (request : Request)
    (answer : Answer) : Type 0 where
  pub asked : request_refusal (database_of archive history) request ≡ None
  pub front : answer.front ≡ length history
  pub in_time : (interval : Interval) → IsLateAsked archive history fills request interval → ⊥
  pub number : ℕ
  pub named : parameter_number (database_of archive history) request.parameter ≡ Some number
  pub cells : archive.sound → answer.cells ≡ answer_of (database_of archive history) number request (rows_in history)

-- why a request has no answer at all: the database lacks its parameter, or else its range ends before it begins
abbrev pub IsNotAsked : Database → Request → Refusal → Type 0
IsNotAsked db request refusal =
    ((request_refusal db request ≡ Some asked.UnknownParameter) × (refusal ≡ refused.UnknownParameter))
    ⊎ ((request_refusal db request ≡ Some (asked.BadRange request.from request.to))
    × (refusal ≡ refused.BadRange request.from request.to))

-- why it has none without waiting: an interval is late that its range meets, of which the least is named
abbrev pub IsNamedLate : StayingFacts → List Item → List Fill → Request → Refusal → Type 0
IsNamedLate archive history fills request refusal =
    (request_refusal (database_of archive history) request ≡ None)
    × ((interval : Interval) × (refusal ≡ refused.Late interval) × IsLeastLate archive history fills request interval)

-- why there is no answer
abbrev pub IsUntimely : StayingFacts → List Item → List Fill → Request → Refusal → Type 0
IsUntimely archive history fills request refusal =
    IsNotAsked (database_of archive history) request refusal ⊎ IsNamedLate archive history fills request refusal

-- ---- of a publication

-- of a publication, for what stays of its archive
abbrev pub IsSaidOf : {X : Type 0} → (X → StayingFacts) → Sighting X → (StayingFacts → Type 0) → Type 0
IsSaidOf {X} stays at says = (archive : X) × (at.fixed ≡ Some archive) × says (stays archive)

-- it is an answer over a publication
abbrev pub IsNowAnswer : {X : Type 0} → (X → StayingFacts) → Sighting X → Request → Answer → Type 0
IsNowAnswer stays at request answer =
    IsSaidOf stays at (λ archive. IsTimelyAnswer archive at.history at.fills request answer)

-- it is why there is none over a publication, or it comes for want of memory
abbrev pub IsNowRefusal : {X : Type 0} → (X → StayingFacts) → Sighting X → Request → Refusal → Type 0
IsNowRefusal stays at request refusal =
    (refusal ≡ refused.OutOfMemory)
    ⊎ IsSaidOf stays at (λ archive. IsUntimely archive at.history at.fills request refusal)
