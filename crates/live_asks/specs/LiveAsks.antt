-- What a reader is told of a live archive.
use Rattle.std.specs.Prelude.{◌≡◌, ◌⊎◌, ℕ, ◌<◌, ◌≤◌, zero, suc, List, [], ◌∷◌, length, IsTrue}
use Rattle.std.specs.Prelude.{Option, Some, None, Result, Ok, Err, MatchResult, IsSomeAnd}
use mathlib.Core.List.{IsPrefix}
use Rattle.arch_disk.specs.Disk.{Device}
use Rattle.asks.specs.declared.ask.Answer.{Answer}
use Rattle.asks.specs.declared.ask.ReplayRequest.{ReplayRequest}
use Rattle.asks.specs.declared.ask.Request.{Request}
use Rattle.asks.specs.Names.{parameter_number, table_number}
use Rattle.refusals.specs.declared.refusal.Refusal.{Refusal}
use Rattle.intervals.specs.declared.interval.Interval.{Interval}
use Rattle.container_extract.specs.Answer.{answer_of}
use Rattle.history_items.specs.declared.fills.Fill.{Fill}
use Rattle.history_items.specs.declared.items.Item.{Item}
use Rattle.history_items.specs.Databases.{database_in, names_in}
use Rattle.history_items.specs.Items.{rows_in}
use Rattle.param_segments.specs.Rows.{SetRow}
use Rattle.replay_merge.specs.Replay.{replay_of}
use Rattle.store_fills.specs.Filled.{IsRightFill}
use Rattle.store_fills.specs.Sound.{Filling, Fillings}
use Rattle.turn_cell.specs.Pass.{PassView}
use Rattle.glance_log.specs.Sightings.{IsFollowedBy, Sighting}
use Rattle.archive_store.specs.Head.{Head}
use Rattle.archive_store.specs.Entries.{FilledArchive}
use Rattle.archive_store.specs.Pages.{TellsRows}
use Rattle.archive_store.specs.Stands.{IsSoundImage}
use Rattle.archive_store.specs.StoreView.{StoreView, filled_of}
use Rattle.retrieval.specs.FilledAnswer.{IsFilledAnswer}
use Rattle.retrieval.specs.declared.found_asks.FoundAsk.{FoundAsk}
use Rattle.retrieval.specs.declared.found_asks.FoundAsk.TheVariants as looked_up
use Rattle.store_shelf.specs.declared.kept.Kept.{Kept}
use Rattle.store_shelf.specs.Publications.{kept_of}
use Rattle.live_archive.specs.declared.held.HeldStore.{HeldStore}
use Rattle.live_archive.specs.Reads.{IsUnread, NotesReads}
use Rattle.live_archive.specs.Retrievals.{steps_allowed}
use Rattle.live_archive.specs.Shelving.{IsOfLog}
use Rattle.live_asks.specs.declared.answered.ReplayedRows.{ReplayedRows}
use Rattle.live_asks.specs.declared.answered.AskAnswer.{AskAnswer}
use Rattle.live_asks.specs.declared.answered.AskAnswer.TheVariants as answered

-- ---- the pass

-- it has seen more of both lists, and has put nothing behind either but faults of reads, where rows stand in runs
pub record OnlySees {T : Type 0} (sealed : ℕ) (old new : PassView Item Fill T) : Type 0 where
  pub share : new.share ≡ old.share
  pub begins : IsPrefix old.history.seen new.history.seen
  pub fills_begin : IsPrefix old.fills.seen new.fills.seen
  pub put_none : new.history.places ≡ old.history.places
  pub notes : NotesReads sealed old.fills new.fills

-- ---- the glance

-- a glance at an archive that is taken in turns has seen a publication of its log, and the history of that goes on from
-- the first one
pub record IsGlanceAt {D : Type 0} (first : HeldStore D) (glance : Sighting (Kept D)) : Type 0 where
  pub log : IsOfLog first glance
  pub kept : glance.fixed ≡ Some (kept_of first.store)
  pub begins : IsPrefix first.store.history glance.history

-- where there is a glance, it has seen the publication that it had seen, or a later one
abbrev pub LooksOn : {X : Type 0} → Option (Sighting X) → Option (Sighting X) → Type 0
LooksOn None new = new ≡ None
LooksOn (Some old) new = IsSomeAnd new (IsFollowedBy old)

-- ---- which asks a reader has

-- every fourth, behind so many that others have before it
abbrev pub every_fourth : {X : Type 0} → ℕ → List X → List X
every_fourth before [] = []
every_fourth zero (x ∷ xs) = x ∷ every_fourth 3 xs
every_fourth (suc before) (x ∷ xs) = every_fourth before xs

-- ---- the archive that is asked

-- whether what the disk of an archive holds is known, whether the fills there are sound, and how many of the archive's
-- rows stand in runs
pub record DiskFacts : Type 1 where
  pub known : Type 0
  pub sound : Type 0
  pub sealed : ℕ

-- those of a disk, of an archive of which so many rows stand in runs
abbrev pub disk_facts : {D : Type 0} → Device D → D → ℕ → DiskFacts
disk_facts device disk sealed =
    record { known = IsTrue device.is_transparent; sound = IsSoundImage (device.reads disk); sealed = sealed }

-- the archive's rows are told: where some stand in runs the disk is known
abbrev pub AreTold : DiskFacts → Type 0
AreTold facts = 0 < facts.sealed → facts.known

-- why an ask isn't answered
abbrev pub IsUnanswered : DiskFacts → Refusal → Type 0
IsUnanswered facts refusal = IsUnread (AreTold facts) facts.sealed refusal

-- fills that an archive may have since it was opened: each interval has the one that it had then, or one that is right
-- for a history
abbrev pub AreFillsSince : FilledArchive → List Item → Fillings (List SetRow) → Type 0
AreFillsSince opened history fillings =
    (interval : Interval) →
    (fillings interval ≡ opened.fillings interval)
    ⊎ ((fill : Filling (List SetRow)) × (fillings interval ≡ Some fill)
    × IsRightFill opened.plain.exponent opened.plain.head.mdb history interval fill.base fill.set)

-- ---- answers

-- The whole history stands behind the answer, with the fills that there were in its turn where the rows are told.
-- Where the disk is known each fill is one of the archive when it was opened, or a right one since; where those were
-- sound, too, the cells are those that the rows of the range give.
pub record HasCellsOf (facts : DiskFacts) (opened : FilledArchive) (history : List Item) (request : Request)
    (answer : Answer) : Type 0 where
  pub fillings : Fillings (List SetRow)
  pub since : facts.known → AreFillsSince opened history fillings
  pub front : answer.front ≡ length history
  pub filled : AreTold facts → IsFilledAnswer (database_in opened.plain.head.mdb history) opened.plain.exponent history
      fillings request answer
  pub cells : facts.known → facts.sound → (number : ℕ)
      × (parameter_number (database_in opened.plain.head.mdb history) request.parameter ≡ Some number)
      × (answer.cells ≡ answer_of (database_in opened.plain.head.mdb history) number request (rows_in history))

-- The whole history stands behind the answer. Where the disk is known and the fills there are sound, the cells are those
-- that the rows of the range give. It is what a glance answers.
pub record HasRowCellsOf (facts : DiskFacts) (opened : FilledArchive) (history : List Item) (request : Request)
    (answer : Answer) : Type 0 where
  pub front : answer.front ≡ length history
  pub number : ℕ
  pub named : parameter_number (database_in opened.plain.head.mdb history) request.parameter ≡ Some number
  pub cells : facts.known → facts.sound →
      answer.cells ≡ answer_of (database_in opened.plain.head.mdb history) number request (rows_in history)

-- the whole history stands behind the rows, which are the replay of it where its rows are told
pub record HasReplayOf (facts : DiskFacts) (head : Head) (history : List Item) (request : ReplayRequest)
    (replayed : ReplayedRows) : Type 0 where
  pub front : replayed.front ≡ length history
  pub table : ℕ
  pub table_is : table_number head.tables request.table ≡ Some table
  pub rows : AreTold facts →
      replayed.rows ≡ replay_of (names_in head.mdb history) table request (rows_in history)

-- an ask is answered over a history
abbrev pub AnswersOver : DiskFacts → FilledArchive → List Item → FoundAsk → AskAnswer → Type 0
AnswersOver facts opened history (looked_up.Values found) (answered.Values answer) =
    HasCellsOf facts opened history found.request answer ⊎ HasRowCellsOf facts opened history found.request answer
AnswersOver facts opened history (looked_up.Replay found) (answered.Replay replayed) =
    HasReplayOf facts opened.plain.head history found.request replayed
AnswersOver facts opened history ask other = ⊥

-- It is over the history that there was in some turn, or that was published in one: it goes on from an old one, and the
-- one seen last goes on from it.
pub record IsAnsweredInTurn (facts : DiskFacts) (opened : FilledArchive) (old seen : List Item) (ask : FoundAsk)
    (answer : AskAnswer) : Type 0 where
  pub over : List Item
  pub later : IsPrefix old over
  pub begins : IsPrefix over seen
  pub answers : AnswersOver facts opened over ask answer

-- each ask is answered, over a history that goes on from that of the answer before, or, where one isn't, those before
-- it
abbrev pub AreAnswered : DiskFacts → FilledArchive → List Item → List Item → List FoundAsk → List AskAnswer
    → Option Refusal → Type 0
AreAnswered facts opened old seen [] [] None = Unit {0}
AreAnswered facts opened old seen (ask ∷ asks) [] (Some refusal) = IsUnanswered facts refusal
AreAnswered facts opened old seen (ask ∷ asks) (answer ∷ answers) refusal =
    (turn : IsAnsweredInTurn facts opened old seen ask answer)
    × AreAnswered facts opened turn.over seen asks answers refusal
AreAnswered facts opened old seen asks answers refusal = ⊥

-- ---- answers with their steps

-- what contracts see of a reader between its asks: the lists that its pass has seen, and the steps that it has counted
pub record ReaderView : Type 0 where
  pub history : List Item
  pub fills : List Fill
  pub steps : ℕ

-- that of a pass and a count
abbrev pub reader_view : {T : Type 0} → PassView Item Fill T → ℕ → ReaderView
reader_view pass steps = record { history = pass.history.seen; fills = pass.fills.seen; steps = steps }

-- The lists that some turn found: they go on from those that a reader had seen, and those that it has seen since go on
-- from them.
pub record TurnBetween (old new : ReaderView) : Type 0 where
  pub history : List Item
  pub fills : List Fill
  pub later : IsPrefix old.history history
  pub fills_later : IsPrefix old.fills fills
  pub begins : IsPrefix history new.history
  pub fills_begin : IsPrefix fills new.fills

-- the most steps that are counted behind an ask: those that a request is allowed, and no more for a replay
abbrev pub steps_allowed_behind : {D : Type 0} → StoreView D → FoundAsk → ℕ → ℕ
steps_allowed_behind store (looked_up.Values found) taken = steps_allowed store found.request taken
steps_allowed_behind store (looked_up.Replay found) taken = taken

-- a reader that has seen the lists of a turn, and has counted the most steps that an ask is allowed over them
abbrev pub behind_ask : {D : Type 0} → StoreView D → ℕ → List Item → List Fill → FoundAsk → ReaderView
behind_ask first steps history fills ask = record {
  history = history;
  fills = fills;
  steps = steps_allowed_behind (record first { history = history; fills = fills }) ask steps;
}

-- An ask is answered in some turn, or wasn't: where the store tells its rows, either took at most the steps that are
-- allowed over the lists of that turn.
pub record IsAskedInTurn {D : Type 0} (device : Device D) (first : StoreView D) (old new : ReaderView) (ask : FoundAsk)
    (result : Result AskAnswer Refusal) : Type 0 where
  pub turn : TurnBetween old new
  pub said : MatchResult result
      (AnswersOver (disk_facts device first.opened first.sealed) (filled_of first) turn.history ask)
      (IsUnanswered (disk_facts device first.opened first.sealed))
  pub steps : TellsRows device first → new.steps ≤ (behind_ask first old.steps turn.history turn.fills ask).steps

-- A reader's glance answered an ask, where it has one: over a history that goes on from the first one, and with which
-- the one begins that it has seen since.
abbrev pub IsGlanced : {D : Type 0} → Device D → StoreView D → Option (Sighting (Kept D)) → FoundAsk → AskAnswer → Type 0
IsGlanced device first seen ask answer = IsSomeAnd seen (λ glance. IsAnsweredInTurn
    (disk_facts device first.opened first.sealed) (filled_of first) first.history glance.history ask answer)

-- An ask is answered by a glance, for no step, or else in some turn.
abbrev pub IsAsked : {D : Type 0} → Device D → StoreView D → Option (Sighting (Kept D)) → ReaderView → ReaderView
    → FoundAsk → Result AskAnswer Refusal → Type 0
IsAsked device first seen old new ask (Ok answer) =
    (IsGlanced device first seen ask answer × (new.steps ≤ old.steps)) ⊎ IsAskedInTurn device first old new ask (Ok answer)
IsAsked device first seen old new ask (Err refusal) = IsAskedInTurn device first old new ask (Err refusal)

-- Each ask is answered by the glance, or in a turn behind that of the answer in a turn before, or, where one isn't,
-- those before it. Where the store tells its rows, they took together at most the steps that each is allowed over the
-- lists of its turn, and so with the one that isn't answered; those by the glance took none.
abbrev pub AreAsked : {D : Type 0} → Device D → StoreView D → Option (Sighting (Kept D)) → ReaderView → ReaderView
    → List FoundAsk → List AskAnswer → Option Refusal → Type 0
AreAsked device first seen old new [] [] None = TellsRows device first → new.steps ≤ old.steps
AreAsked device first seen old new (ask ∷ asks) [] (Some refusal) =
    IsAskedInTurn device first old new ask (Err refusal)
AreAsked device first seen old new (ask ∷ asks) (answer ∷ answers) refusal =
    (IsGlanced device first seen ask answer × AreAsked device first seen old new asks answers refusal)
    ⊎ ((turn : TurnBetween old new)
    × AnswersOver (disk_facts device first.opened first.sealed) (filled_of first) turn.history ask answer
    × AreAsked device first seen (behind_ask first old.steps turn.history turn.fills ask) new asks answers refusal)
AreAsked device first seen old new asks answers refusal = ⊥

-- ---- answers whose histories go on from each other

-- how long the history is behind an answer
abbrev pub front_of : AskAnswer → ℕ
front_of (answered.Values answer) = answer.front
front_of (answered.Replay replayed) = replayed.front

-- the fronts of answers don't fall, from this one on
abbrev pub FrontsRise : ℕ → List AskAnswer → Type 0
FrontsRise low [] = Unit {0}
FrontsRise low (answer ∷ answers) = (low ≤ front_of answer) × FrontsRise (front_of answer) answers

-- A reader's answers are over histories that go on from each other, as those of turns do: where it has a glance, all that
-- this has seen begins what the pass has seen, and the fronts don't fall.
abbrev pub AreSettled : {X T : Type 0} → Option (Sighting X) → PassView Item Fill T → List AskAnswer → Type 0
AreSettled None pass answers = Unit {0}
AreSettled (Some glance) pass answers = IsPrefix glance.history pass.history.seen × FrontsRise 0 answers
