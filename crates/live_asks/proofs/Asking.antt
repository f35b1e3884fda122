-- Asks that are answered in a turn.
use Rattle.std.proofs.Common.{◌≡◌, ◌⊎◌, inl, inr, ℕ, ◌≤◌, ℤ, ◌≤ℤ◌, false, List, [], length, Result, Ok, Err, IfOk, IfErr, MatchResult, Option, Some, None, refl, sym, ap, ◌∙◌, subst, arith, append-nil}
use Rattle.std.specs.Prelude.{IsTrue, int_lt}
use Rattle.std.proofs.lemmas.Int.{ints}
use Rattle.arch_disk.specs.Disk.{Device}
use Rattle.asks.specs.declared.ask.Answer.{Answer}
use Rattle.asks.specs.declared.ask.Request.{Request}
use Rattle.asks.specs.Names.{parameter_number, table_number}
use Rattle.asks.specs.declared.refusal.AskRefusal.{AskRefusal}
use Rattle.asks.specs.Refusals.{range_refusal, request_refusal}
use Rattle.mdb_items.specs.Database.{Database}
use Rattle.arch_types.specs.declared.row.Row.{Row}
use Rattle.refusals.specs.declared.refusal.Refusal.{Refusal}
use Rattle.refusals.specs.declared.refusal.Refusal.TheVariants as refused
use Rattle.container_extract.specs.Answer.{answer_of}
use Rattle.history_items.specs.declared.fills.Fill.{Fill}
use Rattle.history_items.specs.declared.items.Item.{Item}
use Rattle.history_items.specs.Databases.{database_in, names_in}
use Rattle.history_items.specs.Items.{rows_in}
use Rattle.param_segments.specs.Rows.{SetRow}
use Rattle.replay_merge.specs.Cursor.{CursorView, rest_of}
use Rattle.replay_merge.specs.Replay.{replay_of}
use Rattle.store_fills.specs.Filled.{IsRightFill}
use Rattle.store_fills.specs.LastFills.{fillings_in}
use Rattle.store_fills.specs.Sound.{Filling}
use Rattle.turn_cell.specs.Pass.{PassView}
use Rattle.glance_log.specs.Sightings.{Sighting}
use Rattle.archive_store.specs.declared.finding.FoundReplay.{FoundReplay}
use Rattle.archive_store.specs.declared.finding.FoundRequest.{FoundRequest}
use Rattle.archive_store.specs.Head.{Head}
use Rattle.archive_store.specs.Finding.{IsNotFound, IsRequestFound}
use Rattle.archive_store.specs.Replays.{IsReplayOpened, rows_below}
use Rattle.archive_store.specs.Stands.{IsSoundImage}
use Rattle.archive_store.specs.StoreView.{StoreView, filled_of}
use Rattle.archive_store.specs.Pages.{TellsRows}
use Rattle.archive_store.specs.UnreadRows.{IsLeftByAnswer, IsLeftByRefusal}
use Rattle.retrieval.specs.FilledAnswer.{IsFilledAnswer}
use Rattle.retrieval.specs.declared.found_asks.FoundAsk.{FoundAsk}
use Rattle.retrieval.specs.declared.found_asks.FoundAsk.TheVariants as looked_up
use Rattle.store_shelf.specs.declared.kept.Kept.{Kept}
use Rattle.live_archive.specs.GoesOn.{GoesOn, HasFillOrNew}
use Rattle.live_archive.specs.Retrievals.{IsAnswerIn, IsNotAnswered, in_force, steps_allowed}
use Rattle.live_archive.specs.Reads.{IsUnread, NotedRead}
use Rattle.live_archive.specs.Turns.{TookTurn, Turned}
use Rattle.live_archive.proofs.Going.{prefix_trans, told_on}
use Rattle.live_archive.proofs.Retrieved.{left_unfound, not_failed}
use Rattle.live_archive.proofs.Unread.{unread_is, unread_on}
use Rattle.live_asks.specs.declared.answered.AskAnswer.{AskAnswer}
use Rattle.live_asks.specs.declared.answered.AskAnswer.TheVariants as answered
use Rattle.live_asks.specs.LiveAsks.{AreFillsSince, HasCellsOf, IsAnsweredInTurn, IsAsked, IsAskedInTurn, IsUnanswered, OnlySees, TurnBetween, behind_ask, disk_facts, reader_view, steps_allowed_behind}
use Rattle.live_asks.proofs.Sees.{OnlyReads, as_found, found_begins, found_is_seen, found_silent, sees_turn, turn_between, unread, unread_noted}

-- the steps that were counted before are among those that are allowed
at_least : {D : Type 0} (store : StoreView D) (ask : FoundAsk) (taken : ℕ) → taken ≤ steps_allowed_behind store ask taken
at_least store (looked_up.Values found) taken = omega arith
at_least store (looked_up.Replay found) taken = omega arith

-- a request that was found has an answer
found_is_answered : (db : Database) (found : FoundRequest) → IsRequestFound db found → request_refusal db found.request ≡ None
found_is_answered db found is = rw is.number (whole_range found.request.from found.request.to is.range)
  where
    whole_range : (from to : ℤ) → from ≤ℤ to → range_refusal from to ≡ None
    whole_range from to range = let whole : int_lt to from ≡ false = grind (arith, ints) in rw whole refl

-- a request that was found isn't answered for want of memory, or since rows aren't read
module _ {D : Type 0} (device : Device D) (before after : StoreView D) (found : FoundRequest) where
  unanswered : (refusal : Refusal) → IsRequestFound (in_force before) found → IsNotAnswered device before after found.request refusal → IsUnread (TellsRows device before) before.sealed refusal
  unanswered refusal is (inr unread) = unread_is device before after refusal unread
  unanswered refusal is (inl not) =
      let none : request_refusal (in_force before) found.request ≡ None = found_is_answered (in_force before) found is in
      let memory = subst (λ (o : Option AskRefusal). IsNotFound o refusal) none not in
      subst (IsUnread (TellsRows device before) before.sealed) (sym memory) tt

-- the fills of a store that goes on from a first one are those that it had, or right ones since
fills_since : {D : Type 0} (device : Device D) (first now : StoreView D) → GoesOn device first now → IsTrue device.is_transparent → AreFillsSince (filled_of first) now.history (fillings_in now.filled)
fills_since device first now goes known interval = go (goes.sets known interval)
  where
    go : HasFillOrNew first now interval
        → (fillings_in now.filled interval ≡ fillings_in first.filled interval)
        ⊎ ((fill : Filling (List SetRow)) × (fillings_in now.filled interval ≡ Some fill) × IsRightFill first.exponent first.head.mdb now.history interval fill.base fill.set)
    go (inl same) = inl same
    go (inr new) = inr (new.fill, new.has, new.right)

-- what a retrieval says in its turn leaves of the fill list
module _ {D T : Type 0} (device : Device D) (first before after : StoreView D) (old new : PassView Item Fill T) (turn : Turned device first before after old new) (request : Request) where
  took_refused : (refusal : Refusal) → IsLeftByRefusal device before after refusal → IsNotAnswered device before after request refusal → OnlyReads device first before after old new turn
  took_refused refusal left (inl not) = as_found device first before after old new turn (left_unfound device before after request refusal (not_failed (request_refusal (in_force before) request) refusal not) left)
  took_refused refusal left (inr is) = unread device first before after old new turn refusal is left

  noted_refused : (refusal : Refusal) → IsLeftByRefusal device before after refusal → IsNotAnswered device before after request refusal → refusal ≡ refused.DiskFault → NotedRead old.fills new.fills
  noted_refused refusal left (inl not) failed = absurd (not_failed (request_refusal (in_force before) request) refusal not failed)
  noted_refused refusal left (inr is) failed = unread_noted device first before after old new turn refusal is left failed

  took_answer : (result : Result Answer Refusal) → IsLeftByAnswer device before after result → MatchResult result (IsAnswerIn device before request) (IsNotAnswered device before after request) → OnlyReads device first before after old new turn
  took_answer (Ok answer) left is = as_found device first before after old new turn left
  took_answer (Err refusal) left is = took_refused refusal left is

module _ {D T : Type 0} (device : Device D) (first : StoreView D) (old new : PassView Item Fill T) where
  -- ---- asks that took no steps

  -- one that wasn't answered
  pub unasked : (taken : ℕ) (ask : FoundAsk) (refusal : Refusal) → OnlySees first.sealed old new → IsUnanswered (disk_facts device first.opened first.sealed) refusal → IsAskedInTurn device first (reader_view old taken) (reader_view new taken) ask (Err refusal)
  unasked taken ask refusal sees why = record {
    turn = record {
      history = old.history.seen;
      fills = old.fills.seen;
      later = ([], append-nil old.history.seen);
      fills_later = ([], append-nil old.fills.seen);
      begins = sees.begins;
      fills_begin = sees.fills_begin;
    };
    said = why;
    steps = λ _. at_least (record first { history = old.history.seen; fills = old.fills.seen }) ask taken;
  }

  -- one that takes none
  replay_asked : (taken : ℕ) (found : FoundReplay) (result : Result AskAnswer Refusal) → OnlySees first.sealed old new
      → IfOk result (IsAnsweredInTurn (disk_facts device first.opened first.sealed) (filled_of first) old.history.seen new.history.seen (looked_up.Replay found)) → IfErr result (IsUnanswered (disk_facts device first.opened first.sealed))
      → IsAskedInTurn device first (reader_view old taken) (reader_view new taken) (looked_up.Replay found) result
  replay_asked taken found (Ok answer) sees is refused = record {
    turn = record {
      history = is.over;
      fills = old.fills.seen;
      later = is.later;
      fills_later = ([], append-nil old.fills.seen);
      begins = is.begins;
      fills_begin = sees.fills_begin;
    };
    said = is.answers;
    steps = λ _. at_least (record first { history = is.over; fills = old.fills.seen }) (looked_up.Replay found) taken;
  }
  replay_asked taken found (Err refusal) sees is refused = unasked taken (looked_up.Replay found) refusal sees refused

  -- the same, whether or not there is a glance
  pub replay_is_asked : (glance : Option (Sighting (Kept D))) (taken : ℕ) (found : FoundReplay) (result : Result AskAnswer Refusal) → OnlySees first.sealed old new
      → IfOk result (IsAnsweredInTurn (disk_facts device first.opened first.sealed) (filled_of first) old.history.seen new.history.seen (looked_up.Replay found)) → IfErr result (IsUnanswered (disk_facts device first.opened first.sealed))
      → IsAsked device first glance (reader_view old taken) (reader_view new taken) (looked_up.Replay found) result
  replay_is_asked glance taken found (Ok answer) sees is refused = inr (replay_asked taken found (Ok answer) sees is refused)
  replay_is_asked glance taken found (Err refusal) sees is refused = replay_asked taken found (Err refusal) sees is refused

  -- ---- values
  module _ (found : FoundRequest) (taken taken' : ℕ) where
    -- what a retrieval says in its turn, of either answer
    abbrev Says : Request → Result Answer Refusal → StoreView D → StoreView D → Type 0
    Says request result before after =
        IsLeftByAnswer device before after result
        × MatchResult result (IsAnswerIn device before request) (IsNotAnswered device before after request)
        × (TellsRows device before → taken' ≤ steps_allowed before request taken)

    module _ (result : Result Answer Refusal) (turn : TookTurn device first old new (Says found.request result)) where
      reads : OnlyReads device first turn.before turn.after old new turn.turned
      reads = took_answer device first turn.before turn.after old new turn.turned found.request result turn.said.0 turn.said.1

      abbrev found_between : TurnBetween (reader_view old taken) (reader_view new taken')
      found_between = turn_between device first turn.before turn.after old new turn.turned reads taken taken'

      here : TellsRows device first → TellsRows device turn.before
      here told = told_on device first turn.before turn.turned.found.appends.sealed told

      -- the rows that were late in the turn
      few_steps : TellsRows device first → taken' ≤ (behind_ask first taken turn.before.history turn.before.fills (looked_up.Values found)).steps
      few_steps told =
          let before = turn.before in
          let request = found.request in
          subst (λ (exponent : ℕ). taken' ≤ steps_allowed (record first { exponent = exponent; history = before.history; fills = before.fills }) request taken) turn.turned.found.appends.exponent (turn.said.2 (here told))

    has_cells : (answer : Answer) (turn : TookTurn device first old new (Says found.request (Ok answer))) → HasCellsOf (disk_facts device first.opened first.sealed) (filled_of first) turn.before.history found.request answer
    has_cells answer turn =
        let before = turn.before in
        let request = found.request in
        let goes = turn.turned.found.appends in record {
          fillings = fillings_in before.filled;
          since = fills_since device first before turn.turned.found;
          front = turn.said.1.front;
          filled = λ told. subst (λ (head : Head). IsFilledAnswer (database_in head.mdb before.history) first.exponent before.history (fillings_in before.filled) request answer) goes.head
              (subst (λ (exponent : ℕ). IsFilledAnswer (in_force before) exponent before.history (fillings_in before.filled) request answer) goes.exponent (turn.said.1.filled (here (Ok answer) turn told)));
          cells = λ clear sound. subst
              (λ (head : Head). (number : ℕ) × (parameter_number (database_in head.mdb before.history) request.parameter ≡ Some number)
              × (answer.cells ≡ answer_of (database_in head.mdb before.history) number request (rows_in before.history)))
              goes.head (turn.said.1.answered clear (subst (λ (disk : D). IsSoundImage (device.reads disk)) (sym goes.opened) sound));
        }

    -- of an equal request
    module _ (request : Request) (equal : request ≡ found.request) where
      abbrev Retrieves : Result Answer Refusal → Type 0
      Retrieves result = TookTurn device first old new (Says request result)

      abbrev of_found : (result : Result Answer Refusal) → Retrieves result → TookTurn device first old new (Says found.request result)
      of_found result turn = subst (λ (r : Request). TookTurn device first old new (Says r result)) equal turn

      pub retrieval_sees : (result : Result Answer Refusal) → Retrieves result → OnlySees first.sealed old new
      retrieval_sees result turn =
          sees_turn device first turn.before turn.after old new turn.turned (took_answer device first turn.before turn.after old new turn.turned request result turn.said.0 turn.said.1)

      pub retrieval_noted : (refusal : Refusal) → Retrieves (Err refusal) → refusal ≡ refused.DiskFault → NotedRead old.fills new.fills
      retrieval_noted refusal turn failed = noted_refused device first turn.before turn.after old new turn.turned request refusal turn.said.0 turn.said.1 failed

      pub retrieval_silent : (answer : Answer) → Retrieves (Ok answer) → new.fills.places ≡ old.fills.places
      retrieval_silent answer turn = found_silent device first turn.before turn.after old new turn.turned turn.said.0

      pub retrieval_answers : (answer : Answer) → Retrieves (Ok answer) → IsAskedInTurn device first (reader_view old taken) (reader_view new taken') (looked_up.Values found) (Ok (answered.Values answer))
      retrieval_answers answer turn =
          let t = of_found (Ok answer) turn in
          record { turn = found_between (Ok answer) t; said = inl (has_cells answer t); steps = few_steps (Ok answer) t }

      pub retrieval_refuses : (refusal : Refusal) → IsRequestFound (database_in first.head.mdb first.history) found → Retrieves (Err refusal)
          → IsAskedInTurn device first (reader_view old taken) (reader_view new taken') (looked_up.Values found) (Err refusal)
      retrieval_refuses refusal is turn =
          let t = of_found (Err refusal) turn in record {
            turn = found_between (Err refusal) t;
            said = unread_on device first t.before t.turned.found.appends.sealed refusal
                (unanswered device t.before t.after found refusal (subst (λ (db : Database). IsRequestFound db found) (sym t.turned.found.database.in_force) is) t.said.1);
            steps = few_steps (Err refusal) t;
          }

  -- ---- replays
  abbrev Opens : FoundReplay → CursorView → Type 0
  Opens found cursor = TookTurn device first old new (λ before after. (after ≡ before) × IsReplayOpened before.head before.history found.request cursor)

  opening_reads : (found : FoundReplay) (cursor : CursorView) → (turn : Opens found cursor) → OnlyReads device first turn.before turn.after old new turn.turned
  opening_reads found cursor turn = as_found device first turn.before turn.after old new turn.turned (inl turn.said.0)

  -- the front is that of the history found
  pub front_is_seen : (found : FoundReplay) (cursor : CursorView) → Opens found cursor → cursor.front ≤ length new.history.seen
  front_is_seen found cursor turn =
      let seen = ap (λ (l : List Item). length l) (found_is_seen device first turn.before turn.after old new turn.turned (opening_reads found cursor turn)) in
      let front = turn.said.1.front in
      omega (arith, seen, front)

  -- all rows that were left were taken
  pub replay_answers : (found : FoundReplay) (cursor : CursorView) (rows : List Row) (last : PassView Item Fill T) → Opens found cursor → OnlySees first.sealed new last
      → (TellsRows device first → rows ≡ rest_of cursor (rows_below last.history.seen))
      → IsAnsweredInTurn (disk_facts device first.opened first.sealed) (filled_of first) old.history.seen last.history.seen (looked_up.Replay found) (answered.Replay (record { front = cursor.front; rows = rows }))
  replay_answers found cursor rows last turn sees is =
      let before = turn.before in
      let opened = turn.said.1 in
      let head = turn.turned.found.appends.head in
      let begins = prefix_trans before.history new.history.seen last.history.seen (found_begins device first before turn.after old new turn.turned (opening_reads found cursor turn)) sees.begins in record {
        over = before.history;
        later = turn.turned.begins;
        begins = begins;
        answers = record {
          front = opened.front;
          table = cursor.table;
          table_is = subst (λ (h : Head). table_number h.tables found.request.table ≡ Some cursor.table) head opened.table;
          rows = λ told. is told ∙ (opened.replay last.history.seen begins ∙ ap (λ (h : Head). replay_of (names_in h.mdb before.history) cursor.table found.request (rows_in before.history)) head);
        };
      }
