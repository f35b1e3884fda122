-- Asks that are answered one after the other.
use Rattle.std.proofs.Common.{◌≡◌, inl, inr, ℕ, zero, suc, ◌-◌, ◌<◌, ◌≤◌, List, [], ◌∷◌, ◌++◌, Ok, Err, Option, Some, None, refl, sym, ap, ◌∙◌, subst, arith, append_assoc, append-nil}
use mathlib.Core.List.{IsPrefix}
use Rattle.arch_disk.specs.Disk.{Device}
use Rattle.refusals.specs.declared.refusal.Refusal.{Refusal}
use Rattle.refusals.specs.declared.refusal.Refusal.TheVariants.{OutOfMemory}
use Rattle.history_items.specs.declared.fills.Fill.{Fill}
use Rattle.history_items.specs.declared.items.Item.{Item}
use Rattle.turn_cell.specs.Pass.{PassView}
use Rattle.glance_log.specs.Sightings.{Sighting}
use Rattle.glance_log.proofs.Prefixes.{prefix_self}
use Rattle.archive_store.specs.Entries.{FilledArchive}
use Rattle.archive_store.specs.Pages.{TellsRows}
use Rattle.archive_store.specs.StoreView.{StoreView, filled_of}
use Rattle.retrieval.specs.declared.found_asks.FoundAsk.{FoundAsk}
use Rattle.retrieval.specs.declared.found_asks.FoundAsk.TheVariants as looked_up
use Rattle.store_shelf.specs.declared.kept.Kept.{Kept}
use Rattle.live_archive.proofs.Going.{prefix_trans}
use Rattle.live_asks.specs.declared.answered.AskAnswer.{AskAnswer}
use Rattle.live_asks.specs.LiveAsks.{AreAnswered, AreAsked, DiskFacts, IsAnsweredInTurn, IsAsked, IsAskedInTurn, IsUnanswered, LooksOn, OnlySees, ReaderView, TurnBetween, behind_ask, disk_facts, every_fourth, reader_view, steps_allowed_behind}
use Rattle.live_asks.proofs.Looking.{glanced_on}

-- ---- what was answered stays so

module _ (facts : DiskFacts) (opened : FilledArchive) where
  -- as the pass sees more
  abbrev pub answer_stays : (old seen later : List Item) (ask : FoundAsk) (answer : AskAnswer) → IsPrefix seen later → IsAnsweredInTurn facts opened old seen ask answer → IsAnsweredInTurn facts opened old later ask answer
  answer_stays old seen later ask answer more is = record { over = is.over; later = is.later; begins = prefix_trans is.over seen later is.begins more; answers = is.answers }

  -- what a reader was answered stays so
  pub are_answered_later : (old seen later : List Item) (asks : List FoundAsk) (answers : List AskAnswer) (refusal : Option Refusal) → IsPrefix seen later → AreAnswered facts opened old seen asks answers refusal
      → AreAnswered facts opened old later asks answers refusal
  are_answered_later old seen later [] [] None more are = are
  are_answered_later old seen later [] [] (Some refusal) more are = absurd are
  are_answered_later old seen later [] (answer ∷ answers) refusal more are = absurd are
  are_answered_later old seen later (ask ∷ asks) [] None more are = absurd are
  are_answered_later old seen later (ask ∷ asks) [] (Some refusal) more are = are
  are_answered_later old seen later (ask ∷ asks) (answer ∷ answers) refusal more are = (answer_stays old seen later ask answer more are.0, are_answered_later are.0.over seen later asks answers refusal more are.1)

  -- and since an older history
  pub are_answered_since : (older old seen : List Item) (asks : List FoundAsk) (answers : List AskAnswer) (refusal : Option Refusal) → IsPrefix older old → AreAnswered facts opened old seen asks answers refusal
      → AreAnswered facts opened older seen asks answers refusal
  are_answered_since older old seen [] [] None more are = are
  are_answered_since older old seen [] [] (Some refusal) more are = absurd are
  are_answered_since older old seen [] (answer ∷ answers) refusal more are = absurd are
  are_answered_since older old seen (ask ∷ asks) [] None more are = absurd are
  are_answered_since older old seen (ask ∷ asks) [] (Some refusal) more are = are
  are_answered_since older old seen (ask ∷ asks) (answer ∷ answers) refusal more are = (
    record { over = are.0.over; later = prefix_trans older old are.0.over more are.0.later; begins = are.0.begins; answers = are.0.answers },
    are.1,
  )

-- ---- turns

-- the lists of one reader begin those of another
pub record SeesMore (old new : ReaderView) : Type 0 where
  pub history : IsPrefix old.history new.history
  pub fills : IsPrefix old.fills new.fills

-- those of a pass that only sees
pub lists_seen : {T : Type 0} {sealed : ℕ} (old new : PassView Item Fill T) (taken taken' : ℕ) → OnlySees sealed old new → SeesMore (reader_view old taken) (reader_view new taken')
lists_seen old new taken taken' sees = record { history = sees.begins; fills = sees.fills_begin }

-- a turn stays between as the reader sees more
abbrev turn_stays : (old new later : ReaderView) → SeesMore new later → TurnBetween old new → TurnBetween old later
turn_stays old new later more turn = record {
  history = turn.history;
  fills = turn.fills;
  later = turn.later;
  fills_later = turn.fills_later;
  begins = prefix_trans turn.history new.history later.history turn.begins more.history;
  fills_begin = prefix_trans turn.fills new.fills later.fills turn.fills_begin more.fills;
}

-- and behind an older one
abbrev turn_since : (older old new : ReaderView) → SeesMore older old → TurnBetween old new → TurnBetween older new
turn_since older old new more turn = record {
  history = turn.history;
  fills = turn.fills;
  later = prefix_trans older.history old.history turn.history more.history turn.later;
  fills_later = prefix_trans older.fills old.fills turn.fills more.fills turn.fills_later;
  begins = turn.begins;
  fills_begin = turn.fills_begin;
}

-- what is allowed behind a count is allowed behind a higher one
allowed_since : {D : Type 0} (store : StoreView D) (ask : FoundAsk) (older old new : ℕ) → old ≤ older → new ≤ steps_allowed_behind store ask old → new ≤ steps_allowed_behind store ask older
allowed_since store (looked_up.Values found) older old new fewer few = omega (arith, fewer, few)
allowed_since store (looked_up.Replay found) older old new fewer few = omega (arith, fewer, few)

-- no more steps than were counted before are among those that are allowed
more_steps : {D : Type 0} (store : StoreView D) (ask : FoundAsk) (taken new : ℕ) → new ≤ taken → new ≤ steps_allowed_behind store ask taken
more_steps store (looked_up.Values found) taken new few = omega (arith, few)
more_steps store (looked_up.Replay found) taken new few = few

module _ {D : Type 0} (device : Device D) (first : StoreView D) where
  -- an ask behind an older view, of as many steps at least
  asked_since : (older old new : ReaderView) (ask : FoundAsk) → SeesMore older old → (TellsRows device first → old.steps ≤ older.steps) → (turn : TurnBetween old new)
      → (TellsRows device first → new.steps ≤ (behind_ask first old.steps turn.history turn.fills ask).steps) → TellsRows device first → new.steps ≤ (behind_ask first older.steps turn.history turn.fills ask).steps
  asked_since older old new ask more fewer turn few told = allowed_since (record first { history = turn.history; fills = turn.fills }) ask older.steps old.steps new.steps (fewer told) (few told)

  -- one that was answered, for whose answer there is no room
  pub not_kept : (glance : Option (Sighting (Kept D))) (old new : ReaderView) (ask : FoundAsk) (answer : AskAnswer) → SeesMore old new → IsAsked device first glance old new ask (Ok answer) → IsAskedInTurn device first old new ask (Err OutOfMemory)
  not_kept glance old new ask answer more (inr is) = record { turn = is.turn; said = tt; steps = is.steps }
  not_kept glance old new ask answer more (inl is) = record {
    turn = record {
      history = old.history;
      fills = old.fills;
      later = prefix_self old.history;
      fills_later = prefix_self old.fills;
      begins = more.history;
      fills_begin = more.fills;
    };
    said = tt;
    steps = λ _. more_steps (record first { history = old.history; fills = old.fills }) ask old.steps new.steps is.1;
  }

  -- what was answered stays so as the glance sees more
  pub asked_on : (seen seen' : Option (Sighting (Kept D))) (old new : ReaderView) (asks : List FoundAsk) (answers : List AskAnswer) (refusal : Option Refusal) → LooksOn seen seen'
      → AreAsked device first seen old new asks answers refusal → AreAsked device first seen' old new asks answers refusal
  asked_on seen seen' old new [] [] None looks are = are
  asked_on seen seen' old new [] [] (Some refusal) looks are = absurd are
  asked_on seen seen' old new [] (answer ∷ answers) refusal looks are = absurd are
  asked_on seen seen' old new (ask ∷ asks) [] None looks are = absurd are
  asked_on seen seen' old new (ask ∷ asks) [] (Some refusal) looks are = are
  asked_on seen seen' old new (ask ∷ asks) (answer ∷ answers) refusal looks (inl are) =
      inl (glanced_on device first seen seen' ask answer looks are.0, asked_on seen seen' old new asks answers refusal looks are.1)
  asked_on seen seen' old new (ask ∷ asks) (answer ∷ answers) refusal looks (inr are) = inr (
    are.0,
    are.1,
    asked_on seen seen' (behind_ask first old.steps are.0.history are.0.fills ask) new asks answers refusal looks are.2,
  )

  module _ (glance : Option (Sighting (Kept D))) where
    -- with one more, by the glance or in a turn that found more than was seen
    pub asked_more : (old seen later : ReaderView) (asks : List FoundAsk) (answers : List AskAnswer) (ask : FoundAsk) (answer : AskAnswer) → SeesMore old seen → SeesMore seen later
        → AreAsked device first glance old seen asks answers None → IsAsked device first glance seen later ask (Ok answer)
        → AreAsked device first glance old later (asks ++ ask ∷ []) (answers ++ answer ∷ []) None
    asked_more old seen later [] [] ask answer begins more each (inl is) = inl (is.0, λ told. let few = is.1 in let so_far = each told in omega (arith, few, so_far))
    asked_more old seen later [] [] ask answer begins more each (inr is) = inr (turn_since old seen later begins is.turn, is.said, asked_since old seen later ask begins each is.turn is.steps)
    asked_more old seen later [] (answer' ∷ answers) ask answer begins more each is = absurd each
    asked_more old seen later (ask' ∷ asks) [] ask answer begins more each is = absurd each
    asked_more old seen later (ask' ∷ asks) (answer' ∷ answers) ask answer begins more (inl each) is = inl (each.0, asked_more old seen later asks answers ask answer begins more each.1 is)
    asked_more old seen later (ask' ∷ asks) (answer' ∷ answers) ask answer begins more (inr each) is = inr (
      turn_stays old seen later more each.0,
      each.1,
      asked_more (behind_ask first old.steps each.0.history each.0.fills ask') seen later asks answers ask answer (record { history = each.0.begins; fills = each.0.fills_begin }) more each.2 is,
    )

    pub one_unanswered : (old seen later : ReaderView) (asks : List FoundAsk) (answers : List AskAnswer) (ask : FoundAsk) (left : List FoundAsk) (refusal : Refusal) → SeesMore old seen → SeesMore seen later
        → AreAsked device first glance old seen asks answers None → IsAskedInTurn device first seen later ask (Err refusal)
        → AreAsked device first glance old later (asks ++ ask ∷ left) answers (Some refusal)
    one_unanswered old seen later [] [] ask left refusal begins more each is = record {
      turn = turn_since old seen later begins is.turn;
      said = is.said;
      steps = asked_since old seen later ask begins each is.turn is.steps;
    }
    one_unanswered old seen later [] (answer ∷ answers) ask left refusal begins more each is = absurd each
    one_unanswered old seen later (ask' ∷ asks) [] ask left refusal begins more each is = absurd each
    one_unanswered old seen later (ask' ∷ asks) (answer ∷ answers) ask left refusal begins more (inl each) is = inl (each.0, one_unanswered old seen later asks answers ask left refusal begins more each.1 is)
    one_unanswered old seen later (ask' ∷ asks) (answer ∷ answers) ask left refusal begins more (inr each) is = inr (
      turn_stays old seen later more each.0,
      each.1,
      one_unanswered (behind_ask first old.steps each.0.history each.0.fills ask') seen later asks answers ask left refusal (record { history = each.0.begins; fills = each.0.fills_begin }) more each.2 is,
    )

  -- why one wasn't answered
  refused_so : (glance : Option (Sighting (Kept D))) (old seen : ReaderView) (asks : List FoundAsk) (answers : List AskAnswer) (refusal : Refusal) → AreAsked device first glance old seen asks answers (Some refusal)
      → IsUnanswered (disk_facts device first.opened first.sealed) refusal
  refused_so glance old seen [] [] refusal are = absurd are
  refused_so glance old seen [] (answer ∷ answers) refusal are = absurd are
  refused_so glance old seen (ask ∷ asks) [] refusal are = are.said
  refused_so glance old seen (ask ∷ asks) (answer ∷ answers) refusal (inl are) = refused_so glance old seen asks answers refusal are.1
  refused_so glance old seen (ask ∷ asks) (answer ∷ answers) refusal (inr are) = refused_so glance (behind_ask first old.steps are.0.history are.0.fills ask) seen asks answers refusal are.2

  -- where one wasn't answered, it may be told with no answers
  pub none_kept : (glance : Option (Sighting (Kept D))) (old seen : ReaderView) (low high : List Item) (asks : List FoundAsk) (answers : List AskAnswer) (refusal : Refusal) → AreAsked device first glance old seen asks answers (Some refusal)
      → AreAnswered (disk_facts device first.opened first.sealed) (filled_of first) low high asks [] (Some refusal)
  none_kept glance old seen low high [] [] refusal are = absurd are
  none_kept glance old seen low high [] (answer ∷ answers) refusal are = absurd are
  none_kept glance old seen low high (ask ∷ asks) answers refusal are = refused_so glance old seen (ask ∷ asks) answers refusal are

  -- what was asked in turns is answered
  pub asked_are_answered : (old seen : ReaderView) (asks : List FoundAsk) (answers : List AskAnswer) (refusal : Option Refusal) → AreAsked device first None old seen asks answers refusal
      → AreAnswered (disk_facts device first.opened first.sealed) (filled_of first) old.history seen.history asks answers refusal
  asked_are_answered old seen [] [] None are = tt
  asked_are_answered old seen [] [] (Some refusal) are = absurd are
  asked_are_answered old seen [] (answer ∷ answers) refusal are = absurd are
  asked_are_answered old seen (ask ∷ asks) [] None are = absurd are
  asked_are_answered old seen (ask ∷ asks) [] (Some refusal) are = are.said
  asked_are_answered old seen (ask ∷ asks) (answer ∷ answers) refusal (inl are) = absurd are.0
  asked_are_answered old seen (ask ∷ asks) (answer ∷ answers) refusal (inr are) = (
    record { over = are.0.history; later = are.0.later; begins = are.0.begins; answers = are.1 },
    asked_are_answered (behind_ask first old.steps are.0.history are.0.fills ask) seen asks answers refusal are.2,
  )

  -- ---- all that a reader has

  -- those answered so far of all that a reader has, and those that are left, which begin behind so many others
  pub record AreAskedSoFar (glance : Option (Sighting (Kept D))) (old seen : ReaderView) (all left : List FoundAsk) (skip : ℕ) (answers : List AskAnswer) : Type 0 where
    pub done : List FoundAsk
    pub parts : all ≡ done ++ every_fourth skip left
    pub each : AreAsked device first glance old seen done answers None

  pub none_so_far : (glance : Option (Sighting (Kept D))) (old : ReaderView) (asks : List FoundAsk) (before : ℕ) (answers : List AskAnswer) → answers ≡ [] → AreAskedSoFar glance old old (every_fourth before asks) asks before answers
  none_so_far glance old asks before answers none = record {
    done = [];
    parts = refl;
    each = subst (λ (l : List AskAnswer). AreAsked device first glance old old [] l None) (sym none) (λ _. omega arith);
  }

  module _ (glance : Option (Sighting (Kept D))) (old seen : ReaderView) (all left more : List FoundAsk) (ask : FoundAsk) (is : left ≡ ask ∷ more) where
    -- an ask that others have
    pub passed_by : (skip : ℕ) (answers : List AskAnswer) → 0 < skip → AreAskedSoFar glance old seen all left skip answers → AreAskedSoFar glance old seen all more (skip - 1) answers
    passed_by zero answers some s = absurd (omega (arith, some))
    passed_by (suc skip) answers some s =
        let less : skip ≡ suc skip - 1 = omega arith in
        record {
          done = s.done;
          parts = s.parts ∙ (ap (λ (l : List FoundAsk). s.done ++ every_fourth (suc skip) l) is ∙ ap (λ (n : ℕ). s.done ++ every_fourth n more) less);
          each = s.each;
        }

    whole : (skip : ℕ) (answers : List AskAnswer) → skip ≡ 0 → (s : AreAskedSoFar glance old seen all left skip answers) → all ≡ s.done ++ ask ∷ every_fourth 3 more
    whole skip answers mine s = s.parts ∙ (ap (λ (n : ℕ). s.done ++ every_fourth n left) mine ∙ ap (λ (l : List FoundAsk). s.done ++ every_fourth 0 l) is)

    module _ (glance' : Option (Sighting (Kept D))) (looks : LooksOn glance glance') where
      still : (answers : List AskAnswer) (skip : ℕ) (s : AreAskedSoFar glance old seen all left skip answers) → AreAsked device first glance' old seen s.done answers None
      still answers skip s = asked_on glance glance' old seen s.done answers None looks s.each

      -- one that is answered
      pub one_more : (later : ReaderView) (skip : ℕ) (answers answers' : List AskAnswer) (answer : AskAnswer) → skip ≡ 0 → SeesMore old seen → SeesMore seen later
          → IsAsked device first glance' seen later ask (Ok answer) → answers' ≡ answers ++ answer ∷ [] → AreAskedSoFar glance old seen all left skip answers → AreAskedSoFar glance' old later all more 3 answers'
      one_more later skip answers answers' answer mine begins longer it pushed s = record {
        done = s.done ++ ask ∷ [];
        parts = whole skip answers mine s ∙ sym (append_assoc s.done (ask ∷ []) (every_fourth 3 more));
        each = subst (λ (l : List AskAnswer). AreAsked device first glance' old later (s.done ++ ask ∷ []) l None) (sym pushed)
            (asked_more glance' old seen later s.done answers ask answer begins longer (still answers skip s) it);
      }

      -- one that isn't
      pub ended_at : (later : ReaderView) (skip : ℕ) (answers : List AskAnswer) (refusal : Refusal) → skip ≡ 0 → SeesMore old seen → SeesMore seen later
          → IsAskedInTurn device first seen later ask (Err refusal) → AreAskedSoFar glance old seen all left skip answers → AreAsked device first glance' old later all answers (Some refusal)
      ended_at later skip answers refusal mine begins longer it s =
          subst (λ (l : List FoundAsk). AreAsked device first glance' old later l answers (Some refusal)) (sym (whole skip answers mine s))
          (one_unanswered glance' old seen later s.done answers ask (every_fourth 3 more) refusal begins longer (still answers skip s) it)

  -- none is left
  pub ended_all : (glance : Option (Sighting (Kept D))) (old seen : ReaderView) (all left : List FoundAsk) (skip : ℕ) (answers : List AskAnswer) → left ≡ [] → AreAskedSoFar glance old seen all left skip answers → AreAsked device first glance old seen all answers None
  ended_all glance old seen all left skip answers none s =
      let done : all ≡ s.done = s.parts ∙ (ap (λ (l : List FoundAsk). s.done ++ every_fourth skip l) none ∙ append-nil s.done) in
      subst (λ (l : List FoundAsk). AreAsked device first glance old seen l answers None) (sym done) s.each
