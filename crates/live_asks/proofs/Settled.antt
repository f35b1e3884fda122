-- Answers over histories with which one begins.
use Rattle.std.proofs.Common.{◌≡◌, inl, inr, ℕ, ◌≤◌, List, [], ◌∷◌, length, Option, Some, None, ap, subst, arith}
use mathlib.Core.List.{IsPrefix}
use Rattle.arch_disk.specs.Disk.{Device}
use Rattle.refusals.specs.declared.refusal.Refusal.{Refusal}
use Rattle.history_items.specs.declared.fills.Fill.{Fill}
use Rattle.history_items.specs.declared.items.Item.{Item}
use Rattle.turn_cell.specs.Pass.{PassView}
use Rattle.turn_cell.proofs.Fronts.{prefix_length}
use Rattle.glance_log.specs.Sightings.{Sighting}
use Rattle.glance_log.proofs.Prefixes.{prefix_shorter, prefix_trans}
use Rattle.archive_store.specs.Entries.{FilledArchive}
use Rattle.archive_store.specs.StoreView.{StoreView, filled_of}
use Rattle.retrieval.specs.declared.found_asks.FoundAsk.{FoundAsk}
use Rattle.retrieval.specs.declared.found_asks.FoundAsk.TheVariants as looked_up
use Rattle.store_shelf.specs.declared.kept.Kept.{Kept}
use Rattle.live_asks.specs.declared.answered.AskAnswer.{AskAnswer}
use Rattle.live_asks.specs.declared.answered.AskAnswer.TheVariants as answered
use Rattle.live_asks.specs.LiveAsks.{AnswersOver, AreAnswered, AreAsked, AreSettled, DiskFacts, FrontsRise, ReaderView, behind_ask, disk_facts, front_of, reader_view}
use Rattle.live_asks.proofs.Each.{are_answered_later, asked_are_answered}

-- the front of an answer is the length of the history that it is over
front_is : (facts : DiskFacts) (opened : FilledArchive) (over : List Item) (ask : FoundAsk) (answer : AskAnswer) → AnswersOver facts opened over ask answer → front_of answer ≡ length over
front_is facts opened over (looked_up.Values found) (answered.Values answer) (inl is) = is.front
front_is facts opened over (looked_up.Values found) (answered.Values answer) (inr is) = is.front
front_is facts opened over (looked_up.Values found) (answered.Replay replayed) is = absurd is
front_is facts opened over (looked_up.Replay found) (answered.Values answer) is = absurd is
front_is facts opened over (looked_up.Replay found) (answered.Replay replayed) is = is.front

module _ {D : Type 0} (device : Device D) (first : StoreView D) (glance : Sighting (Kept D)) where
  abbrev facts : DiskFacts
  facts = disk_facts device first.opened first.sealed

  abbrev opened : FilledArchive
  opened = filled_of first

  -- the fronts rise from that of the first history on
  rise_since : (old last : ReaderView) (asks : List FoundAsk) (answers : List AskAnswer) (refusal : Option Refusal) → old.history ≡ first.history → FrontsRise 0 answers → AreAsked device first (Some glance) old last asks answers refusal
      → FrontsRise (length old.history) answers
  rise_since old last asks [] refusal same rise are = tt
  rise_since old last [] (answer ∷ answers) refusal same rise are = absurd are
  rise_since old last (ask ∷ asks) (answer ∷ answers) refusal same rise (inl are) =
      let longer = prefix_length first.history are.0.over are.0.later in
      let front = front_is facts opened are.0.over ask answer are.0.answers in
      let is = ap (λ (l : List Item). length l) same in
      (omega (arith, longer, front, is), rise.1)
  rise_since old last (ask ∷ asks) (answer ∷ answers) refusal same rise (inr are) =
      let longer = prefix_length old.history are.0.history are.0.later in
      let front = front_is facts opened are.0.history ask answer are.1 in
      (omega (arith, longer, front), rise.1)

  module _ (final : List Item) (shown : IsPrefix glance.history final) where
    -- each goes on from the one before, as its front isn't below
    one_after_another : (low : List Item) (old last : ReaderView) (asks : List FoundAsk) (answers : List AskAnswer) (refusal : Option Refusal) → IsPrefix low final → IsPrefix last.history final → FrontsRise (length low) answers
        → AreAsked device first (Some glance) old last asks answers refusal → AreAnswered facts opened low final asks answers refusal
    one_after_another low old last [] [] None begins seen rise are = tt
    one_after_another low old last [] [] (Some refusal) begins seen rise are = absurd are
    one_after_another low old last [] (answer ∷ answers) refusal begins seen rise are = absurd are
    one_after_another low old last (ask ∷ asks) [] None begins seen rise are = absurd are
    one_after_another low old last (ask ∷ asks) [] (Some refusal) begins seen rise are = are.said
    one_after_another low old last (ask ∷ asks) (answer ∷ answers) refusal begins seen rise (inl are) =
        let over = are.0.over in
        let here = prefix_trans over glance.history final are.0.begins shown in
        let front = front_is facts opened over ask answer are.0.answers in
        let longer : length low ≤ length over = subst (λ (n : ℕ). length low ≤ n) front rise.0 in (
          record { over = over; later = prefix_shorter low over final begins here longer; begins = here; answers = are.0.answers },
          one_after_another over old last asks answers refusal here seen (subst (λ (n : ℕ). FrontsRise n answers) front rise.1) are.1,
        )
    one_after_another low old last (ask ∷ asks) (answer ∷ answers) refusal begins seen rise (inr are) =
        let over = are.0.history in
        let here = prefix_trans over last.history final are.0.begins seen in
        let front = front_is facts opened over ask answer are.1 in
        let longer : length low ≤ length over = subst (λ (n : ℕ). length low ≤ n) front rise.0 in (
          record { over = over; later = prefix_shorter low over final begins here longer; begins = here; answers = are.1 },
          one_after_another over (behind_ask first old.steps over are.0.fills ask) last asks answers refusal here seen (subst (λ (n : ℕ). FrontsRise n answers) front rise.1) are.2,
        )

-- what was asked is answered, once it is settled
pub settled_are_answered : {D T : Type 0} (device : Device D) (first : StoreView D) (glance : Option (Sighting (Kept D))) (old new last : PassView Item Fill T) (taken taken' : ℕ) (asks : List FoundAsk) (answers : List AskAnswer) (refusal : Option Refusal)
    → old.history.seen ≡ first.history → IsPrefix old.history.seen last.history.seen → IsPrefix new.history.seen last.history.seen → AreSettled glance last answers
    → AreAsked device first glance (reader_view old taken) (reader_view new taken') asks answers refusal
    → AreAnswered (disk_facts device first.opened first.sealed) (filled_of first) old.history.seen last.history.seen asks answers refusal
settled_are_answered device first None old new last taken taken' asks answers refusal same begins seen settled are =
    are_answered_later (disk_facts device first.opened first.sealed) (filled_of first) old.history.seen new.history.seen last.history.seen asks answers refusal seen
    (asked_are_answered device first (reader_view old taken) (reader_view new taken') asks answers refusal are)
settled_are_answered device first (Some glance) old new last taken taken' asks answers refusal same begins seen settled are =
    one_after_another device first glance last.history.seen settled.0 old.history.seen (reader_view old taken) (reader_view new taken') asks answers refusal begins seen
    (rise_since device first glance (reader_view old taken) (reader_view new taken') asks answers refusal same settled.1 are) are
