-- The answer over a listing.
use Rattle.std.proofs.Common.{◌≡◌, ℕ, List, Some, None, refl, sym, ◌∙◌, ap, subst, inl, inr}
use Rattle.std.specs.Arc.{arc_value}
use Rattle.std.specs.List.{AllByRecursion}
use Rattle.asks.specs.declared.ask.Answer.{Answer}
use Rattle.asks.specs.declared.ask.Request.{Request}
use Rattle.asks.specs.Names.{parameter_number}
use Rattle.asks.specs.Refusals.{request_refusal}
use Rattle.refusals.specs.declared.refusal.Refusal.{Refusal}
use Rattle.refusals.specs.declared.refusal.Refusal.TheVariants as refused
use Rattle.arch_types.specs.declared.row.Row.{Row}
use Rattle.intervals.specs.declared.interval.Interval.{Interval}
use Rattle.mdb_items.specs.Database.{Database}
use Rattle.part_answers.specs.PartCells.{answer_over_rows}
use Rattle.glance_log.specs.Sightings.{Sighting}
use Rattle.glance_board.specs.declared.contents.Contents.{Contents}
use Rattle.glance_board.specs.Listings.{IsListing, StayingFacts, database_of}
use Rattle.glance.specs.declared.span.Span.{Span}
use Rattle.glance.specs.Answers.{IsNotAsked, IsNowAnswer, IsNowRefusal}
use Rattle.glance.specs.Asked.{AreSetsOver, HasSeenValues, SeenSet, is_asked, is_within, late_where, sets_where}
use Rattle.glance.proofs.Asked.{late_same, none_late, sets_same, sets_values}
use Rattle.glance.proofs.Answered.{least_late, timely_answer}

module _ {X : Type 0} (stays : X → StayingFacts) (at : Sighting X) (contents : Contents) (is : IsListing stays at contents) (request : Request) where
  abbrev Archive : StayingFacts
  Archive = stays is.archive

  -- what isn't asked at all is refused
  pub refused_asked : (refusal : Refusal) → IsNotAsked (arc_value contents.mdb) request refusal → IsNowRefusal stays at request refusal
  refused_asked refusal why = inr (is.archive, is.fixed, inl (subst (λ (db : Database). IsNotAsked db request refusal) is.database why))

  module _ (span : Span) (met : (interval : Interval) → is_within span interval ≡ is_asked contents.exponent request interval) where
    asked : (interval : Interval) → is_within span interval ≡ is_asked Archive.exponent request interval
    asked interval = met interval ∙ ap (λ (e : ℕ). is_asked e request interval) is.exponent

    late_asked : late_where (is_within span) contents.marks ≡ late_where (is_asked Archive.exponent request) contents.marks
    late_asked = late_same (is_within span) (is_asked Archive.exponent request) asked contents.marks

    -- the first late interval of the span is the least that is asked for
    pub refused_late : (interval : Interval) → request_refusal (arc_value contents.mdb) request ≡ None → late_where (is_within span) contents.marks ≡ Some interval → IsNowRefusal stays at request (refused.Late interval)
    refused_late interval whole late =
        let least = least_late Archive at.history at.fills contents.marks is.marks request interval (sym late_asked ∙ late) in
        inr (is.archive, is.fixed, inr (subst (λ (db : Database). request_refusal db request ≡ None) is.database whole, (interval, refl, least)))

    -- where none is late, the sets have values of the database
    pub values_within : late_where (is_within span) contents.marks ≡ None → AllByRecursion (HasSeenValues (arc_value contents.mdb)) (sets_where (is_within span) contents.marks)
    values_within none =
        subst (λ (db : Database). AllByRecursion (HasSeenValues db) (sets_where (is_within span) contents.marks)) (sym is.database)
        (sets_values Archive at.history at.fills (is_within span) contents.marks is.marks.each (none_late (is_within span) contents.marks none))

    -- and the answer over them is that over the publication
    pub now_answer : (number : ℕ) (answer : Answer) → request_refusal (arc_value contents.mdb) request ≡ None → parameter_number (arc_value contents.mdb) request.parameter ≡ Some number → late_where (is_within span) contents.marks ≡ None
        → answer.front ≡ contents.front → ((rows : List Row) → AreSetsOver (arc_value contents.mdb) (sets_where (is_within span) contents.marks) rows → answer.cells ≡ answer_over_rows (arc_value contents.mdb) number request rows)
        → IsNowAnswer stays at request answer
    now_answer number answer whole named none front over =
        let db = database_of Archive at.history in
        let sets = sets_same (is_within span) (is_asked Archive.exponent request) asked contents.marks in
        let both : (rows : List Row) → AreSetsOver db (sets_where (is_asked Archive.exponent request) contents.marks) rows → answer.cells ≡ answer_over_rows db number request rows
        = λ rows sets_over. subst (λ (d : Database). answer.cells ≡ answer_over_rows d number request rows) is.database
        (over rows (subst (λ (d : Database). AreSetsOver d (sets_where (is_within span) contents.marks) rows) (sym is.database)
        (subst (λ (l : List SeenSet). AreSetsOver db l rows) (sym sets) sets_over))) in (
          is.archive,
          is.fixed,
          timely_answer Archive at.history at.fills contents.marks is.marks request number answer
              (subst (λ (d : Database). request_refusal d request ≡ None) is.database whole)
              (subst (λ (d : Database). parameter_number d request.parameter ≡ Some number) is.database named)
              (sym late_asked ∙ none)
              (front ∙ is.front)
              both,
        )
