-- What is true of a histogram's fields is true after an addition.
use Rattle.std.proofs.Common.{◌≡◌, ◌≢◌, ℕ, ◌+◌, ◌<◌, ◌≤◌, ℤ, eqb, List, ◌++◌, Bool, true, false, max, refl, sym, ◌∙◌, ap, subst, arith}
use Rattle.std.specs.Prelude.{◌^◌}
use Rattle.std.proofs.lemmas.Bool.{eqb-true, eqb-false}
use Rattle.arch_types.specs.declared.spans.Span.{Span}
use Rattle.block_map.specs.Index.{Listing}
use Rattle.histogram.specs.declared.histogram.NamedTime.{NamedTime}
use Rattle.histogram.specs.declared.near.SpanStart.{SpanStart}
use Rattle.histogram.specs.Times.{HistogramView, HasTimes, named_times, spans_of, spans_of_times, times_of, AreOneSpan, IsHistogramOf}
use Rattle.histogram.specs.Near.{with_span}
use Rattle.histogram.specs.SpanEntries.{HasPut, total}
use Rattle.histogram.specs.Histogram.{histogram_view, IsHistogram}
use Rattle.histogram.proofs.Times.{own_times, other_times}
use Rattle.histogram.proofs.Entries.{spans_are}
use Rattle.histogram.proofs.Runs.{run_added}

-- where a record is put
abbrev pub start_of : Span → SpanStart
start_of span = record { first = span.first; count = span.count }

-- ---- the records, with more times

-- what an addition does to the records
pub record IsAddition (pname : ℕ) (span : Span) (old new : HistogramView) : Type 0 where
  pub own : spans_of pname new ≡ with_span span span (spans_of pname old)
  pub others : (other : ℕ) → other ≢ pname → spans_of other new ≡ spans_of other old

module _ (pname : ℕ) (span : Span) (old new : HistogramView) (is : IsAddition pname span old new) (more : List ℤ) (one : AreOneSpan span more) where
  -- for whatever times of the packet name the records were those
  pub records-append : (times : List ℤ) → spans_of pname old ≡ spans_of_times times → spans_of pname new ≡ spans_of_times (times ++ more)
  records-append times were = is.own ∙ ap (with_span span span) were ∙ sym (run_added times more span one)

  -- for whatever times of all packet names
  pub histogram-append : (times : List NamedTime) → IsHistogramOf old times → IsHistogramOf new (times ++ named_times pname more)
  histogram-append times were name = by (eqb name pname) refl
    where
      own : spans_of pname new ≡ spans_of_times (times_of pname (times ++ named_times pname more))
      own = records-append (times_of pname times) (were pname) ∙ ap spans_of_times (sym (own_times pname times more))

      by : (b : Bool) → eqb name pname ≡ b → spans_of name new ≡ spans_of_times (times_of name (times ++ named_times pname more))
      by true same = subst (λ (n : ℕ). spans_of n new ≡ spans_of_times (times_of n (times ++ named_times pname more))) (sym (eqb-true name pname same)) own
      by false differ =
          let ne = eqb-false name pname differ in
          is.others name ne ∙ were name ∙ ap spans_of_times (sym (other_times pname name ne times more))

-- ---- the fields

module _ (pname : ℕ) (span : Span) (index new : Listing NamedTime SpanStart) (put : HasPut pname span index new) where
  pub added_to : (room left : ℕ) → IsAddition pname span (histogram_view index room) (histogram_view new left)
  added_to room left = record {
    own = spans_are pname new.entries ∙ put.own ∙ ap (with_span span span) (sym (spans_are pname index.entries));
    others = λ other ne. spans_are other new.entries ∙ put.others other ne ∙ sym (spans_are other index.entries);
  }

  pub added : (more : List ℤ) → AreOneSpan span more → (rows room left : ℕ) → HasTimes (histogram_view index room) → total index.entries ≤ rows → left + 1 ≤ index.room → rows + span.count + left < 2 ^ 64 → IsHistogram new (rows + span.count) left
  added more one rows room left has few enough small = record {
    rising = put.rising;
    whole = put.whole;
    times = record {
      times = has.times ++ named_times pname more;
      records = histogram-append pname span (histogram_view index room) (histogram_view new left) (added_to room left) more one has.times has.records;
    };
    counted = omega (arith, put.counted, few);
    has_room = omega (arith, put.room, enough);
    small = small;
  }

-- ---- an index with one more place, and then the times of a record

module _ (pname : ℕ) (span : Span) (old reserved new : Listing NamedTime SpanStart) (room : ℕ) (made : reserved ≡ record { entries = old.entries; room = max old.room (room + 1) })
    (put : HasPut pname span reserved new) where
  pub spanned : IsAddition pname span (histogram_view old room) (histogram_view new room)
  spanned = subst (λ (i : Listing NamedTime SpanStart). IsAddition pname span (histogram_view i room) (histogram_view new room)) made (added_to pname span reserved new put room room)

  pub spanned_fields : (rows : ℕ) → IsHistogram old rows room → (more : List ℤ) → AreOneSpan span more → rows + span.count + room < 2 ^ 64 → IsHistogram new (rows + span.count) room
  spanned_fields rows kept more one small =
      let has = subst (λ (i : Listing NamedTime SpanStart). HasTimes (histogram_view i room)) (sym made) kept.times in
      let few = subst (λ (i : Listing NamedTime SpanStart). total i.entries ≤ rows) (sym made) kept.counted in
      let most : room + 1 ≤ max old.room (room + 1) = omega arith in
      let enough = subst (λ (i : Listing NamedTime SpanStart). room + 1 ≤ i.room) (sym made) most in
      added pname span reserved new put more one rows room room has few enough small
