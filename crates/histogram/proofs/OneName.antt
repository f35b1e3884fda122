-- Records of one packet name, put one behind the other.
use Rattle.std.proofs.Common.{◌≡◌, ◌≢◌, ℕ, ℤ, pos, ◌+◌, ◌≤◌, ◌≤ℤ◌, ◌<ℤ◌, eqb, List, [], ◌∷◌, ◌++◌, Bool, true, false, cond, refl, sym, ◌∙◌, ap, subst, arith}
use Rattle.std.specs.Prelude.{neg_ℤ, ◌^◌, ◌+ℤ◌, int_lt}
use Rattle.std.specs.List.{AllByRecursion}
use Rattle.std.proofs.lemmas.Bool.{eqb-true, eqb-false}
use Rattle.std.proofs.lemmas.Int.{ints}
use Rattle.arch_types.specs.Order.{order_by}
use Rattle.arch_types.specs.declared.spans.Span.{Span}
use Rattle.block_map.specs.Index.{Listing, IsAdded}
use Rattle.block_map.specs.Rising.{IsRising}
use Rattle.histogram.specs.declared.histogram.NamedTime.{NamedTime}
use Rattle.histogram.specs.declared.near.SpanStart.{SpanStart}
use Rattle.histogram.specs.Times.{named_time_cmp, named_times, spans_of, spans_of_times, times_of, HasTimes}
use Rattle.histogram.specs.Near.{is_apart, with_span}
use Rattle.histogram.specs.SpanEntries.{span_at, spans_in, total, last_key, IsSpanEntry}
use Rattle.histogram.specs.Histogram.{histogram_view}
use Rattle.histogram.specs.OneName.{count_of, AreRecordsOf, ComesAfter}
use Rattle.histogram.proofs.Addition.{apart_histogram, true_lt, AreApart}
use Rattle.histogram.proofs.Times.{own_named, other_named, sorted_in_order}
use Rattle.histogram.proofs.Entries.{Put, put, clear_first, none_near, spans_are}
use Rattle.histogram.proofs.Added.{start_of}

-- ---- a record behind others

pub itself : (x : ℤ) → x ≤ℤ x
itself x = omega (arith, ints)

-- put past those that have ended before it
with_span-last : (at span : Span) (spans : List Span) → AllByRecursion (λ s. is_apart s.last at.first ≡ true) spans → with_span at span spans ≡ spans ++ span ∷ []
with_span-last at span [] all = refl
with_span-last at span (s ∷ spans) all = rw all.0 (ap (λ (l : List Span). s ∷ l) (with_span-last at span spans all.1))

count-push : (spans : List Span) (span : Span) → count_of (spans ++ span ∷ []) ≡ count_of spans + span.count
count-push [] span = omega arith
count-push (s ∷ spans) span = omega (arith, count-push spans span)

-- no records
pub no_records : (pname : ℕ) → AreRecordsOf pname [] []
no_records pname = record { own = refl; others = λ other ne. refl; rising = tt; whole = tt; counted = refl }

module _ (pname : ℕ) (spans : List Span) (span : Span) (old : Listing NamedTime SpanStart) (held : AreRecordsOf pname spans old.entries) (after : ComesAfter span spans) where
  ended : AllByRecursion (λ s. is_apart s.last span.first ≡ true) (spans_in pname old.entries)
  ended = subst (AllByRecursion (λ (s : Span). is_apart s.last span.first ≡ true)) (sym held.own) after.apart

  -- its place is free
  pub put_last : Put pname span span (itself span.last) after.ordered after.low after.ordered old.entries
  put_last =
      put pname span span (itself span.last) after.ordered after.low after.ordered old.entries held.rising held.whole
      (clear_first pname span span refl old.entries held.whole) (none_near pname span old.entries ended)

  -- the records with it
  pub records_behind : (new : Listing NamedTime SpanStart) → IsAdded named_time_cmp old new (last_key pname span) (start_of span) → IsRising named_time_cmp new.entries → AreRecordsOf pname (spans ++ span ∷ []) new.entries
  records_behind new is rising = record {
    own = ap (spans_in pname) is.0 ∙ put_last.own ∙ with_span-last span span (spans_in pname old.entries) ended ∙ ap (λ (l : List Span). l ++ span ∷ []) held.own;
    others = λ other ne. ap (spans_in other) is.0 ∙ put_last.others other ne ∙ held.others other ne;
    rising = rising;
    whole = subst (AllByRecursion IsSpanEntry) (sym is.0) put_last.whole;
    counted = ap total is.0 ∙ put_last.counted ∙ ap (λ (n : ℕ). n + span.count) held.counted ∙ sym (count-push spans span);
  }

-- ---- the records of a histogram

at_seam : (P : Span → Type 0) (done : List Span) (span : Span) (rest : List Span) → AllByRecursion P (done ++ span ∷ rest) → P span
at_seam P [] span rest all = all.0
at_seam P (s ∷ done) span rest all = at_seam P done span rest all.1

after_these : (done : List Span) (span : Span) (rest : List Span) → AreApart (done ++ span ∷ rest) → AllByRecursion (λ s. neg_ℤ (pos (2 ^ 63)) ≤ℤ s.last) (done ++ span ∷ rest) → ComesAfter span done
after_these [] span rest apart low = record { ordered = apart.0; low = low.0; apart = tt }
after_these (s ∷ done) span rest apart low =
    let later = after_these done span rest apart.2 low.1 in
    let gap = at_seam (λ (r : Span). (s.last +ℤ pos 60_000) <ℤ r.first) done span rest apart.1 in
    record { ordered = later.ordered; low = later.low; apart = (true_lt (s.last +ℤ pos 60_000) span.first gap, later.apart) }

-- each comes after those before it
pub after_done : (done : List Span) (span : Span) (rest all : List Span) → done ++ span ∷ rest ≡ all → AreApart all → AllByRecursion (λ s. neg_ℤ (pos (2 ^ 63)) ≤ℤ s.last) all → ComesAfter span done
after_done done span rest all is apart low =
    after_these done span rest (subst AreApart (sym is) apart) (subst (AllByRecursion (λ (s : Span). neg_ℤ (pos (2 ^ 63)) ≤ℤ s.last)) (sym is) low)

-- none ends below the least time
pub low_spans : (pname : ℕ) (es : List (NamedTime × SpanStart)) → AllByRecursion IsSpanEntry es → AllByRecursion (λ s. neg_ℤ (pos (2 ^ 63)) ≤ℤ s.last) (spans_in pname es)
low_spans pname [] all = tt
low_spans pname (e ∷ es) all = by (eqb e.0.pname pname) (low_spans pname es all.1)
  where
    by : (b : Bool) → AllByRecursion (λ s. neg_ℤ (pos (2 ^ 63)) ≤ℤ s.last) (spans_in pname es) → AllByRecursion (λ s. neg_ℤ (pos (2 ^ 63)) ≤ℤ s.last) (cond b (span_at e ∷ spans_in pname es) (spans_in pname es))
    by true rest = (all.0.0, rest)
    by false rest = rest

-- they are apart
pub apart_spans : (index : Listing NamedTime SpanStart) (room : ℕ) (pname : ℕ) → HasTimes (histogram_view index room) → AreApart (spans_in pname index.entries)
apart_spans index room pname has =
    let times = times_of pname has.times in
    subst AreApart (sym (sym (spans_are pname index.entries) ∙ has.records pname)) (apart_histogram (order_by int_lt times) (sorted_in_order times))

-- one name has no more times than all
pub count_in : (pname : ℕ) (es : List (NamedTime × SpanStart)) → count_of (spans_in pname es) ≤ total es
count_in pname [] = omega arith
count_in pname (e ∷ es) = by (eqb e.0.pname pname) (count_in pname es)
  where
    by : (b : Bool) → count_of (spans_in pname es) ≤ total es → count_of (cond b (span_at e ∷ spans_in pname es) (spans_in pname es)) ≤ e.1.count + total es
    by true less = omega (arith, less)
    by false less = omega (arith, less)

-- ---- the times that they are of

pub name_has_times : (pname : ℕ) (times : List ℤ) (index : Listing NamedTime SpanStart) (room : ℕ) → spans_in pname index.entries ≡ spans_of_times times →
    ((other : ℕ) → other ≢ pname → spans_in other index.entries ≡ []) → HasTimes (histogram_view index room)
name_has_times pname times index room is none = record { times = named_times pname times; records = λ other. by other (eqb other pname) refl }
  where
    own : spans_of pname (histogram_view index room) ≡ spans_of_times (times_of pname (named_times pname times))
    own = spans_are pname index.entries ∙ is ∙ ap spans_of_times (sym (own_named pname times))

    by : (other : ℕ) (b : Bool) → eqb other pname ≡ b → spans_of other (histogram_view index room) ≡ spans_of_times (times_of other (named_times pname times))
    by other true same = subst (λ (n : ℕ). spans_of n (histogram_view index room) ≡ spans_of_times (times_of n (named_times pname times))) (sym (eqb-true other pname same)) own
    by other false differ =
        let ne = eqb-false other pname differ in
        spans_are other index.entries ∙ none other ne ∙ ap spans_of_times (sym (other_named pname other ne times))
