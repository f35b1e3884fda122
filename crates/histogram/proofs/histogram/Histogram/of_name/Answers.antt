use Rattle.std.proofs.Common.{◌≡◌, ℕ, ◌^◌, ◌++◌, List, [], ◌∷◌, neg_ℤ, pos, ap, sym, refl, subst, ◌∙◌, append_assoc, append-nil, arith}
use Rattle.arch_types.specs.declared.spans.Span.{Span}
use Rattle.block_map.specs.Index.{Listing}
use Rattle.histogram.specs.declared.histogram.NamedTime.{NamedTime}
use Rattle.histogram.specs.declared.near.SpanStart.{SpanStart}
use Rattle.histogram.specs.OneName.{count_of, AreRecordsOf}
use Rattle.histogram.specs.SpanEntries.{spans_in}
use Rattle.histogram.specs.Times.{spans_of, times_of}
use Rattle.histogram.proofs.Ahead.{from_least}
use Rattle.histogram.proofs.Entries.{spans_are}
use Rattle.histogram.proofs.OneName.{after_done, apart_spans, count_in, low_spans, name_has_times, no_records}
use Rattle.histogram.proofs.histogram.Histogram.of_name.Goals as goal

-- the least named time of a packet name
abbrev least : ℕ → NamedTime
least pname = record { pname = pname; time = neg_ℤ (pos (2 ^ 63)) }

pub loop-span-init : goal.loop-span-init
loop-span-init c =
    let entries = c.from_key-entries.ensures.entries in
    let start = from_least c.args.pname (least c.args.pname) c.self.inside.index.entries refl refl c.self.invariant.whole (rw entries at c.from_key-entries.ensures.rising) in
    record {
      ahead = rw entries start.0;
      same = rw c.new-index.ensures refl;
      held = rw c.new-index.ensures (no_records c.args.pname);
    }

pub loop-span-preserved : goal.loop-span-preserved
loop-span-preserved c =
    let pname = c.args.pname in
    let inv = c.loop-span.invariant in
    let kept = c.self.inside.index in
    let done = spans_in pname c.loop-span.index.entries in
    let span = c.in-Some.span in
    let rest = spans_in pname c.next_of.new.entries in
    let step = c.in-Some.ensures.next.spans in
    let entries = c.from_key-entries.ensures.entries in
    let start = from_least pname (least pname) kept.entries refl refl c.self.invariant.whole (rw entries at c.from_key-entries.ensures.rising) in
    let is : done ++ span ∷ rest ≡ spans_in pname kept.entries =
    ap (λ (l : List Span). done ++ l) (sym step) ∙ inv.same ∙ ap (spans_in pname) entries ∙ start.1 in
    let after = after_done done span rest (spans_in pname kept.entries) is (apart_spans kept c.self.inside.room pname c.self.invariant.times) (low_spans pname kept.entries c.self.invariant.whole) in
    let reserved = c.in_ok-reserve.ensures.ok in
    let held = subst (λ (i : Listing NamedTime SpanStart). AreRecordsOf pname done i.entries) (sym reserved) inv.held in
    let put = c.put_behind.ensures done held after in
    record {
      ahead = c.next_of.ensures.ahead;
      same = ap (λ (l : List Span). l ++ rest) put.own ∙ append_assoc done (span ∷ []) rest ∙ ap (λ (l : List Span). done ++ l) (sym step) ∙ inv.same;
      held = record { own = refl; others = put.others; rising = put.rising; whole = put.whole; counted = put.counted ∙ ap count_of (sym put.own) };
    }

pub invariant_of-result : goal.invariant_of-result
invariant_of-result c =
    let pname = c.args.pname in
    let kept = c.self.inside.index in
    let done = spans_in pname c.loop-span.index.entries in
    let held = c.loop-span.invariant.held in
    let entries = c.from_key-entries.ensures.entries in
    let start = from_least pname (least pname) kept.entries refl refl c.self.invariant.whole (rw entries at c.from_key-entries.ensures.rising) in
    let none : spans_in pname c.loop-span.entries ≡ [] = c.in_default.ensures.none in
    let same : done ≡ spans_in pname kept.entries =
    sym (append-nil done) ∙ sym (ap (λ (l : List Span). done ++ l) none) ∙ c.loop-span.invariant.same ∙ ap (spans_in pname) entries ∙ start.1 in
    let has = c.self.invariant.times in
    record {
      rising = held.rising;
      whole = held.whole;
      times = name_has_times pname (times_of pname has.times) c.loop-span.index 0 (same ∙ sym (spans_are pname kept.entries) ∙ has.records pname) held.others;
      counted = omega (arith, held.counted, ap count_of same, count_in pname kept.entries, c.self.invariant.counted);
      has_room = omega arith;
      small = omega (arith, c.self.invariant.small);
    }

pub returns-clause-same : goal.returns-clause-same
returns-clause-same c =
    let pname = c.args.pname in
    let kept = c.self.inside.index in
    let done = spans_in pname c.loop-span.index.entries in
    let entries = c.from_key-entries.ensures.entries in
    let start = from_least pname (least pname) kept.entries refl refl c.self.invariant.whole (rw entries at c.from_key-entries.ensures.rising) in
    let none : spans_in pname c.loop-span.entries ≡ [] = c.in_default.ensures.none in
    let same : done ≡ spans_in pname kept.entries =
    sym (append-nil done) ∙ sym (ap (λ (l : List Span). done ++ l) none) ∙ c.loop-span.invariant.same ∙ ap (spans_in pname) entries ∙ start.1 in
    spans_are pname c.loop-span.index.entries ∙ same ∙ sym (spans_are pname kept.entries) ∙ ap (spans_of pname) c.self.view_is

pub returns-clause-alone : goal.returns-clause-alone
returns-clause-alone c other ne = spans_are other c.loop-span.index.entries ∙ c.loop-span.invariant.held.others other ne
