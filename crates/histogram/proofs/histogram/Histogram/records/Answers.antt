use Rattle.std.proofs.Common.{◌≡◌, ℕ, ◌^◌, ◌++◌, List, [], neg_ℤ, pos, ap, sym, refl, ◌∙◌, append-nil}
use Rattle.arch_types.specs.declared.spans.Span.{Span}
use Rattle.histogram.specs.declared.histogram.NamedTime.{NamedTime}
use Rattle.histogram.specs.Times.{spans_of}
use Rattle.histogram.specs.SpanEntries.{spans_in}
use Rattle.histogram.proofs.Ahead.{from_least}
use Rattle.histogram.proofs.Entries.{spans_are}
use Rattle.histogram.proofs.histogram.Histogram.records.Goals as goal

-- the least named time of a packet name
abbrev least : ℕ → NamedTime
least pname = record { pname = pname; time = neg_ℤ (pos (2 ^ 63)) }

pub loop-span-init : goal.loop-span-init
loop-span-init c =
    let entries = c.from_key-entries.ensures.entries in
    let start = from_least c.args.pname (least c.args.pname) c.self.inside.index.entries refl refl c.self.invariant.whole (rw entries at c.from_key-entries.ensures.rising) in
    record {
      ahead = rw entries start.0;
      same = rw c.new-spans.ensures refl;
    }

pub returns-in_err-push-clause-times : goal.returns-in_err-push-clause-times
returns-in_err-push-clause-times c = rw (← c.self.view_is) c.self.invariant.times

pub returns-clause-times : goal.returns-clause-times
returns-clause-times c = rw (← c.self.view_is) c.self.invariant.times

pub returns-clause-records : goal.returns-clause-records
returns-clause-records c =
    let entries = c.from_key-entries.ensures.entries in
    let start = from_least c.args.pname (least c.args.pname) c.self.inside.index.entries refl refl c.self.invariant.whole (rw entries at c.from_key-entries.ensures.rising) in
    let none : spans_in c.args.pname c.loop-span.entries ≡ [] = c.in_default.ensures.none in
    sym (append-nil c.loop-span.spans) ∙ sym (ap (λ (l : List Span). c.loop-span.spans ++ l) none) ∙ c.loop-span.invariant.same
    ∙ ap (spans_in c.args.pname) entries ∙ start.1 ∙ sym (spans_are c.args.pname c.self.inside.index.entries) ∙ ap (spans_of c.args.pname) c.self.view_is
