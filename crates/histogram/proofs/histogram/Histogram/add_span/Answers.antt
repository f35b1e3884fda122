use Rattle.std.proofs.Common.{ℕ, sym, subst, arith}
use Rattle.histogram.specs.Times.{HistogramView}
use Rattle.histogram.specs.Histogram.{histogram_view, IsHistogram}
use Rattle.histogram.proofs.Added.{IsAddition, records-append, histogram-append, spanned, spanned_fields}
use Rattle.histogram.proofs.Runs.{one_span_holds}
use Rattle.histogram.proofs.histogram.Histogram.add_span.Goals as goal

pub overflow_add-self-inside : goal.overflow_add-self-inside
overflow_add-self-inside c =
    let some = (one_span_holds c.requires.0 c.args.span c.requires.1).1 in
    omega (arith, some, c.in_ok-rows.ensures.small)

pub put_span-requires-clause-ordered : goal.put_span-requires-clause-ordered
put_span-requires-clause-ordered c = (one_span_holds c.requires.0 c.args.span c.requires.1).0

pub invariant_of-self-2 : goal.invariant_of-self-2
invariant_of-self-2 c =
    let room = c.self.inside.room in
    subst (λ (rows : ℕ). IsHistogram c.put_span.new.index rows room) (sym c.in_ok-rows.ensures.rows)
    (spanned_fields c.args.pname c.args.span c.self.inside.index c.reserve.new.self c.put_span.new.index room c.in_ok-reserve.ensures.ok c.put_span.ensures c.self.inside.rows c.self.invariant c.requires.0 c.requires.1 c.in_ok-rows.ensures.small)

pub returns-clause-times : goal.returns-clause-times
returns-clause-times c = λ times more were one.
    let new = histogram_view c.put_span.new.index c.self.inside.room in
    let is = subst (λ (h : HistogramView). IsAddition c.args.pname c.args.span h new) c.self.view_is
    (spanned c.args.pname c.args.span c.self.inside.index c.reserve.new.self c.put_span.new.index c.self.inside.room c.in_ok-reserve.ensures.ok c.put_span.ensures) in
    histogram-append c.args.pname c.args.span c.args.self.now new is more one times were

pub returns-clause-added : goal.returns-clause-added
returns-clause-added c = λ times more were one.
    let new = histogram_view c.put_span.new.index c.self.inside.room in
    let is = subst (λ (h : HistogramView). IsAddition c.args.pname c.args.span h new) c.self.view_is
    (spanned c.args.pname c.args.span c.self.inside.index c.reserve.new.self c.put_span.new.index c.self.inside.room c.in_ok-reserve.ensures.ok c.put_span.ensures) in
    records-append c.args.pname c.args.span c.args.self.now new is more one times were

pub returns-clause-others : goal.returns-clause-others
returns-clause-others c =
    let new = histogram_view c.put_span.new.index c.self.inside.room in
    let is = subst (λ (h : HistogramView). IsAddition c.args.pname c.args.span h new) c.self.view_is
    (spanned c.args.pname c.args.span c.self.inside.index c.reserve.new.self c.put_span.new.index c.self.inside.room c.in_ok-reserve.ensures.ok c.put_span.ensures) in
    is.others
