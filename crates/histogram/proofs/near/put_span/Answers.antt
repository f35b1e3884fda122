use Rattle.std.proofs.Common.{◌≡◌, ◌≤ℤ◌, None, FitsSigned, neg_ℤ, pos, ◌^◌, ap, sym, subst, ◌∙◌, arith, rules, w64}
use Rattle.std.specs.List.{AllByRecursion}
use Rattle.std.proofs.lemmas.Int.{ints, to_z-of_z}
use Rattle.histogram.specs.SpanEntries.{spans_in, total, IsSpanEntry}
use Rattle.histogram.proofs.Entries.{put}
use Rattle.histogram.proofs.near.put_span.Goals as goal

pub returns : goal.returns
returns c =
    let pname = c.args.pname in
    let at = c.args.at in
    let span = c.take_near-span.result in
    let fits_first : FitsSigned w64 span.first = search rules in
    let first = to_z-of_z w64 span.first fits_first in
    let fits_last : FitsSigned w64 span.last = search rules in
    let last = to_z-of_z w64 span.last fits_last in
    let fits : FitsSigned w64 at.last = search rules in
    let least : neg_ℤ (pos (2 ^ 63)) ≤ℤ at.last = omega (arith, ints, fits) in
    let mid = c.take_near-span.new.index in
    let taken = c.take_near-span.ensures.taken in
    let all = c.take_near-span.ensures.all in
    let p = put pname at span taken.holds taken.ordered least c.requires.ordered mid.entries taken.rising taken.whole taken.clear all in
    let none : c.insert.result ≡ None = (rw last at c.insert.ensures.found) ∙ p.absent in
    let is = rw none at (rw (first, last) at c.insert.ensures.absent) in
    record {
      own = ap (spans_in pname) is.0 ∙ p.own ∙ taken.own;
      others = λ other ne. ap (spans_in other) is.0 ∙ p.others other ne ∙ taken.others other ne;
      rising = c.insert.ensures.rising;
      whole = subst (AllByRecursion IsSpanEntry) (sym is.0) p.whole;
      counted = omega (arith, ap total is.0, p.counted, taken.counted);
      room = omega (arith, is.1, taken.room);
    }
