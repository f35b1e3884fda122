use Rattle.std.proofs.Common.{◌≡◌, ◌∙◌, FitsSigned, false, sym, rules, w64}
use Rattle.std.proofs.lemmas.Int.{to_z-of_z}
use Rattle.histogram.specs.Near.{is_apart}
use Rattle.histogram.proofs.Runs.{grown_is_one}
use Rattle.histogram.proofs.one_span.grown.Goals as goal

pub returns-clause-near : goal.returns-clause-near
returns-clause-near c = λ times one.
    let span = c.args.span in
    let fits_first : FitsSigned w64 span.first = search rules in
    let first = to_z-of_z w64 span.first fits_first in
    let fits_last : FitsSigned w64 span.last = search rules in
    let last = to_z-of_z w64 span.last fits_last in
    let time = to_z-of_z w64 c.args.time c.ranges.time in
    let there : is_apart span.last c.args.time ≡ false = rw (last, time) at (sym c.is_apart.ensures ∙ c.if-is_apart.false) in
    let begins : is_apart c.args.time span.first ≡ false = rw (time, first) at (sym c.is_apart-else-is_apart.ensures ∙ c.if-is_apart-2.false) in
    let made = rw time at c.span_of_time.ensures.span in
    rw (c.joined.ensures, made) (grown_is_one span times c.args.time one there begins)
