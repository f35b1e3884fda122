use Rattle.std.proofs.Common.{◌≡◌, subst, sym}
use Rattle.arch_types.specs.declared.key.Key.{Key}
use Rattle.intervals.specs.Interval.{interval_of}
use Rattle.segment_codec.specs.Outline.{first_of}
use Rattle.param_segments.proofs.Insides.{ends_inside, inside_by_ends}
use Rattle.param_segments.proofs.asking.is_inside.Goals as goal

pub returns-then-is_time_inside : goal.returns-then-is_time_inside
returns-then-is_time_inside c =
    let s = c.args.segment.now in
    let e = c.args.exponent in
    let i = c.args.interval.0 in
    let first : interval_of e (first_of s.keys).time ≡ i = subst (λ (k : Key). interval_of e k.time ≡ i) c.first.ensures (c.is_time_inside.ensures.0 c.if-is_time_inside.true) in (
      λ told. inside_by_ends e i s c.requires first (subst (λ (k : Key). interval_of e k.time ≡ i) c.last.ensures (c.is_time_inside-then-is_time_inside.ensures.0 told)),
      λ all. c.is_time_inside-then-is_time_inside.ensures.1 (subst (λ (k : Key). interval_of e k.time ≡ i) (sym c.last.ensures) (ends_inside e i s c.requires all).1),
    )
