use Rattle.std.proofs.Common.{◌≡◌, ◌<◌, ◌+◌, ◌∙◌, ◌++◌, List, ℕ, [], ◌∷◌, ap, arith, drop, get_or, length, length-append, subst, sym}
use Rattle.std.specs.Prelude.{flat_map}
use Rattle.std.specs.List.{AllByRecursion}
use Rattle.std.proofs.lemmas.Result.{err_from_is_err_and}
use Rattle.segment_codec.specs.Segment.{IsSegment, segment_octets}
use Rattle.segment_codec.specs.declared.segment.Segment.{Segment}
use Rattle.param_segments.specs.Octets.{starts_from}
use Rattle.param_segments.proofs.Decoded.{all_read, next_stands, place_more, read_more, read_none, spelled_more, starts_more}
use Rattle.param_segments.proofs.Known.{put_last}
use Rattle.param_segments.proofs.Starts.{no_segment}
use Rattle.param_segments.proofs.decoding.segments_at.Goals as goal

pub loop-init : goal.loop-init
loop-init c =
    let none = c.in_ok-segments.ensures.items in
    record {
      sound = subst (AllByRecursion IsSegment) (sym none) tt;
      count = ap length none;
      within = omega arith;
      place = ap (λ (ss : List Segment). 4 + length (flat_map segment_octets ss)) (sym none);
      spelled = ap (λ (ss : List Segment). flat_map segment_octets ss ++ drop 4 c.args.octets.now) (sym none);
      starts = c.in_ok-starts.ensures.items ∙ ap (starts_from 4) (sym none);
      each = read_none c.args.mdb.now c.args.count c.args.octets.now c.in_ok-segments.segments.items none;
    }

pub returns-in_err-segment-clause-each : goal.returns-in_err-segment-clause-each
returns-in_err-segment-clause-each c = λ segments known len there.
    let p = err_from_is_err_and c.from_residual-in_err-segment.result c.from_residual-in_err-segment.ensures.1 in
    let i = c.loop.counter in
    let so = c.loop.invariant.each segments known len there in
    let lt = c.loop-test.true in
    let inside : i < length segments = omega (arith, lt, len) in
    let next = next_stands c.args.mdb.now c.args.octets.now segments i c.loop.at known inside so.1 in
    rw (p.1, p.2) (c.in_err-segment.ensures.each (get_or segments i no_segment) next.0 next.1)

pub loop-preserved : goal.loop-preserved
loop-preserved c =
    let s = c.in_ok-segment.segment in
    let old = c.loop.segments.items in
    let more = c.push_reserved.ensures.items ∙ ap (λ (kept : List Segment). kept ++ s ∷ []) c.reserve.ensures.items in
    let len = length-append old (s ∷ []) in
    let longer = ap length more in
    let start : c.in-Ok.start ≡ c.loop.at = omega (arith, c.in-Ok.ensures) in
    record {
      sound = subst (AllByRecursion IsSegment) (sym more) (put_last IsSegment old s c.loop.invariant.sound c.in_ok-segment.ensures.found.0);
      count = omega (arith, len, longer, c.loop.invariant.count);
      within = omega (arith, c.loop-test.true);
      place = c.in_ok-segment.ensures.end ∙ place_more old s c.loop.at c.loop.invariant.place ∙ ap (λ (ss : List Segment). 4 + length (flat_map segment_octets ss)) (sym more);
      spelled = spelled_more c.args.octets.now old s c.loop.at c.in_ok-segment.end c.in_ok-segment.ensures.found c.in_ok-segment.ensures.end c.loop.invariant.spelled
          ∙ ap (λ (ss : List Segment). flat_map segment_octets ss ++ drop c.in_ok-segment.end c.args.octets.now) (sym more);
      starts = c.in_ok-push.ensures.items ∙ ap (λ (n : ℕ). c.loop.starts.items ++ n ∷ []) start ∙ ap (λ (ns : List ℕ). ns ++ c.loop.at ∷ []) c.loop.invariant.starts
          ∙ starts_more old s c.loop.at c.loop.invariant.place ∙ ap (starts_from 4) (sym more);
      each = read_more c.args.mdb.now c.args.count c.args.octets.now old c.push_reserved.new.self.items c.loop.counter c.loop.at c.in_ok-segment.end s c.loop-test.true more c.in_ok-segment.ensures.end c.in_ok-segment.ensures.each c.loop.invariant.each;
    }

pub returns-clause-count : goal.returns-clause-count
returns-clause-count c = omega (arith, c.loop-test.false, c.loop.invariant.within, c.loop.invariant.count)

pub returns-clause-each : goal.returns-clause-each
returns-clause-each c = all_read c.args.mdb.now c.args.count c.args.octets.now c.loop.segments.items c.loop.counter c.loop.at c.loop-test.false c.loop.invariant.each
