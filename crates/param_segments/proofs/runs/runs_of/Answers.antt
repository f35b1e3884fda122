use Rattle.std.proofs.Common.{◌≡◌, ◌∙◌, ◌+◌, ◌++◌, ◌∷◌, List, ap, drop, subst, sym, take, take_all}
use Rattle.std.proofs.lemmas.List.{take-append-drop}
use Rattle.segment_codec.specs.declared.segment.Segment.{Segment}
use Rattle.param_segments.specs.Runs.{AreRunsSoFar}
use Rattle.param_segments.specs.SetSegments.{AreSetSegments}
use Rattle.param_segments.proofs.Placed.{next_dropped, next_taken}
use Rattle.param_segments.proofs.runs.runs_of.Goals as goal

pub loop-segment-preserved : goal.loop-segment-preserved
loop-segment-preserved c =
    let segments = c.args.segments.now in
    let i = c.loop-segment.segment-index in
    subst (λ (ss : List Segment). AreRunsSoFar ss c.take_next.new.self) (sym (next_taken segments i c.segment-item.result c.loop-segment-test.true c.segment-item.is))
    (c.in_ok-take_next.ensures.taken c.if-not-branch.false _ c.loop-segment.invariant)

pub returns-clause-found : goal.returns-clause-found
returns-clause-found c = subst (λ (ss : List Segment). AreRunsSoFar ss c.loop-segment.runs) (take_all c.loop-segment.segment-index c.args.segments.now c.loop-segment-test.false) c.loop-segment.invariant

pub returns-then-not-branch-clause-none : goal.returns-then-not-branch-clause-none
returns-then-not-branch-clause-none c = λ _ set.
    let segments = c.args.segments.now in
    let i = c.loop-segment.segment-index in
    let s = c.segment-item.result in
    let split : segments ≡ take i segments ++ s ∷ drop (i + 1) segments =
    sym (take-append-drop i segments) ∙ ap (λ (l : List Segment). take i segments ++ l) (next_dropped segments i s c.loop-segment-test.true c.segment-item.is) in
    c.in_ok-take_next.ensures.refused c.if-not-branch.true (take i segments) (drop (i + 1) segments) c.loop-segment.invariant (subst AreSetSegments split set)
