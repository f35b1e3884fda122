use Rattle.std.proofs.Common.{◌≡◌, ◌∙◌, List, Option, ap, subst}
use Rattle.std.specs.Prelude.{IfOk, IfSome}
use Rattle.arch_types.specs.declared.key.Key.{Key}
use Rattle.segment_codec.specs.Outline.{front_segment}
use Rattle.segment_codec.specs.declared.segment.Segment.{Segment}
use Rattle.segment_codec.proofs.Outlines.{front_keys_are}
use Rattle.segment_codec.proofs.outline.SegmentOutline.keys.Goals as goal

pub returns-in-Some : goal.returns-in-Some
returns-in-Some c =
    let own : List Key = (front_segment c.self.inside.octets.now).keys in
    let kept : c.in-Some.keys ≡ own = subst (λ (o : Option (List Key)). IfSome o (λ ks. ks ≡ own)) c.in-Some.is c.self.invariant.keys in
    subst (λ (ks : List Key). IfOk c.copy.result (λ copy. copy ≡ ks)) (kept ∙ ap (λ (s : Segment). s.keys) c.self.view_is) c.copy.ensures

pub returns-in-Ok : goal.returns-in-Ok
returns-in-Ok c =
    let octets = c.self.inside.octets.now in
    front_keys_are octets (front_segment octets) _ c.self.invariant.stands c.in-Ok.ensures ∙ ap (λ (s : Segment). s.keys) c.self.view_is
