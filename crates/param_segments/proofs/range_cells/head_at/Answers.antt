use Rattle.std.proofs.Common.{IfOk, subst, sym}
use Rattle.segment_codec.specs.SegmentHead.{IsHeadOf}
use Rattle.segment_codec.specs.declared.segment.Segment.{Segment}
use Rattle.param_segments.specs.Groups.{set_of}
use Rattle.param_segments.specs.Octets.{rows_in_octets}
use Rattle.param_segments.proofs.Starts.{at_start, length-of_starts, segment_number}
use Rattle.param_segments.proofs.range_cells.head_at.Goals as goal

pub read_head-requires : goal.read_head-requires
read_head-requires c =
    let number = c.number_at-number.result in
    (segment_number c.args.octets.now number, at_start c.args.octets.now c.args.starts.now number c.requires.spelled c.number_at-number.ensures.within)

pub returns : goal.returns
returns c =
    let octets = c.args.octets.now in
    let starts = c.args.starts.now in
    let number = c.number_at-number.result in
    let there = c.number_at-number.ensures.at (set_of (rows_in_octets octets)) (sym (length-of_starts octets starts c.requires.spelled)) in
    subst (λ (s : Segment). IfOk c.read_head.result (IsHeadOf s)) there (c.read_head.ensures (segment_number octets number) (at_start octets starts number c.requires.spelled c.number_at-number.ensures.within))
