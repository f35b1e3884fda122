use Rattle.std.proofs.Common.{◌∙◌}
use Rattle.space_packet.specs.Cut.{IsPacketRange, IsCut}
use Rattle.space_packet.proofs.Cuts.{cut_more}
use Rattle.space_packet.proofs.split.split.Goals as goal

pub loop-range-preserved : goal.loop-range-preserved
loop-range-preserved c =
    let range : IsPacketRange c.args.dump.now c.in-Some.range.start c.in-Some.range.end = rw c.loop-range.invariant.dump at c.in-Some.ensures.packet in
    let cut : IsCut c.args.dump.now c.loop-range.packets c.in-Some.range.start = rw c.in-Some.ensures.follows.0 c.loop-range.invariant.cut in
    let more = cut_more c.args.dump.now c.loop-range.packets c.in-Some.range.start c.in-Some.range.end cut range in
    record {
      dump = c.next_packet.ensures.dump ∙ c.loop-range.invariant.dump;
      cut = rw (c.in_ok-push.ensures.ok, c.in_ok-slice.ensures, ← c.in-Some.ensures.follows.1) more;
    }
