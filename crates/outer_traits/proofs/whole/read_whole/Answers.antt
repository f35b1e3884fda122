use Rattle.std.proofs.Common.{arith, ◌<◌, length, refl, ◌∙◌}
use Rattle.outer_traits.proofs.Taken.{taken_none, taken_more, taken_end, taken_long}
use Rattle.outer_traits.proofs.whole.read_whole.Goals as goal

pub loop-n-init : goal.loop-n-init
loop-n-init g c = record {
  piece = omega (arith, c.in_ok-piece.ensures);
  within = omega (arith, c.new-octets.ensures.len);
  known = rw c.new-octets.ensures.items (taken_none (g.S.Source.state c.args.source.now).left);
  no_fault = refl;
  reliable = λ s. (s, refl);
}

pub returns-then-n-eq0-clause-whole : goal.returns-then-n-eq0-clause-whole
returns-then-n-eq0-clause-whole g c =
    let room : 0 < length c.as_mut_slice-into.result.now = omega (arith, c.as_mut_slice-into.ensures.len, c.loop-n.invariant.piece) in
    taken_end (g.S.Source.state c.args.source.now).left (g.S.Source.state c.loop-n.source).left c.loop-n.octets.items c.loop-n.invariant.known (c.in-Ok.ensures.end (let z = c.if-n-eq0.true in cc) room)

pub returns-then-n-limit-clause-long : goal.returns-then-n-limit-clause-long
returns-then-n-limit-clause-long g c = λ e.
    let len = c.loop-n.octets.ok.0 in
    taken_long (g.S.Source.state c.args.source.now).left (g.S.Source.state c.loop-n.source).left (g.S.Source.state c.read.new.self).left c.loop-n.octets.items c.read.new.into c.in-Ok.n c.args.limit c.loop-n.invariant.known c.in-Ok.ensures.taken (omega (arith, c.if-n-limit.true, c.len.ensures))

pub loop-n-preserved : goal.loop-n-preserved
loop-n-preserved g c = record {
  piece = c.loop-n.invariant.piece;
  within = omega (arith, c.if-n-limit.false, c.len.ensures, c.in_ok-extend_from_slice.ensures.len, c.split_at.ensures.front_len);
  known = rw (c.in_ok-extend_from_slice.ensures.items, c.split_at.ensures.front) (taken_more (g.S.Source.state c.args.source.now).left (g.S.Source.state c.loop-n.source).left (g.S.Source.state c.read.new.self).left c.loop-n.octets.items c.read.new.into c.in-Ok.n c.loop-n.invariant.known c.in-Ok.ensures.taken);
  no_fault = c.in-Ok.ensures.no_fault ∙ c.loop-n.invariant.no_fault;
  reliable = λ s. (let before = c.loop-n.invariant.reliable s in let now = c.in-Ok.ensures.reliable before.0 in (now.0, now.1 ∙ before.1));
}
