use Rattle.std.proofs.Common.{subst}
use Rattle.std.specs.List.{AllByRecursion}
use Rattle.turn_cell.specs.Pass.{IsFree}
use Rattle.turn_passes.specs.Passes.{Joins}
use Rattle.turn_passes.proofs.Joining.{all_but_last, joins_next, joins_none}
use Rattle.turn_passes.proofs.passes.join_all.Goals as goal

pub loop-other-init : goal.loop-other-init
loop-other-init g c = record {
  free = c.requires.free;
  others = c.requires.others;
  joined = joins_none c.args.passes.items c.args.pass.now;
}

pub join-requires : goal.join-requires
join-requires g c =
    let here = c.loop-other.invariant in
    let theirs = subst (λ l. AllByRecursion (IsFree c.args.cell.now) l) c.in-Some.ensures.items here.others in
    record { free = (here.free, (all_but_last (IsFree c.args.cell.now) _ _ theirs).1) }

pub loop-other-preserved : goal.loop-other-preserved
loop-other-preserved g c =
    let here = c.loop-other.invariant in
    let theirs = subst (λ l. AllByRecursion (IsFree c.args.cell.now) l) c.in-Some.ensures.items here.others in
    let before = subst (λ l. Joins c.args.passes.items c.args.pass.now c.loop-other.pass l) c.in-Some.ensures.items here.joined in
    record {
      free = c.join.ensures.free;
      others = (all_but_last (IsFree c.args.cell.now) _ _ theirs).0;
      joined = joins_next c.args.passes.items c.pop.new.self.items c.in-Some.other c.args.pass.now c.loop-other.pass c.join.new.pass c.join.ensures.both c.join.ensures.begins c.join.ensures.others_begin before;
    }
