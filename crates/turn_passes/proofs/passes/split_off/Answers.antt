use Rattle.std.proofs.Common.{◌≡◌, ℕ, suc, ◌-◌, ◌/◌, ◌≤◌, ◌^◌, ap, sym, subst, arith}
use Rattle.turn_cell.specs.Pass.{IsFree}
use Rattle.turn_passes.specs.Passes.{AreSplitOff}
use Rattle.turn_passes.proofs.Joining.{all_push, halved, split_more, split_none}
use Rattle.turn_passes.proofs.passes.split_off.Goals as goal

pub splits-init : goal.splits-init
splits-init g c = record {
  few = omega arith;
  free = c.requires.free;
  others = c.requires.others;
  room = c.requires.room;
  share = c.requires.share;
  split = let none : 0 ≡ c.args.count - c.args.count = omega arith in subst (λ (n : ℕ). AreSplitOff c.args.pass.now c.args.pass.now c.args.passes.now.items c.args.passes.now.items n) none (split_none c.args.pass.now c.args.passes.now.items);
}

pub split-other-requires-clause-share : goal.split-other-requires-clause-share
split-other-requires-clause-share g c =
    let some = c.splits-test.true in
    let n : ℕ = c.splits.left - 1 in
    let is : c.splits.left ≡ suc n = omega (arith, some) in
    (halved n c.splits.pass.share (subst (λ (k : ℕ). 2 ^ k ≤ c.splits.pass.share) is c.splits.invariant.share)).0

pub splits-preserved : goal.splits-preserved
splits-preserved g c =
    let here = c.splits.invariant in
    let some = c.splits-test.true in
    let few = here.few in
    let n : ℕ = c.splits.left - 1 in
    let is : c.splits.left ≡ suc n = omega (arith, some) in
    let kept : c.split-other.new.pass.share ≡ c.splits.pass.share - c.splits.pass.share / 2 = ap (λ p. p.share) c.split-other.ensures.kept in
    let half = (halved n c.splits.pass.share (subst (λ (k : ℕ). 2 ^ k ≤ c.splits.pass.share) is here.share)).1 in
    let next : suc (c.args.count - c.splits.left) ≡ c.args.count - n = omega (arith, some, few) in
    record {
      few = omega (arith, few, some);
      free = c.split-other.ensures.free.0;
      others = rw c.push_reserved.ensures.items (all_push (IsFree c.args.cell.now) _ _ here.others c.split-other.ensures.free.1);
      room = (let r = here.room in let l = c.push_reserved.ensures.len in let k = c.push_reserved.ensures.capacity in omega (arith, r, l, k, some));
      share = subst (λ (s : ℕ). 2 ^ n ≤ s) (sym kept) half;
      split = subst (λ (k : ℕ). AreSplitOff c.args.pass.now c.split-other.new.pass c.args.passes.now.items c.push_reserved.new.self.items k) next
          (split_more c.args.pass.now c.splits.pass c.split-other.new.pass c.split-other.result c.args.passes.now.items c.splits.passes.items c.push_reserved.new.self.items (c.args.count - c.splits.left) here.split
          c.split-other.ensures.kept c.split-other.ensures.given c.push_reserved.ensures.items);
    }
