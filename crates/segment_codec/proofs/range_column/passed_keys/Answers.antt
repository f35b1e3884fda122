use Rattle.std.proofs.Common.{◌-◌, ◌<◌, ◌^◌, FitsSigned, subst, sym, arith, rules}
use Rattle.std.specs.Int.{w64}
use Rattle.std.proofs.lemmas.Int.{to_z-of_z}
use Rattle.arch_types.specs.declared.key.Key.{Key}
use Rattle.segment_codec.specs.KeyColumn.{key_after, keys_after_at}
use Rattle.segment_codec.specs.RangeColumn.{ArePassed, IsGapTo}
use Rattle.segment_codec.proofs.PassedKeys.{made_key, none_passed, none_summed, one_passed}
use Rattle.segment_codec.proofs.range_column.passed_keys.Goals as goal

pub returns-in_default : goal.returns-in_default
returns-in_default c = record {
  few = omega arith;
  passed = none_passed c.args.from c.args.count c.args.first c.args.octets.now;
}

pub loop-passed-init : goal.loop-passed-init
loop-passed-init c =
    let seq : c.args.first.seq < 2 ^ 32 = search rules in
    record {
      few = omega arith;
      less = omega arith;
      passed = none_summed _ c.args.count c.args.first c.args.octets.now c.in-Some.far seq;
    }

pub loop-passed-preserved : goal.loop-passed-preserved
loop-passed-preserved c =
    let i = c.loop-passed.invariant in
    let low : FitsSigned w64 c.args.from = c.ranges.from in
    let so_far : ArePassed c.args.from c.loop-passed.passed (keys_after_at c.args.count c.args.first c.args.octets.now) (keys_after_at (c.args.count - c.loop-passed.passed) (key_after c.args.first (c.in-Some.far - c.loop-passed.left)) c.loop-passed.rest.now) = simp to_z-of_z at i.passed in
    let is : IsGapTo c.args.from c.args.first c.in-Some.far = simp to_z-of_z at c.in-Some.ensures.gap in
    record {
      few = omega arith;
      less = omega arith;
      passed = simp to_z-of_z (one_passed c.args.from c.args.count c.loop-passed.passed c.args.first c.in-Some.far c.loop-passed.left c.in-Ok.gap.number c.loop-passed.rest.now c.in-Ok.after.now _ low is c.loop-passed-test.true i.less (omega arith) (omega arith) c.in-Ok.ensures so_far);
    }

pub overflow_add-sum : goal.overflow_add-sum
overflow_add-sum c = let near = c.in-Some.ensures.near in omega arith

pub returns-clause-passed : goal.returns-clause-passed
returns-clause-passed c =
    let i = c.loop-passed.invariant in
    let low : FitsSigned w64 c.args.from = c.ranges.from in
    let time : FitsSigned w64 c.args.first.time = search rules in
    let so_far : ArePassed c.args.from c.loop-passed.passed (keys_after_at c.args.count c.args.first c.args.octets.now) (keys_after_at (c.args.count - c.loop-passed.passed) (key_after c.args.first (c.in-Some.far - c.loop-passed.left)) c.loop-passed.rest.now) = simp to_z-of_z at i.passed in
    let is : IsGapTo c.args.from c.args.first c.in-Some.far = simp to_z-of_z at c.in-Some.ensures.gap in
    let key = made_key c.args.from c.args.first c.in-Some.far c.loop-passed.left c.from.result time low is c.in-Some.ensures.near c.from.ensures in
    subst (λ (k : Key). ArePassed c.args.from c.loop-passed.passed (keys_after_at c.args.count c.args.first c.args.octets.now) (keys_after_at (c.args.count - c.loop-passed.passed) k c.loop-passed.rest.now)) (sym key) so_far
