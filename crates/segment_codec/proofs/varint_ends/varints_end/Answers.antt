use Rattle.std.proofs.Common.{◌≡◌, ◌-◌, ◌+◌, ℕ, suc, Some, subst, arith}
use Rattle.octet_fields.proofs.Exact.{some_is}
use Rattle.segment_codec.specs.VarintEnds.{behind_ends}
use Rattle.segment_codec.proofs.varint_ends.varints_end.Goals as goal

pub loop-preserved : goal.loop-preserved
loop-preserved c = λ after e.
    let left = c.passed_pieces-left.result.0 in
    let one : left - c.loop.counter ≡ suc (left - (c.loop.counter + 1)) = omega arith in
    c.in_ok-rest.ensures (left - (c.loop.counter + 1)) after (subst (λ (n : ℕ). behind_ends c.loop.rest.now n ≡ Some after) one (c.loop.invariant after e))

pub returns : goal.returns
returns c = λ after e.
    let left = c.passed_pieces-left.result.0 in
    let none : left - c.loop.counter ≡ 0 = omega arith in
    some_is c.loop.rest.now after (subst (λ (n : ℕ). behind_ends c.loop.rest.now n ≡ Some after) none (c.loop.invariant after e))
