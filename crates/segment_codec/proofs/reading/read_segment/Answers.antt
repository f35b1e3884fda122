use Rattle.std.proofs.Common.{arith}
use Rattle.std.proofs.lemmas.Result.{err_from_is_err_and}
use Rattle.segment_codec.proofs.Places.{at_within, is_memory, is_that, stands_at}
use Rattle.segment_codec.proofs.reading.read_segment.Goals as goal

pub returns-then-octets-at-clause-memory : goal.returns-then-octets-at-clause-memory
returns-then-octets-at-clause-memory c = λ s has. absurd (let le = at_within c.args.octets.now c.args.at s has in let lt = c.if-octets-at.true in omega arith)

pub returns-in_err-segment-clause-memory : goal.returns-in_err-segment-clause-memory
returns-in_err-segment-clause-memory c = λ s has.
    let p = err_from_is_err_and c.from_residual.result c.from_residual.ensures.1 in
    rw (p.1, p.2) (is_memory c.args.octets.now c.split_at.result.1.now c.args.at s _ has c.split_at.ensures.back c.in_err-segment.ensures)

pub overflow_sub-result : goal.overflow_sub-result
overflow_sub-result c =
    (stands_at c.args.octets.now c.split_at.result.1.now c.args.at c.in_ok-segment.segment c.in_ok-segment.rest.now c.if-octets-at.false (λ i. omega (arith, c.type_inv.octets i)) c.split_at.ensures.back c.in_ok-segment.ensures).2

pub returns-clause-found : goal.returns-clause-found
returns-clause-found c =
    (stands_at c.args.octets.now c.split_at.result.1.now c.args.at c.in_ok-segment.segment c.in_ok-segment.rest.now c.if-octets-at.false (λ i. omega (arith, c.type_inv.octets i)) c.split_at.ensures.back c.in_ok-segment.ensures).0

pub returns-clause-end : goal.returns-clause-end
returns-clause-end c =
    (stands_at c.args.octets.now c.split_at.result.1.now c.args.at c.in_ok-segment.segment c.in_ok-segment.rest.now c.if-octets-at.false (λ i. omega (arith, c.type_inv.octets i)) c.split_at.ensures.back c.in_ok-segment.ensures).1

pub returns-clause-same : goal.returns-clause-same
returns-clause-same c = λ s has. is_that c.args.octets.now c.split_at.result.1.now c.args.at c.in_ok-segment.segment c.in_ok-segment.rest.now s has c.split_at.ensures.back c.in_ok-segment.ensures
