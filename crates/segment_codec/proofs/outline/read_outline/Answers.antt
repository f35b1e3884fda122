use Rattle.std.proofs.Common.{None, arith}
use Rattle.std.proofs.lemmas.Result.{err_from_is_err_and}
use Rattle.segment_codec.proofs.Outlines.{front_is, outline_memory, outline_stands}
use Rattle.segment_codec.proofs.Places.{at_within}
use Rattle.segment_codec.proofs.outline.read_outline.Goals as goal

pub returns-then-octets-at-clause-memory : goal.returns-then-octets-at-clause-memory
returns-then-octets-at-clause-memory c = λ s has. absurd (let le = at_within c.args.octets.now c.args.at s has in let lt = c.if-octets-at.true in omega arith)

pub returns-in_err-parts-clause-memory : goal.returns-in_err-parts-clause-memory
returns-in_err-parts-clause-memory c = λ s has.
    let p = err_from_is_err_and c.from_residual.result c.from_residual.ensures.1 in
    rw (p.1, p.2) (outline_memory c.args.octets.now c.split_at.result.1.now c.args.at s _ has c.split_at.ensures.back c.in_err-parts.ensures)

pub overflow_sub-end : goal.overflow_sub-end
overflow_sub-end c =
    (outline_stands c.args.octets.now c.split_at.result.1.now c.args.at (c.in_ok-parts.parts, c.in_ok-parts.keys) c.in_ok-parts.rest.now None c.if-octets-at.false (λ i. omega (arith, c.type_inv.octets i)) c.split_at.ensures.back c.in_ok-parts.ensures tt).3

pub invariant_of-outline : goal.invariant_of-outline
invariant_of-outline c =
    (outline_stands c.args.octets.now c.split_at.result.1.now c.args.at (c.in_ok-parts.parts, c.in_ok-parts.keys) c.in_ok-parts.rest.now c.kept_keys.result c.if-octets-at.false (λ i. omega (arith, c.type_inv.octets i)) c.split_at.ensures.back c.in_ok-parts.ensures c.kept_keys.ensures).0

pub returns-clause-found : goal.returns-clause-found
returns-clause-found c =
    (outline_stands c.args.octets.now c.split_at.result.1.now c.args.at (c.in_ok-parts.parts, c.in_ok-parts.keys) c.in_ok-parts.rest.now None c.if-octets-at.false (λ i. omega (arith, c.type_inv.octets i)) c.split_at.ensures.back c.in_ok-parts.ensures tt).1

pub returns-clause-end : goal.returns-clause-end
returns-clause-end c =
    (outline_stands c.args.octets.now c.split_at.result.1.now c.args.at (c.in_ok-parts.parts, c.in_ok-parts.keys) c.in_ok-parts.rest.now None c.if-octets-at.false (λ i. omega (arith, c.type_inv.octets i)) c.split_at.ensures.back c.in_ok-parts.ensures tt).2

pub returns-clause-same : goal.returns-clause-same
returns-clause-same c = λ s has. front_is c.args.octets.now c.split_at.result.1.now c.args.at s has c.split_at.ensures.back

pub overflow_sub-end-2 : goal.overflow_sub-end-2
overflow_sub-end-2 c =
    let end =
    (outline_stands c.args.octets.now c.split_at.result.1.now c.args.at (c.in_ok-parts.parts, c.in_ok-parts.keys) c.in_ok-parts.rest.now None c.if-octets-at.false (λ i. omega (arith, c.type_inv.octets i)) c.split_at.ensures.back c.in_ok-parts.ensures tt).2 in
    omega arith
