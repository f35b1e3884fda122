use Rattle.std.proofs.Common.{arith}
use Rattle.std.proofs.lemmas.Result.{err_from_is_err_and}
use Rattle.segment_codec.proofs.Places.{are_those, at_within, parameters_memory}
use Rattle.segment_codec.proofs.parameters.read_parameters.Goals as goal

pub returns-then-octets-at-clause-memory : goal.returns-then-octets-at-clause-memory
returns-then-octets-at-clause-memory c = λ s has. absurd (let le = at_within c.args.octets.now c.args.at s has in let lt = c.if-octets-at.true in omega arith)

pub returns-in_err-parameters-clause-memory : goal.returns-in_err-parameters-clause-memory
returns-in_err-parameters-clause-memory c = λ s has.
    let p = err_from_is_err_and c.from_residual.result c.from_residual.ensures.1 in
    rw (p.1, p.2) (parameters_memory c.args.octets.now c.split_at.result.1.now c.args.at s _ has c.split_at.ensures.back c.in_err-parameters.ensures)

pub returns-clause-same : goal.returns-clause-same
returns-clause-same c = λ s has. are_those c.args.octets.now c.split_at.result.1.now c.args.at s _ has c.split_at.ensures.back c.in_ok-parameters.ensures
