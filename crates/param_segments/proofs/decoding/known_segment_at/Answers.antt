use Rattle.std.proofs.Common.{◌≡◌, ◌∙◌, ap, true}
use Rattle.std.proofs.lemmas.Result.{err_from_is_err_and}
use Rattle.param_segments.specs.RowPlaces.{are_known_parameters}
use Rattle.param_segments.proofs.decoding.known_segment_at.Goals as goal

pub returns-in_err-parameters-clause-each : goal.returns-in_err-parameters-clause-each
returns-in_err-parameters-clause-each c = λ s has known.
    let p = err_from_is_err_and c.from_residual.result c.from_residual.ensures.1 in
    rw (p.1, p.2) (c.in_err-parameters.ensures.memory s has)

pub returns-then-not-are_known_parameters-clause-each : goal.returns-then-not-are_known_parameters-clause-each
returns-then-not-are_known_parameters-clause-each c = λ s has known. absurd (
    let own : are_known_parameters c.args.mdb.now c.as_slice.result.now ≡ true = ap (are_known_parameters c.args.mdb.now) (c.as_slice.ensures ∙ c.in_ok-parameters.ensures.same s has) ∙ known in
    let told = c.are_known_parameters.ensures in
    let not_so = c.if-not-are_known_parameters.true in
    cc)

pub returns-in_err-segment-clause-each : goal.returns-in_err-segment-clause-each
returns-in_err-segment-clause-each c = λ s has known.
    let p = err_from_is_err_and c.from_residual-in_err-segment.result c.from_residual-in_err-segment.ensures.1 in
    rw (p.1, p.2) (c.in_err-segment.ensures.memory s has)

pub returns-clause-each : goal.returns-clause-each
returns-clause-each c = λ s has known. c.in_ok-segment.ensures.same s has
