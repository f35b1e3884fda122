use Rattle.std.proofs.Common.{arith, ap, ◌∙◌, Ok}
use Rattle.ssql_parse.proofs.Loops.{exits, is_done, goes_on, shorter}
use Rattle.ssql_parse.proofs.condition.pieces.Goals as goal

pub returns-in_err-found : goal.returns-in_err-found
returns-in_err-found c = exits c.args.tokens.now c.pieces.pieces c.pieces.place.before c.pieces.place.opened c.pieces.rest.now (λ x. (x.0, x.1.now)) c.from_residual.result _ c.from_residual.ensures.1 c.pieces.invariant c.in_err-found.ensures

pub returns-in-None : goal.returns-in-None
returns-in-None c = is_done c.args.tokens.now c.pieces.pieces c.pieces.place.before c.pieces.place.opened c.pieces.rest.now c.pieces.invariant c.in_ok-found.later.now (c.in_ok-found.ensures ∙ ap (λ o. Ok (o, c.in_ok-found.later.now)) c.in-None.is)

pub pieces-smaller : goal.pieces-smaller
pieces-smaller c = omega (arith, shorter c.pieces.place.before c.pieces.place.opened c.pieces.rest.now c.in-Some.piece c.in_ok-found.later.now (c.in_ok-found.ensures ∙ ap (λ o. Ok (o, c.in_ok-found.later.now)) c.in-Some.is))

pub pieces-preserved : goal.pieces-preserved
pieces-preserved c =
    rw (c.in_ok-push-in-Some.ensures.ok, c.behind-place.ensures.before, c.behind-place.ensures.opened)
    (goes_on c.args.tokens.now c.pieces.pieces c.pieces.place.before c.pieces.place.opened c.pieces.rest.now c.pieces.invariant c.in-Some.piece c.in_ok-found.later.now (c.in_ok-found.ensures ∙ ap (λ o. Ok (o, c.in_ok-found.later.now)) c.in-Some.is))
