use Rattle.std.proofs.Common.{length, ap, sym, ◌∙◌, arith}
use Rattle.std.proofs.lemmas.List.{take_rest, length-drop}
use Rattle.ssql_parse.specs.Pieces.{as_name}
use Rattle.ssql_parse.proofs.Loops.{list_exits, list_ends, list_goes_on, taken_shorter}
use Rattle.ssql_parse.proofs.query.name_list.Goals as goal

pub returns-in_err-item : goal.returns-in_err-item
returns-in_err-item c = list_exits as_name c.args.tokens.now c.names.items c.names.rest.now c.names.invariant (λ x. (x.0, x.1.now)) c.from_residual.result _ c.from_residual.ensures.1 c.in_err-item.ensures

pub returns-then-not-begins : goal.returns-then-not-begins
returns-then-not-begins c = list_ends as_name c.args.tokens.now c.names.items c.names.rest.now c.names.invariant c.in_ok-item.item c.in_ok-item.later.now _ c.in_ok-item.ensures (sym c.begins.ensures ∙ c.if-not-begins.true) c.in_ok-push.ensures.ok

pub names-smaller : goal.names-smaller
names-smaller c = omega (arith, taken_shorter as_name c.names.rest.now c.in_ok-item.item c.in_ok-item.later.now c.in_ok-item.ensures, ap length (take_rest c.in_ok-item.later.now 1), length-drop 1 c.in_ok-item.later.now)

pub names-preserved : goal.names-preserved
names-preserved c = list_goes_on as_name c.args.tokens.now c.names.items c.names.rest.now c.names.invariant c.in_ok-item.item c.in_ok-item.later.now _ _ c.in_ok-item.ensures (sym c.begins.ensures ∙ c.if-not-begins.false) c.in_ok-push.ensures.ok (take_rest c.in_ok-item.later.now 1)
