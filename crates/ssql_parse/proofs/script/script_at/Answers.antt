use Rattle.std.proofs.Common.{◌∙◌, ap, sym, length, arith}
use Rattle.std.proofs.lemmas.List.{take_rest, length-drop}
use Rattle.ssql_parse.proofs.ScriptLoops.{all_left, ends, exits, is_last, is_wrong, goes_on, is_nil, some_first, some_length, statement_shorter}
use Rattle.ssql_parse.proofs.script.script_at.Goals as goal

pub statements-init : goal.statements-init
statements-init c = rw c.new-statements.ensures (all_left c.args.tokens.now)

pub returns-then-is_empty : goal.returns-then-is_empty
returns-then-is_empty c = ends c.args.tokens.now c.statements.statements c.statements.rest.now c.statements.invariant (is_nil c.statements.rest.now c.is_empty.result c.is_empty.ensures c.if-is_empty.true)

pub returns-in_err-statement : goal.returns-in_err-statement
returns-in_err-statement c =
    let some = some_first c.statements.rest.now c.is_empty.result c.is_empty.ensures c.if-is_empty.false in
    exits c.args.tokens.now c.statements.statements c.statements.rest.now some.0 some.1 some.2 c.from_residual.result _ c.from_residual.ensures.1 c.statements.invariant c.in_err-statement.ensures

pub returns-then-is_empty-2 : goal.returns-then-is_empty-2
returns-then-is_empty-2 c =
    let some = some_first c.statements.rest.now c.is_empty.result c.is_empty.ensures c.if-is_empty.false in
    rw c.in_ok-push.ensures.ok
    (is_last c.args.tokens.now c.statements.statements c.statements.rest.now some.0 some.1 some.2 c.in_ok-statement.statement c.in_ok-statement.later.now c.in_ok-statement.ensures c.statements.invariant
    (is_nil c.in_ok-statement.later.now c.is_empty-in-statements.result c.is_empty-in-statements.ensures c.if-is_empty-2.true))

pub returns-then-not-begins : goal.returns-then-not-begins
returns-then-not-begins c =
    let some = some_first c.statements.rest.now c.is_empty.result c.is_empty.ensures c.if-is_empty.false in
    is_wrong c.args.tokens.now c.statements.statements c.statements.rest.now some.0 some.1 some.2 c.in_ok-statement.statement c.in_ok-statement.later.now c.in_ok-statement.ensures c.statements.invariant
    (sym c.begins.ensures ∙ c.if-not-begins.true) (some_length c.in_ok-statement.later.now c.is_empty-in-statements.result c.is_empty-in-statements.ensures c.if-is_empty-2.false)

pub statements-smaller : goal.statements-smaller
statements-smaller c =
    omega (arith, statement_shorter c.statements.rest.now c.in_ok-statement.statement c.in_ok-statement.later.now c.in_ok-statement.ensures, ap length (take_rest c.in_ok-statement.later.now 1), length-drop 1 c.in_ok-statement.later.now)

pub statements-preserved : goal.statements-preserved
statements-preserved c =
    let some = some_first c.statements.rest.now c.is_empty.result c.is_empty.ensures c.if-is_empty.false in
    rw (c.in_ok-push.ensures.ok, take_rest c.in_ok-statement.later.now 1)
    (goes_on c.args.tokens.now c.statements.statements c.statements.rest.now some.0 some.1 some.2 c.in_ok-statement.statement c.in_ok-statement.later.now c.in_ok-statement.ensures c.statements.invariant
    (sym c.begins.ensures ∙ c.if-not-begins.false) (some_length c.in_ok-statement.later.now c.is_empty-in-statements.result c.is_empty-in-statements.ensures c.if-is_empty-2.false))
