use Rattle.std.proofs.Common.{[], ◌∷◌, ◌++◌, map, ap, ◌∙◌, rules}
use Rattle.std.specs.Prelude.{ℤ}
use Rattle.std.proofs.lemmas.Int.{to_z-of_z}
use mir.Syntax.{w64}
use Rattle.ssql_types.specs.declared.columns.ColumnKind.TheVariants as k
use Rattle.ssql_types.specs.Faults.{literal_fault}
use Rattle.ssql_types.specs.Literals.{literal_number}
use Rattle.ssql_types.specs.Faults.{listed_faults}
use Rattle.ssql_types.proofs.Joined.{hands_on}
use Rattle.ssql_types.proofs.Lists.{token_stops, token_goes_on, tokens_end}
use Rattle.ssql_types.proofs.predicate.numbers_at.Goals as goal

pub returns-in_err-number : goal.returns-in_err-number
returns-in_err-number c =
    hands_on (λ x. (x.0, x.1.now)) c.from_residual.result _ (listed_faults (literal_fault (k.Number c.args.column)) c.args.literals.now) c.args.places.now (map (literal_number) c.args.literals.now) c.from_residual.ensures.1
    (token_stops (literal_fault (k.Number c.args.column)) (literal_number) c.args.literals.now c.args.places.now c.loop-literal.numbers c.loop-literal.literal-index c.literal-item.result c.loop-literal.rest.now _
    c.loop-literal-test.true c.literal-item.is c.loop-literal.invariant c.in_err-number.ensures)

pub loop-literal-preserved : goal.loop-literal-preserved
loop-literal-preserved c =
    token_goes_on (literal_fault (k.Number c.args.column)) (literal_number) c.args.literals.now c.args.places.now c.loop-literal.numbers c.loop-literal.literal-index c.literal-item.result c.loop-literal.rest.now
    c.in_ok-number.number c.in_ok-number.later.now _ _ c.loop-literal-test.true c.literal-item.is c.loop-literal.invariant c.in_ok-number.ensures
    (c.in_ok-push.ensures.ok ∙ ap (λ (n : ℤ). c.loop-literal.numbers ++ n ∷ []) (to_z-of_z w64 c.in_ok-number.number (search rules))) c.behind-rest.ensures

pub returns : goal.returns
returns c =
    tokens_end (literal_fault (k.Number c.args.column)) (literal_number) c.args.literals.now c.args.places.now c.loop-literal.numbers c.loop-literal.literal-index c.loop-literal.rest.now c.loop-literal-test.false c.loop-literal.invariant
