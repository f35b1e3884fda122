use Rattle.std.proofs.Common.{◌≢◌, sym, ◌<◌, ◌*◌, ◌-◌, length, ap, ◌∙◌, arith, rules, length-drop}
use Rattle.std.proofs.lemmas.Bool.{eqb-false}
use Rattle.std.proofs.lemmas.Grind.{common_steps}
use Rattle.text_forms.specs.Digits.{decimal_value}
use Rattle.time_text.specs.TimeText.{millis_in}
use Rattle.time_text.proofs.ReadingFacts.{IsFraction-from_test, tail_is, millis_in-product, below_second, below_thousand}
use Rattle.time_text.proofs.reading.millis.Goals as goal

pub returns-then-is_empty-clause-value : goal.returns-then-is_empty-clause-value
unfolding millis_in
returns-then-is_empty-clause-value c = grind (arith, common_steps)

pub decimal_value-requires-clause-few : goal.decimal_value-requires-clause-few
decimal_value-requires-clause-few c =
    let is = IsFraction-from_test c.args.fraction.now c.requires in
    rw (tail_is c.args.fraction.now) (omega (arith, length-drop 1 c.args.fraction.now))

pub decimal_value-requires-clause-digits : goal.decimal_value-requires-clause-digits
decimal_value-requires-clause-digits c =
    rw (tail_is c.args.fraction.now) (IsFraction-from_test c.args.fraction.now c.requires).digits

pub overflow_cast-result : goal.overflow_cast-result
overflow_cast-result c =
    let is = IsFraction-from_test c.args.fraction.now c.requires in
    let bound = rw (tail_is c.args.fraction.now, length-drop 1 c.args.fraction.now) at c.decimal_value.ensures.bound in
    let less = below_thousand c.decimal_value.result (length c.args.fraction.now - 1) bound (omega arith) in
    search (rules, arith)

not_empty : (c : goal.After-decimal_value) → length c.args.fraction.now ≢ 0
not_empty c = eqb-false _ _ (sym c.is_empty.ensures ∙ c.if-is_empty.false)

pub last_place-requires-clause-some : goal.last_place-requires-clause-some
last_place-requires-clause-some c =
    let is = IsFraction-from_test c.args.fraction.now c.requires in
    omega (arith, not_empty c)

pub last_place-requires-clause-few : goal.last_place-requires-clause-few
last_place-requires-clause-few c =
    let is = IsFraction-from_test c.args.fraction.now c.requires in
    omega arith

below : (c : goal.After-last_place) → c.decimal_value.result * c.last_place.result < 1_000
below c =
    let is = IsFraction-from_test c.args.fraction.now c.requires in
    let some : length c.args.fraction.now ≢ 0 = eqb-false _ _ (sym c.is_empty.ensures ∙ c.if-is_empty.false) in
    let bound = rw (tail_is c.args.fraction.now, length-drop 1 c.args.fraction.now) at c.decimal_value.ensures.bound in
    rw c.last_place.ensures (below_second c.decimal_value.result (length c.args.fraction.now - 1) bound (omega arith) (omega arith))

pub overflow_mul-result : goal.overflow_mul-result
overflow_mul-result c =
    let less = below c in
    search (rules, arith)

pub returns-clause-value : goal.returns-clause-value
returns-clause-value c =
    let some : length c.args.fraction.now ≢ 0 = eqb-false _ _ (sym c.is_empty.ensures ∙ c.if-is_empty.false) in
    millis_in-product c.args.fraction.now c.decimal_value.result c.last_place.result (omega arith) (c.decimal_value.ensures.value ∙ ap decimal_value (tail_is c.args.fraction.now)) c.last_place.ensures

pub returns-clause-bound : goal.returns-clause-bound
returns-clause-bound c = below c
