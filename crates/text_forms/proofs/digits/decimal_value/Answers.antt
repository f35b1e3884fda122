use Rattle.std.proofs.Common.{arith}
use Rattle.text_forms.proofs.DigitFacts.{digit_at, decimal_value_more, pow_next}
use Rattle.text_forms.proofs.Powers.{digits_small}
use Rattle.text_forms.proofs.digits.decimal_value.Goals as goal

pub overflow_mul-value : goal.overflow_mul-value
overflow_mul-value c =
    let small = digits_small c.loop-digit.value c.loop-digit.digit-index 19 c.loop-digit.invariant.small (omega arith) in
    omega arith

pub overflow_add-value : goal.overflow_add-value
overflow_add-value c =
    let small = digits_small c.loop-digit.value c.loop-digit.digit-index 19 c.loop-digit.invariant.small (omega arith) in
    omega (arith, digit_at c.args.digits.now c.loop-digit.digit-index (omega arith) c.requires.digits)

pub loop-digit-preserved : goal.loop-digit-preserved
loop-digit-preserved c =
    let digit = digit_at c.args.digits.now c.loop-digit.digit-index (omega arith) c.requires.digits in
    record {
      value = omega (arith, decimal_value_more c.args.digits.now c.loop-digit.digit-index (omega arith));
      small = omega (arith, pow_next c.loop-digit.digit-index);
    }
