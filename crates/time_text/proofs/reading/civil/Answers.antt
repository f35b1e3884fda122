use Rattle.std.proofs.Common.{◌≡◌, ℕ, true, List, length, arith, refl, rules}
use Rattle.std.specs.Prelude.{codes}
use Rattle.std.proofs.lemmas.Bool.{and_parts}
use Rattle.time_text.specs.Digits.{has_shape}
use Rattle.time_text.specs.TimeText.{has_civil_shape, is_fraction, civil_of}
use Rattle.time_text.proofs.DigitFacts.{has_shape-length, digits_within}
use Rattle.time_text.proofs.reading.civil.Goals as goal

shape_of : (text fraction : List ℕ) → has_civil_shape text fraction ≡ true → has_shape (codes "0000-00-00T00:00:00") text ≡ true
shape_of text fraction h = (and_parts _ (is_fraction fraction) h).0

length_of : (text fraction : List ℕ) → has_civil_shape text fraction ≡ true → 19 ≡ length text
length_of text fraction h = has_shape-length _ text (shape_of text fraction h)

pub slice_bounds-decimal_value-end : goal.slice_bounds-decimal_value-end
slice_bounds-decimal_value-end c = omega (arith, length_of c.args.text.now c.args.fraction.now c.requires)

pub slice_bounds-decimal_value-end-2 : goal.slice_bounds-decimal_value-end-2
slice_bounds-decimal_value-end-2 c = omega (arith, length_of c.args.text.now c.args.fraction.now c.requires)

pub slice_bounds-decimal_value-end-3 : goal.slice_bounds-decimal_value-end-3
slice_bounds-decimal_value-end-3 c = omega (arith, length_of c.args.text.now c.args.fraction.now c.requires)

pub slice_bounds-decimal_value-end-4 : goal.slice_bounds-decimal_value-end-4
slice_bounds-decimal_value-end-4 c = omega (arith, length_of c.args.text.now c.args.fraction.now c.requires)

pub slice_bounds-decimal_value-end-5 : goal.slice_bounds-decimal_value-end-5
slice_bounds-decimal_value-end-5 c = omega (arith, length_of c.args.text.now c.args.fraction.now c.requires)

pub slice_bounds-decimal_value-end-6 : goal.slice_bounds-decimal_value-end-6
slice_bounds-decimal_value-end-6 c = omega (arith, length_of c.args.text.now c.args.fraction.now c.requires)

pub decimal_value-requires-clause-digits : goal.decimal_value-requires-clause-digits
decimal_value-requires-clause-digits c =
    digits_within (codes "0000-00-00T00:00:00") c.args.text.now 0 4 (shape_of _ _ c.requires) refl

pub decimal_value-requires-2-clause-digits : goal.decimal_value-requires-2-clause-digits
decimal_value-requires-2-clause-digits c =
    digits_within (codes "0000-00-00T00:00:00") c.args.text.now 5 7 (shape_of _ _ c.requires) refl

pub decimal_value-requires-3-clause-digits : goal.decimal_value-requires-3-clause-digits
decimal_value-requires-3-clause-digits c =
    digits_within (codes "0000-00-00T00:00:00") c.args.text.now 8 10 (shape_of _ _ c.requires) refl

pub decimal_value-requires-4-clause-digits : goal.decimal_value-requires-4-clause-digits
decimal_value-requires-4-clause-digits c =
    digits_within (codes "0000-00-00T00:00:00") c.args.text.now 11 13 (shape_of _ _ c.requires) refl

pub decimal_value-requires-5-clause-digits : goal.decimal_value-requires-5-clause-digits
decimal_value-requires-5-clause-digits c =
    digits_within (codes "0000-00-00T00:00:00") c.args.text.now 14 16 (shape_of _ _ c.requires) refl

pub decimal_value-requires-6-clause-digits : goal.decimal_value-requires-6-clause-digits
decimal_value-requires-6-clause-digits c =
    digits_within (codes "0000-00-00T00:00:00") c.args.text.now 17 19 (shape_of _ _ c.requires) refl

pub millis-requires : goal.millis-requires
millis-requires c = (and_parts (has_shape (codes "0000-00-00T00:00:00") c.args.text.now) _ c.requires).1

pub returns-clause-value : goal.returns-clause-value
unfolding civil_of
returns-clause-value c = search rules
