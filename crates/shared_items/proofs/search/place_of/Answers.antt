use Rattle.std.proofs.Common.{◌∙◌, ◌+◌, ◌-◌, ◌/◌, ◌<◌, ℤ, length, sym, ap, arith, w64, to_z, of_z, SFits, rules}
use Rattle.std.specs.Arc.{arc_value}
use Rattle.std.specs.Prelude.{int_lt}
use Rattle.std.proofs.lemmas.Int.{to_z-of_z}
use Rattle.shared_items.proofs.Searching.{below_more_taken, from_dropped}
use Rattle.shared_items.proofs.search.place_of.Goals as goal

pub loop-low-preserved-then-number : goal.loop-low-preserved-then-number
loop-low-preserved-then-number g c =
    let low = c.loop-low.low in
    let high = c.loop-low.high in
    let items = c.args.items.now in
    let found = c.index-items-middle.result in
    let number = to_z w64 (of_z w64 c.args.number) in
    let n = g.T.Numbered.number_of in
    let within : low + (high - low) / 2 < length items = omega (arith, c.loop-low-test.true, c.loop-low.invariant.within) in
    let fits : SFits w64 c.number.result = search rules in
    let is = ap (λ a. n (arc_value a)) (sym c.index-items-middle.is) ∙ ap n (sym c.deref.ensures) ∙ sym c.number.ensures ∙ sym (to_z-of_z w64 c.number.result fits) in
    record {
      order = omega (arith, c.loop-low-test.true);
      within = c.loop-low.invariant.within;
      below = below_more_taken arc_value n number items (low + (high - low) / 2) found within c.requires (ap (λ (z : ℤ). int_lt z number) is ∙ c.if-number.true);
      from = c.loop-low.invariant.from;
    }

pub loop-low-preserved : goal.loop-low-preserved
loop-low-preserved g c =
    let low = c.loop-low.low in
    let high = c.loop-low.high in
    let items = c.args.items.now in
    let found = c.index-items-middle.result in
    let number = to_z w64 (of_z w64 c.args.number) in
    let n = g.T.Numbered.number_of in
    let within : low + (high - low) / 2 < length items = omega (arith, c.loop-low-test.true, c.loop-low.invariant.within) in
    let fits : SFits w64 c.number.result = search rules in
    let is = ap (λ a. n (arc_value a)) (sym c.index-items-middle.is) ∙ ap n (sym c.deref.ensures) ∙ sym c.number.ensures ∙ sym (to_z-of_z w64 c.number.result fits) in
    record {
      order = omega (arith, c.loop-low-test.true);
      within = omega (arith, within);
      below = c.loop-low.invariant.below;
      from = from_dropped arc_value n number items (low + (high - low) / 2) found within c.requires (ap (λ (z : ℤ). int_lt z number) is ∙ c.if-number.false);
    }
