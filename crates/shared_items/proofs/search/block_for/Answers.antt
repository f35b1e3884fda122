use Rattle.std.proofs.Common.{◌∙◌, ◌+◌, ◌-◌, ◌/◌, ◌<◌, length, sym, ap, subst, arith, w64, to_z, of_z}
use Rattle.std.specs.Arc.{arc_value}
use Rattle.shared_items.proofs.Searching.{before_block, behind_block, has_items}
use Rattle.shared_items.proofs.search.block_for.Goals as goal

pub begins_above-requires : goal.begins_above-requires
begins_above-requires g c =
    let low = c.loop-high.low in
    let high = c.loop-high.high in
    let blocks = c.args.blocks.now in
    let found = c.index-blocks-middle.result in
    let within : low + (high - low) / 2 < length blocks = omega (arith, c.loop-high-test.true, c.loop-high.invariant.within) in
    let is = ap arc_value (sym c.index-blocks-middle.is) ∙ sym c.deref.ensures in
    subst (λ b. 0 < length b) is (has_items arc_value g.T.Numbered.number_of c.args.number blocks (low + (high - low) / 2) found within c.requires.blocks.0)

pub loop-high-preserved-then-begins_above : goal.loop-high-preserved-then-begins_above
loop-high-preserved-then-begins_above g c =
    let low = c.loop-high.low in
    let high = c.loop-high.high in
    let blocks = c.args.blocks.now in
    let found = c.index-blocks-middle.result in
    let number = to_z w64 (of_z w64 c.args.number) in
    let within : low + (high - low) / 2 < length blocks = omega (arith, c.loop-high-test.true, c.loop-high.invariant.within) in
    let is = ap arc_value (sym c.index-blocks-middle.is) ∙ sym c.deref.ensures in
    record {
      order = omega (arith, c.loop-high-test.true);
      within = omega (arith, within);
      before = c.loop-high.invariant.before;
      behind = behind_block arc_value g.T.Numbered.number_of number blocks (low + (high - low) / 2) found within c.requires.blocks
          (λ x xs there. sym (c.begins_above.ensures x xs (sym is ∙ there)) ∙ c.if-begins_above.true);
    }

pub loop-high-preserved : goal.loop-high-preserved
loop-high-preserved g c =
    let low = c.loop-high.low in
    let high = c.loop-high.high in
    let blocks = c.args.blocks.now in
    let found = c.index-blocks-middle.result in
    let number = to_z w64 (of_z w64 c.args.number) in
    let within : low + (high - low) / 2 < length blocks = omega (arith, c.loop-high-test.true, c.loop-high.invariant.within) in
    let is = ap arc_value (sym c.index-blocks-middle.is) ∙ sym c.deref.ensures in
    record {
      order = omega (arith, c.loop-high-test.true);
      within = c.loop-high.invariant.within;
      before = before_block arc_value g.T.Numbered.number_of number blocks (low + (high - low) / 2) found within c.requires.blocks
          (λ x xs there. sym (c.begins_above.ensures x xs (sym is ∙ there)) ∙ c.if-begins_above.false);
      behind = c.loop-high.invariant.behind;
    }
