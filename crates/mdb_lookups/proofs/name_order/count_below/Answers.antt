use Rattle.std.proofs.Common.{◌∙◌, ◌<◌, ◌+◌, ◌-◌, ◌/◌, List, length, map, sym, arith}
use Rattle.mdb_items.specs.Texts.{Text}
use Rattle.mdb_lookups.proofs.NamesInOrder.{above_too, below_too}
use Rattle.mdb_lookups.proofs.name_order.count_below.Goals as goal

pub loop-low-preserved-then-is_below : goal.loop-low-preserved-then-is_below
loop-low-preserved-then-is_below g c =
    let names : List Text = map g.T.Named.name_of c.args.items.now in
    let m = c.loop-low.low + (c.loop-low.high - c.loop-low.low) / 2 in
    let kept = c.loop-low.invariant in
    let high = kept.1 in
    let near : m < c.loop-low.high = omega arith in
    let lt : m < length c.args.order.now = omega (arith, near, high) in
    (omega (arith, near), high, below_too names c.args.order.now c.args.name.now c.requires m lt (sym c.is_below.ensures ∙ c.if-is_below.true), kept.3)

pub loop-low-preserved : goal.loop-low-preserved
loop-low-preserved g c =
    let names : List Text = map g.T.Named.name_of c.args.items.now in
    let m = c.loop-low.low + (c.loop-low.high - c.loop-low.low) / 2 in
    let kept = c.loop-low.invariant in
    let high = kept.1 in
    let near : m < c.loop-low.high = omega arith in
    let lt : m < length c.args.order.now = omega (arith, near, high) in
    (omega arith, omega (arith, near, high), kept.2, above_too names c.args.order.now c.args.name.now c.requires m lt (sym c.is_below.ensures ∙ c.if-is_below.false))
