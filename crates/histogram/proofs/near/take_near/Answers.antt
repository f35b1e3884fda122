use Rattle.std.proofs.Common.{◌≡◌, ◌∙◌, Some, length, FitsSigned, w64, arith, rules, refl, sym, ap}
use Rattle.std.specs.BTreeMap.{is_at}
use Rattle.std.proofs.lemmas.Int.{ints, clamps, to_z-of_z}
use Rattle.block_map.specs.Index.{Listing}
use Rattle.block_map.proofs.KeyedLists.{rising-remove_entry}
use Rattle.histogram.specs.declared.histogram.NamedTime.{NamedTime}
use Rattle.histogram.specs.declared.near.SpanStart.{SpanStart}
use Rattle.histogram.specs.Times.{named_time_cmp}
use Rattle.histogram.specs.SpanEntries.{last_key}
use Rattle.histogram.proofs.Entries.{taken, clear_first}
use Rattle.histogram.proofs.near.take_near.Goals as goal

pub loop-near-init : goal.loop-near-init
loop-near-init c = record {
  own = refl;
  others = λ _ _. refl;
  rising = c.requires.rising;
  whole = c.requires.whole;
  clear = clear_first c.args.pname c.args.at c.args.at refl c.args.index.now.entries c.requires.whole;
  ordered = c.requires.ordered;
  holds = omega (arith, ints);
  counted = refl;
  room = omega arith;
}

pub joined-span-requires : goal.joined-span-requires
joined-span-requires c =
    let inv = c.loop-near.invariant in
    let t = taken c.args.pname c.args.at c.loop-near.span c.in-Some.near c.loop-near.index.entries inv.rising inv.whole inv.clear (sym c.in-Some.ensures) in
    omega (arith, t.counted, inv.counted, c.requires.small)

pub loop-near-smaller : goal.loop-near-smaller
loop-near-smaller c =
    let inv = c.loop-near.invariant in
    let t = taken c.args.pname c.args.at c.loop-near.span c.in-Some.near c.loop-near.index.entries inv.rising inv.whole inv.clear (sym c.in-Some.ensures) in
    let fits : FitsSigned w64 c.in-Some.near.last = search rules in
    let last = to_z-of_z w64 c.in-Some.near.last fits in
    let some : c.remove.result ≡ Some t.found.0 = (rw last at c.remove.ensures.found) ∙ t.found.1 in
    let removed = rw some at (rw last at c.remove.ensures.removed) in
    omega (arith, ap (λ (l : Listing NamedTime SpanStart). length l.entries) removed, t.shorter)

pub loop-near-preserved : goal.loop-near-preserved
loop-near-preserved c =
    let inv = c.loop-near.invariant in
    let t = taken c.args.pname c.args.at c.loop-near.span c.in-Some.near c.loop-near.index.entries inv.rising inv.whole inv.clear (sym c.in-Some.ensures) in
    let fits : FitsSigned w64 c.in-Some.near.last = search rules in
    let last = to_z-of_z w64 c.in-Some.near.last fits in
    let some : c.remove.result ≡ Some t.found.0 = (rw last at c.remove.ensures.found) ∙ t.found.1 in
    let removed = rw some at (rw last at c.remove.ensures.removed) in
    rw (removed, c.joined-span.ensures) (record {
      own = t.own ∙ inv.own;
      others = λ other ne. t.others other ne ∙ inv.others other ne;
      rising = rising-remove_entry (is_at (named_time_cmp (last_key c.args.pname c.in-Some.near))) named_time_cmp c.loop-near.index.entries inv.rising;
      whole = t.whole;
      clear = t.clear;
      ordered = omega (arith, ints, clamps, inv.ordered, t.ordered);
      holds = omega (arith, ints, clamps, inv.holds);
      counted = omega (arith, t.counted, inv.counted);
      room = omega (arith, inv.room);
    })
