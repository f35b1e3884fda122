use Rattle.std.proofs.Common.{◌≡◌, ◌<◌, ◌+◌, length, get_or, set, ◌++◌, ◌∷◌, [], arith, sym, ◌∙◌, ap, subst, append_assoc, length-append}
use Rattle.std.proofs.Math.ListN.{length-set}
use Rattle.std.proofs.lemmas.List.Elements.{All-set}
use Rattle.block_map.specs.Rising.{IsRising}
use Rattle.block_map.specs.Blocks.{IsSized}
use Rattle.block_map.specs.declared.blocks.TheConstants.{MIN_FILL}
use Rattle.block_map.proofs.Neighbours.{after_changed, entries_shared, filled_but, filled_mended}
use Rattle.block_map.proofs.removal.borrow_from_left.Goals as goal

pub returns-in-Some-clause-same : goal.returns-in-Some-clause-same
returns-in-Some-clause-same g c =
    let old = c.args.blocks.now.items in
    let l = c.pop.new.self in
    let r = c.insert.new.self in
    let x = c.index_mut.result.now in
    let y = c.index_mut-in-Some.result.now in
    let x_is = c.index_mut.ensures.value in
    let y_is = after_changed old c.args.left l y x c.requires.within c.index_mut-in-Some.ensures.value in
    let sized = rw (← y_is) at (c.requires.underfull.sized (c.args.left + 1) x c.requires.within) in
    let less = rw (← y_is) at (c.requires.less x) in
    let put = c.insert.ensures.succeeds (omega (arith, y.ok.0, less, sized.1)) in
    let taken = c.in-Some.ensures.items in
    let given = rw put at c.insert.ensures.items in
    let shared : l.items ++ r.items ≡ (get_or old c.args.left x).items ++ (get_or old (c.args.left + 1) x).items =
    rw (← x_is, ← y_is, taken, given) (sym (append_assoc l.items (c.in-Some.entry ∷ []) y.items)) in
    entries_shared old c.args.left x l r c.requires.within shared

pub returns-in-Some-clause-blocks : goal.returns-in-Some-clause-blocks
returns-in-Some-clause-blocks g c =
    let old = c.args.blocks.now.items in
    let l = c.pop.new.self in
    let r = c.insert.new.self in
    let x = c.index_mut.result.now in
    let y = c.index_mut-in-Some.result.now in
    let x_is = c.index_mut.ensures.value in
    let y_is = after_changed old c.args.left l y x c.requires.within c.index_mut-in-Some.ensures.value in
    let here : c.args.left < length old = omega (arith, c.requires.within) in
    let left_sized = rw (← x_is) at (c.requires.underfull.sized c.args.left x here) in
    let right_sized = rw (← y_is) at (c.requires.underfull.sized (c.args.left + 1) x c.requires.within) in
    let more = rw (← x_is) at (c.requires.more x) in
    let less = rw (← y_is) at (c.requires.less x) in
    let underfull = rw (← y_is) at (c.requires.underfull.underfull x (omega arith)) in
    let put = c.insert.ensures.succeeds (omega (arith, y.ok.0, less, right_sized.1)) in
    let taken : length x.items ≡ length l.items + 1 = ap length c.in-Some.ensures.items ∙ length-append l.items (c.in-Some.entry ∷ []) in
    let given : length r.items ≡ length y.items + 1 = omega (arith, ap length (rw put at c.insert.ensures.items)) in
    let left_small : IsSized l = (omega (arith, taken, left_sized.0), omega (arith, c.pop.ensures.capacity, left_sized.1)) in
    let right_small : IsSized r = (omega (arith, given, less), omega (arith, c.insert.ensures.capacity, right_sized.1)) in
    record {
      some = omega (arith, length-set old c.args.left l, length-set (set old c.args.left l) (c.args.left + 1) r, c.requires.underfull.some);
      rising = subst (IsRising g.K.Ord.cmp) (sym (returns-in-Some-clause-same g c)) c.requires.underfull.rising;
      filled = filled_mended MIN_FILL (set old c.args.left l) (c.args.left + 1) r (filled_but MIN_FILL old c.args.left (c.args.left + 1) l c.requires.underfull.filled (λ p. omega (arith, taken, more))) (λ p. omega (arith, given, underfull));
      sized = All-set IsSized (set old c.args.left l) (c.args.left + 1) r right_small (All-set IsSized old c.args.left l left_small c.requires.underfull.sized);
    }
