use Rattle.std.proofs.Common.{◌≡◌, ◌<◌, ◌≤◌, ◌+◌, length, get_or, set, take, drop, ◌++◌, ◌∷◌, [], suc, arith, sym, ◌∙◌, ap, subst, length-append, vec_capacity}
use Rattle.std.specs.Prelude.{remove}
use Rattle.std.proofs.Math.ListN.{length-set}
use Rattle.std.proofs.lemmas.List.Edits.{length-remove}
use Rattle.std.proofs.lemmas.List.Elements.{All-set, All-append, All-cons, All-nil, All-take, All-drop}
use Rattle.std.specs.Global.{Vec}
use Rattle.block_map.specs.Rising.{IsRising}
use Rattle.block_map.specs.Blocks.{entries_of, IsSized}
use Rattle.block_map.specs.declared.blocks.TheConstants.{MIN_FILL, CAPACITY}
use Rattle.block_map.proofs.Counted.{filled_set}
use Rattle.block_map.proofs.Neighbours.{before_removed, entries_joined, filled_removed}
use Rattle.block_map.proofs.removal.merge.Goals as goal

pub returns-clause-same : goal.returns-clause-same
returns-clause-same g c =
    let old = c.args.blocks.now.items in
    let right = c.remove-right.result in
    let x = c.index_mut.result.now in
    let w = c.append.new.self in
    let here : c.args.left < length old = omega (arith, c.requires.within) in
    let gone = c.remove-right.ensures.items in
    let right_is = c.remove-right.ensures.value in
    let x_is = before_removed old c.remove-right.new.self.items c.args.left x right c.remove-right.ensures.items c.requires.within c.index_mut.ensures.value in
    let sized = rw (← x_is) at (c.requires.underfull.sized c.args.left right here) in
    let fit = rw (← x_is, ← right_is) at (c.requires.fit right) in
    let appended = c.append.ensures.succeeds (omega (arith, x.ok.0, right.ok.0, fit, sized.1)) in
    let is = rw appended at c.append.ensures.items in
    let joined : w.items ≡ (get_or old c.args.left right).items ++ (get_or old (c.args.left + 1) right).items = rw (← x_is, ← right_is) is in
    ap (λ (l : _). entries_of (set l c.args.left w)) gone ∙ entries_joined old c.args.left right w c.requires.within joined

pub returns-clause-ready : goal.returns-clause-ready
returns-clause-ready g c =
    let old = c.args.blocks.now.items in
    let right = c.remove-right.result in
    let x = c.index_mut.result.now in
    let here : c.args.left < length old = omega (arith, c.requires.within) in
    let right_is = c.remove-right.ensures.value in
    let x_is = before_removed old c.remove-right.new.self.items c.args.left x right c.remove-right.ensures.items c.requires.within c.index_mut.ensures.value in
    let sized = rw (← x_is) at (c.requires.underfull.sized c.args.left right here) in
    let fit = rw (← x_is, ← right_is) at (c.requires.fit right) in
    let appended = c.append.ensures.succeeds (omega (arith, x.ok.0, right.ok.0, fit, sized.1)) in
    let emptied = rw appended at c.append.ensures.other_items in
    let has_room = rw (← right_is) at (c.requires.underfull.sized (c.args.left + 1) right c.requires.within) in
    let P : Vec (g.row.K.Denot × g.row.V.Denot) → Type 0 = λ b. (b.items ≡ []) × (CAPACITY ≤ vec_capacity b) in
    rw c.push_reserved.ensures.items
    (All-append P c.args.spare.now.items (c.append.new.other ∷ []) c.requires.ready (All-cons P c.append.new.other [] (emptied, omega (arith, c.append.ensures.other_capacity, has_room.1)) (All-nil P)))

pub returns-clause-blocks : goal.returns-clause-blocks
returns-clause-blocks g c =
    let old = c.args.blocks.now.items in
    let right = c.remove-right.result in
    let x = c.index_mut.result.now in
    let w = c.append.new.self in
    let rest = remove old (c.args.left + 1) in
    let here : c.args.left < length old = omega (arith, c.requires.within) in
    let gone = c.remove-right.ensures.items in
    let right_is = c.remove-right.ensures.value in
    let x_is = before_removed old c.remove-right.new.self.items c.args.left x right c.remove-right.ensures.items c.requires.within c.index_mut.ensures.value in
    let sized = rw (← x_is) at (c.requires.underfull.sized c.args.left right here) in
    let fit = rw (← x_is, ← right_is) at (c.requires.fit right) in
    let appended = c.append.ensures.succeeds (omega (arith, x.ok.0, right.ok.0, fit, sized.1)) in
    let len : length w.items ≡ length x.items + length right.items = ap length (rw appended at c.append.ensures.items) ∙ length-append x.items right.items in
    let fewer = length-remove old (c.args.left + 1) c.requires.within in
    let within : c.args.left < length rest = omega (arith, fewer, c.requires.within) in
    let more : 0 < c.args.left → MIN_FILL ≤ length w.items = λ p. (let f = rw (← x_is) at (c.requires.underfull.filled c.args.left right p here (λ e. omega (arith, e))) in omega (arith, len, f)) in
    let small : IsSized w = (omega (arith, len, fit), omega (arith, c.append.ensures.capacity, sized.1)) in
    let all = c.requires.underfull.sized in
    record {
      some = rw gone (omega (arith, length-set rest c.args.left w, within));
      rising = subst (IsRising g.K.Ord.cmp) (sym (returns-clause-same g c)) c.requires.underfull.rising;
      filled = rw gone (filled_set MIN_FILL rest c.args.left w (filled_removed MIN_FILL old (c.args.left + 1) c.requires.within c.requires.underfull.filled) within more);
      sized = rw gone (All-set IsSized rest c.args.left w small (All-append IsSized (take (c.args.left + 1) old) (drop (suc (c.args.left + 1)) old) (All-take IsSized (c.args.left + 1) old all) (All-drop IsSized (suc (c.args.left + 1)) old all)));
    }
