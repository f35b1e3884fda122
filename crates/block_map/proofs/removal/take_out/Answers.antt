use Rattle.std.proofs.Common.{◌≡◌, ◌+◌, get_or, take, drop, ◌++◌, arith}
use Rattle.std.proofs.Math.ListN.{length-set}
use Rattle.std.proofs.lemmas.List.Elements.{All-set}
use Rattle.std.proofs.lemmas.List.{get_or-set_same}
use Rattle.block_map.specs.Blocks.{IsSized}
use Rattle.block_map.specs.declared.blocks.TheConstants.{MIN_FILL}
use Rattle.block_map.proofs.Neighbours.{filled_thinned}
use Rattle.block_map.proofs.Removals.{entries_taken, rising_taken, length_taken}
use Rattle.block_map.proofs.removal.take_out.Goals as goal

pub returns-clause-entries : goal.returns-clause-entries
returns-clause-entries g c =
    let old = c.args.blocks.now.items in
    let d = c.index_mut.result.now in
    let e = c.remove.result in
    let there = c.index_mut.ensures.value in
    let at = c.requires.at d in
    let w = c.remove.new.self in
    let is : w.items ≡ take c.args.at (get_or old c.args.b d).items ++ drop (c.args.at + 1) (get_or old c.args.b d).items = rw (← there) c.remove.ensures.by_index.2 in
    entries_taken g.K.Ord.cmp old c.args.b c.args.at d w e c.args.key c.requires.place.within at.0 is c.requires.place.above at.1 (at.2 e)

pub returns-clause-counted : goal.returns-clause-counted
returns-clause-counted g c =
    let old = c.args.blocks.now.items in
    let d = c.index_mut.result.now in
    let e = c.remove.result in
    let there = c.index_mut.ensures.value in
    let at = c.requires.at d in
    let w = c.remove.new.self in
    let is : w.items ≡ take c.args.at (get_or old c.args.b d).items ++ drop (c.args.at + 1) (get_or old c.args.b d).items = rw (← there) c.remove.ensures.by_index.2 in
    length_taken g.K.Ord.cmp old c.args.b c.args.at d w e c.args.key c.requires.place.within at.0 is c.requires.place.above at.1 (at.2 e)

pub returns-clause-underfull : goal.returns-clause-underfull
returns-clause-underfull g c =
    let old = c.args.blocks.now.items in
    let d = c.index_mut.result.now in
    let e = c.remove.result in
    let there = c.index_mut.ensures.value in
    let at = c.requires.at d in
    let w = c.remove.new.self in
    let is : w.items ≡ take c.args.at (get_or old c.args.b d).items ++ drop (c.args.at + 1) (get_or old c.args.b d).items = rw (← there) c.remove.ensures.by_index.2 in
    let len = w.ok.0 in
    let was = d.ok.0 in
    let sized = rw (← there) at (c.requires.blocks.sized c.args.b d c.requires.place.within) in
    let small : IsSized w = (omega (arith, len, was, c.remove.ensures.len, sized.0), omega (arith, c.remove.ensures.capacity, sized.1)) in
    record {
      some = omega (arith, length-set old c.args.b w, c.requires.blocks.some);
      rising = rising_taken g.K.Ord.cmp old c.args.b c.args.at d w e c.args.key c.requires.place.within at.0 is c.requires.place.above at.1 (at.2 e) c.requires.blocks.rising;
      filled = filled_thinned MIN_FILL old c.args.b w c.requires.blocks.filled;
      underfull = λ x p. (let f = rw (← there) at (c.requires.blocks.filled c.args.b d p c.requires.place.within) in rw (get_or-set_same old c.args.b w x c.requires.place.within) (omega (arith, len, was, c.remove.ensures.len, f)));
      sized = All-set IsSized old c.args.b w small c.requires.blocks.sized;
    }
