use Rattle.std.proofs.Common.{◌<◌, ◌≡◌, ◌+◌, ◌-◌, length, arith, get_or, take, drop, sym, subst}
use Rattle.std.proofs.lemmas.List.{drop_all}
use Rattle.std.specs.declared.cmp.Ordering.TheVariants.{Equal}
use Rattle.block_map.specs.Rising.{IsAbove, IsBelow}
use Rattle.block_map.proofs.Rising.{above_place, above_next, same_at}
use Rattle.block_map.proofs.search.place_at_end.Goals as goal

pub returns-in-Greater : goal.returns-in-Greater
returns-in-Greater g c =
    let block = c.args.block.now in
    let last = length block - 1 in
    let within : last < length block = omega arith in
    let whole : last + 1 ≡ length block = omega arith in
    let above : IsAbove g.K.Ord.cmp c.args.key (take (last + 1) block) = above_next g.met.K.Ord.total c.args.key block last c.index-block-len.result c.requires within (sym c.in-Greater.ensures) in
    let below : IsBelow g.K.Ord.cmp c.args.key (drop (length block) block) = subst (IsBelow g.K.Ord.cmp c.args.key) (sym (drop_all (length block) block (omega arith))) tt in
    (omega arith, subst (λ n. IsAbove g.K.Ord.cmp c.args.key (take n block)) whole above, below)

pub returns-in-Equal : goal.returns-in-Equal
returns-in-Equal g c =
    let block = c.args.block.now in
    let last = length block - 1 in
    let within : last < length block = omega arith in
    let same : g.K.Ord.cmp c.args.key (get_or block last c.index-block-len.result).0 ≡ Equal = sym c.in-Equal.ensures in
    (within, above_place g.met.K.Ord.total c.args.key block last c.index-block-len.result c.requires within (λ less. cc), λ d. same_at g.K.Ord.cmp c.args.key block last c.index-block-len.result d within same)
