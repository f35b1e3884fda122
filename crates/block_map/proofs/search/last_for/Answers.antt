use Rattle.std.proofs.Common.{◌≡◌, ◌<◌, ◌+◌, ◌-◌, [], length, drop, get_or, arith, ◌∙◌}
use Rattle.std.proofs.lemmas.List.{drop_all}
use Rattle.block_map.proofs.Seams.{above_blocks}
use Rattle.block_map.proofs.search.last_for.Goals as goal

pub returns-in_default : goal.returns-in_default
returns-in_default g c =
    let blocks = c.args.blocks.now in
    let last = length blocks - 1 in
    let d = c.index-blocks-last.result in
    let e = c.index.result.now in
    let within : last < length blocks = omega arith in
    let later : 0 < last = omega arith in
    let some = c.requires.firsts last d later within in
    let same : c.cmp.result ≡ g.K.Ord.cmp c.args.key (get_or (get_or blocks last d).items 0 e).0 = rw (← c.index-blocks-last.is, ← c.index.ensures) c.cmp.ensures in
    let none : drop (last + 1) blocks ≡ [] = drop_all (last + 1) blocks (omega arith) in
    record {
      within = within;
      above = above_blocks g.met.K.Ord.total c.args.key blocks last d e c.requires.rising within some (λ less. c.in_default.not-Less (same ∙ less));
      below = rw none tt;
    }
