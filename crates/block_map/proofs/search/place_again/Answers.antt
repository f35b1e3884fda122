use Rattle.std.proofs.Common.{◌≡◌, ◌<◌, length, get_or, sym}
use Rattle.std.specs.declared.cmp.Ordering.TheVariants.{Equal}
use Rattle.block_map.proofs.Rising.{above_place, same_at}
use Rattle.block_map.proofs.search.place_again.Goals as goal

pub returns-in-Equal : goal.returns-in-Equal
returns-in-Equal g c =
    let again = c.args.again in
    let d = c.index-block-again.result in
    let same : g.K.Ord.cmp c.args.key (get_or c.args.block.now again d).0 ≡ Equal = sym c.in-Equal.ensures in
    let within : again < length c.args.block.now = c.if-again-block.true in
    (within, above_place g.met.K.Ord.total c.args.key c.args.block.now again d c.requires within (λ less. cc), λ e. same_at g.K.Ord.cmp c.args.key c.args.block.now again d e within same)
