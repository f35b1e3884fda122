use Rattle.std.proofs.Common.{length, ap, arith}
use Rattle.partitions.proofs.Chains.{few_below}
use Rattle.partitions.proofs.partitions.Partitions.row_count.Goals as goal

pub loop-count-init : goal.loop-count-init
loop-count-init c =
    let noted = c.args.self.now.noted in
    record {
      counted = omega arith;
      short = omega (arith, ap length c.places_of-places.ensures, few_below (length noted) c.args.partition noted, c.has_places.ensures);
    }
