use Rattle.std.proofs.Common.{w64}
use Rattle.std.proofs.lemmas.Int.{to_z-of_z}
use Rattle.dump_lines.proofs.Scanned.{counts_few, counts_more}
use Rattle.dump_lines.proofs.index.DumpIndexDumpRows.add.Goals as goal

pub add-requires : goal.add-requires
add-requires c =
    let few = c.requires.few in
    let small = counts_few few.0 c.args.moment c.args.self.now.counts few.1.counted few.2 in record {
      rows = small.rows;
      packets = small.packets;
      duplicates = small.duplicates;
      idle = small.idle;
    }

pub returns : goal.returns
returns c = λ packets are.
    let moment = to_z-of_z w64 c.args.moment c.ranges.moment in
    let puts = rw moment at c.in_ok-outcome.ensures in
    let put = puts packets are.entries_are in record {
      entries_are = put.1;
      counted = rw c.add.ensures (counts_more packets c.args.moment c.args.packet c.args.self.now.counts are.counted c.in_ok-outcome.outcome put.0);
    }
