use Rattle.std.proofs.Common.{w64}
use Rattle.std.proofs.lemmas.Int.{to_z-of_z}
use Rattle.dump_lines.proofs.Gathered.{gathered_more}
use Rattle.dump_lines.proofs.Scanned.{counts_few, rows_few}
use Rattle.dump_lines.proofs.table.DumpTableDumpRows.add.Goals as goal

pub add_packet-outcome-requires-clause-position : goal.add_packet-outcome-requires-clause-position
add_packet-outcome-requires-clause-position c =
    let few = c.requires.few in rows_few few.0 c.args.moment c.args.self.now.counts few.1.counted few.2

pub add_packet-outcome-requires-clause-shown : goal.add_packet-outcome-requires-clause-shown
add_packet-outcome-requires-clause-shown c = rw c.make_room.ensures.same c.requires.few.1.shown

pub add-requires : goal.add-requires
add-requires c =
    let few = c.requires.few in
    let small = counts_few few.0 c.args.moment c.args.self.now.counts few.1.counted few.2 in record {
      rows = small.rows;
      packets = small.packets;
      duplicates = small.duplicates;
      idle = small.idle;
    }

pub returns : goal.returns
returns c = λ packets gathered.
    let moment = to_z-of_z w64 c.args.moment c.ranges.moment in
    let added = rw (moment, c.make_room.ensures.same) at c.add_packet-outcome.ensures in
    rw c.add.ensures
    (gathered_more packets c.args.moment c.args.packet c.args.self.now.table.stored c.add_packet-outcome.new.table.stored c.args.self.now.counts gathered c.add_packet-outcome.result added)
