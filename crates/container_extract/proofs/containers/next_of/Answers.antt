use Rattle.std.proofs.Common.{◌≡◌, true, ap, arith, length, rules}
use Rattle.std.specs.List.{list_all}
use Rattle.container_extract.specs.Values.{fits}
use Rattle.container_extract.proofs.Placed.{of_path}
use Rattle.container_extract.proofs.Taking.{entries_are, entries_known}
use Rattle.container_extract.proofs.containers.next_of.Goals as goal

pub take_entries-requires : goal.take_entries-requires
take_entries-requires c = record {
  known = entries_known c.args.mdb.now c.args.number c.container.result.now c.as_slice-entries.result.now c.requires.sound c.container.ensures c.as_slice-entries.ensures;
  room = omega (arith, c.requires.room, ap length (entries_are c.args.mdb.now c.args.number c.container.result.now c.as_slice-entries.result.now c.container.ensures c.as_slice-entries.ensures));
}

pub first_child-requires-clause-path : goal.first_child-requires-clause-path
first_child-requires-clause-path c =
    let db = c.args.mdb.now in
    let packet = c.args.packet.now in
    let es = c.as_slice-entries.result.now in
    let all : list_all (fits db packet) es ≡ true = search rules in
    of_path db packet c.args.number c.args.values.now.items c.take_entries.new.values.items c.as_slice.result.now es
    (entries_are db c.args.number c.container.result.now es c.container.ensures c.as_slice-entries.ensures) c.take_entries.ensures.taken all c.requires.above c.as_slice.ensures.value
