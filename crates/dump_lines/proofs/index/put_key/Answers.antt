use Rattle.std.proofs.Common.{◌≡◌, ℕ, List, false, true, ap, sym, w64}
use Rattle.std.proofs.lemmas.Int.{to_z-of_z}
use Rattle.arch_types.specs.declared.key.Key.{Key}
use Rattle.arch_types.specs.Packet.{is_idle}
use Rattle.block_map.specs.Index.{Listing}
use Rattle.dump_lines.specs.Counting.{scanned_row}
use Rattle.dump_lines.proofs.Indexed.{puts_duplicate, puts_idle, puts_new}
use Rattle.dump_lines.proofs.index.put_key.Goals as goal

pub returns-then-is_idle_packet : goal.returns-then-is_idle_packet
returns-then-is_idle_packet c =
    let idle : true ≡ is_idle c.args.packet.now = rw c.as_slice.ensures at c.if-is_idle_packet.ensures in
    puts_idle c.args.lengths.now.entries c.args.moment c.args.packet.now (sym idle)

pub returns-in-None : goal.returns-in-None
returns-in-None c =
    let moment = to_z-of_z w64 c.args.moment c.ranges.moment in
    let key : c.key_of-key.result ≡ (scanned_row c.args.moment c.args.packet.now).key = rw (moment, c.as_slice-2.ensures) at c.key_of-key.ensures in
    let idle : false ≡ is_idle c.args.packet.now = rw c.as_slice.ensures at c.if-is_idle_packet.ensures in
    let found = rw (key, c.make_room.ensures.same) at c.in-None.ensures.found in
    let added = rw (key, c.make_room.ensures.same, c.len.ensures.value) at c.in-None.ensures.absent.0 in
    rw added (puts_new c.args.lengths.now.entries c.args.moment c.args.packet.now (sym idle) (sym found))

pub returns-in-Some : goal.returns-in-Some
returns-in-Some c =
    let moment = to_z-of_z w64 c.args.moment c.ranges.moment in
    let key : c.key_of-key.result ≡ (scanned_row c.args.moment c.args.packet.now).key = rw (moment, c.as_slice-2.ensures) at c.key_of-key.ensures in
    let idle : false ≡ is_idle c.args.packet.now = rw c.as_slice.ensures at c.if-is_idle_packet.ensures in
    let found = rw (key, c.make_room.ensures.same) at c.in-Some.ensures.found in
    let present = ap {A = Listing Key ℕ} {B = List (Key × ℕ)} (λ l. l.entries) c.in-Some.ensures.present in
    let same = rw c.make_room.ensures.same at present in
    rw same (puts_duplicate c.args.lengths.now.entries c.args.moment c.args.packet.now c.in-Some.field-0 (sym idle) (sym found))
