use Rattle.std.proofs.Common.{◌≡◌, ◌∙◌, sym, ap, w64, refl, false}
use Rattle.std.proofs.lemmas.Int.{to_z-of_z}
use Rattle.arch_types.specs.Packet.{is_idle}
use Rattle.yarch_table.specs.Stored.{TableView}
use Rattle.dump_lines.specs.Counting.{scanned_row}
use Rattle.dump_lines.proofs.Gathered.{duplicate-is}
use Rattle.dump_lines.proofs.table.add_packet.Goals as goal

pub returns-in-New : goal.returns-in-New
returns-in-New c =
    let moment = to_z-of_z w64 c.args.moment c.ranges.moment in
    let row : c.row_of_packet-row.result ≡ scanned_row c.args.moment c.args.packet = rw moment at c.row_of_packet-row.ensures in
    let inserted = rw row at c.in-New.ensures.inserted in
    let found : false ≡ is_idle c.as_slice.result.now = c.if-is_idle_packet.ensures in
    let idle : is_idle c.args.packet ≡ false = sym (rw c.as_slice.ensures at found) in
    (idle, duplicate-is c.args.moment c.args.packet c.args.table.now.stored c.requires.shown ∙ inserted.0, (c.args.position, inserted.2, (c.requires.position, refl)))

pub returns-in-Duplicate : goal.returns-in-Duplicate
returns-in-Duplicate c =
    let moment = to_z-of_z w64 c.args.moment c.ranges.moment in
    let row : c.row_of_packet-row.result ≡ scanned_row c.args.moment c.args.packet = rw moment at c.row_of_packet-row.ensures in
    let inserted = rw row at c.in-Duplicate.ensures.inserted in
    let found : false ≡ is_idle c.as_slice.result.now = c.if-is_idle_packet.ensures in
    let idle : is_idle c.args.packet ≡ false = sym (rw c.as_slice.ensures at found) in
    (idle, duplicate-is c.args.moment c.args.packet c.args.table.now.stored c.requires.shown ∙ inserted.0, ap (λ (h : TableView). h.stored) inserted.2)
