use Rattle.std.proofs.Common.{rules, ◌≡◌, ◌++◌, ◌∙◌, w64, refl, append_assoc}
use Rattle.std.specs.Int.{w128}
use Rattle.std.specs.Int.RustNames.{FitsSigned}
use Rattle.std.proofs.lemmas.Int.{to_z-of_z}
use Rattle.packed_cells.specs.Packed.{eng_octets, raw_octets}
use Rattle.packed_cells.proofs.Room.{room_first, room_next}
use Rattle.packed_cells.proofs.writing.put_value.Goals as goal

pub put_raw-requires : goal.put_raw-requires
put_raw-requires c =
    let before = c.args.before.now in
    let cell = c.args.cell.now in
    let one : FitsSigned w128 before.raw = search rules in
    let two : FitsSigned w128 cell.raw = search rules in
    rw (to_z-of_z w128 before.raw one, to_z-of_z w128 cell.raw two)
    (room_first c.args.out.now.items (raw_octets before.raw cell.raw) (eng_octets before.fixed cell.eng) c.args.out.now.cap c.requires)

pub put_eng-requires : goal.put_eng-requires
put_eng-requires c =
    let before = c.args.before.now in
    let cell = c.args.cell.now in
    let one : FitsSigned w128 before.raw = search rules in
    let two : FitsSigned w128 cell.raw = search rules in
    let three : FitsSigned w64 before.fixed = search rules in
    let raw = raw_octets before.raw cell.raw in
    let added : c.put_raw.new.out.items ≡ c.args.out.now.items ++ raw = c.put_raw.ensures.octets ∙ rw (to_z-of_z w128 before.raw one, to_z-of_z w128 cell.raw two) refl in
    rw (to_z-of_z w64 before.fixed three, c.put_raw.ensures.room)
    (room_next c.args.out.now.items c.put_raw.new.out.items raw (eng_octets before.fixed cell.eng) c.args.out.now.cap added c.requires)

pub returns-clause-octets : goal.returns-clause-octets
returns-clause-octets c =
    let before = c.args.before.now in
    let cell = c.args.cell.now in
    let one : FitsSigned w128 before.raw = search rules in
    let two : FitsSigned w128 cell.raw = search rules in
    let three : FitsSigned w64 before.fixed = search rules in
    c.put_eng.ensures.octets ∙ rw (c.put_raw.ensures.octets, to_z-of_z w128 before.raw one, to_z-of_z w128 cell.raw two, to_z-of_z w64 before.fixed three)
    (append_assoc c.args.out.now.items (raw_octets before.raw cell.raw) (eng_octets before.fixed cell.eng))
