use Rattle.std.proofs.Common.{rules, ◌≡◌, ◌++◌, ◌∙◌, ◌+◌, ◌≤◌, List, ℕ, pos, w64, refl, append_assoc, length}
use Rattle.std.specs.Int.{w8}
use Rattle.std.specs.Int.RustNames.{FitsSigned}
use Rattle.std.proofs.lemmas.Int.{to_z-of_z}
use Rattle.octet_fields.specs.Spelling.{number}
use Rattle.packed_cells.specs.Packed.{packed_kind_of, step}
use Rattle.packed_cells.proofs.Room.{room_first, room_next}
use Rattle.packed_cells.proofs.writing.put_key.Goals as goal

pub put_kind-requires : goal.put_kind-requires
put_kind-requires c =
    let before = c.args.before.now in
    let cell = c.args.cell.now in
    let kind = number w8 (packed_kind_of before cell) in
    let key = step before.time cell.key.time ++ step (pos before.seq) (pos cell.key.seq) in
    rw c.kind_of.ensures (room_first c.args.out.now.items kind key c.args.out.now.cap c.requires)

-- room behind the kind
behind_kind : (out more key : List ℕ) (n kind room : ℕ) → more ≡ out ++ number w8 n → n ≡ kind → length out + length (number w8 kind ++ key) ≤ room → length more + length key ≤ room
behind_kind out more key n kind room is same enough = room_next out more (number w8 kind) key room (is ∙ rw same refl) enough

pub put_step-requires : goal.put_step-requires
put_step-requires c =
    let before = c.args.before.now in
    let cell = c.args.cell.now in
    let one : FitsSigned w64 before.time = search rules in
    let two : FitsSigned w64 cell.key.time = search rules in
    let time = step before.time cell.key.time in
    let seq = step (pos before.seq) (pos cell.key.seq) in
    rw (to_z-of_z w64 before.time one, to_z-of_z w64 cell.key.time two, c.put_kind.ensures.room)
    (room_first c.put_kind.new.out.items time seq c.args.out.now.cap (behind_kind c.args.out.now.items c.put_kind.new.out.items (time ++ seq) c.kind_of.result (packed_kind_of before cell) c.args.out.now.cap c.put_kind.ensures.octets c.kind_of.ensures c.requires))

pub put_u32_step-requires : goal.put_u32_step-requires
put_u32_step-requires c =
    let before = c.args.before.now in
    let cell = c.args.cell.now in
    let one : FitsSigned w64 before.time = search rules in
    let two : FitsSigned w64 cell.key.time = search rules in
    let time = step before.time cell.key.time in
    let seq = step (pos before.seq) (pos cell.key.seq) in
    let added : c.put_step.new.out.items ≡ c.put_kind.new.out.items ++ time = c.put_step.ensures.octets ∙ rw (to_z-of_z w64 before.time one, to_z-of_z w64 cell.key.time two) refl in
    rw (c.put_step.ensures.room, c.put_kind.ensures.room)
    (room_next c.put_kind.new.out.items c.put_step.new.out.items time seq c.args.out.now.cap added (behind_kind c.args.out.now.items c.put_kind.new.out.items (time ++ seq) c.kind_of.result (packed_kind_of before cell) c.args.out.now.cap c.put_kind.ensures.octets c.kind_of.ensures c.requires))

joined : (o k t s : List ℕ) → ((o ++ k) ++ t) ++ s ≡ o ++ (k ++ (t ++ s))
joined o k t s = append_assoc (o ++ k) t s ∙ append_assoc o k (t ++ s)

pub returns-clause-octets : goal.returns-clause-octets
returns-clause-octets c =
    let before = c.args.before.now in
    let cell = c.args.cell.now in
    let one : FitsSigned w64 before.time = search rules in
    let two : FitsSigned w64 cell.key.time = search rules in
    let all = joined c.args.out.now.items (number w8 (packed_kind_of before cell)) (step before.time cell.key.time) (step (pos before.seq) (pos cell.key.seq)) in
    c.put_u32_step.ensures.octets ∙ rw (c.put_step.ensures.octets, c.put_kind.ensures.octets, c.kind_of.ensures, to_z-of_z w64 before.time one, to_z-of_z w64 cell.key.time two) all
