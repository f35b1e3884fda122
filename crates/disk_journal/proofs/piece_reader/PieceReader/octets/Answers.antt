use Rattle.std.proofs.Common.{◌≡◌, ℕ, ◌+◌, ◌-◌, ◌≤◌, List, length, take, drop, sym, ◌∙◌, subst, arith}
use Rattle.disk_journal.specs.PieceReader.{held_from}
use Rattle.disk_journal.proofs.Pieces.{held_is, first_of, filled_up, as_many, rest_read}
use Rattle.disk_journal.proofs.piece_reader.PieceReader.octets.Goals as goal

pub returns-in-Some-clause-octets : goal.returns-in-Some-clause-octets
returns-in-Some-clause-octets g c transparent =
    let content = g.D.Disk.device.reads c.args.disk.now c.args.self.now.file in
    let reader = c.args.self.now in
    let at = c.args.at in
    let part = rw c.in-Some.is at c.in_ok-part.ensures.some in
    part.0 ∙ first_of (held_from reader at) content at c.args.size (held_is reader content at (c.requires.reading transparent).0.1) part.1

pub returns-clause-octets : goal.returns-clause-octets
returns-clause-octets g c transparent =
    let content = g.D.Disk.device.reads c.args.disk.now c.args.self.now.file in
    let reader = c.args.self.now in
    let at = c.args.at in
    let size = c.args.size in
    let held = c.held-held.result.now in
    let octets = c.deref_mut.result.now in
    let is : held ≡ take (length held) (drop at content) = subst (λ (l : List ℕ). l ≡ take (length l) (drop at content)) (sym c.held-held.ensures) (held_is reader content at (c.requires.reading transparent).0.1) in
    let few : length held ≤ size = subst (λ (l : List ℕ). length l ≤ size) (sym c.held-held.ensures) (c.in_ok-part.ensures.none c.in-None.is) in
    let long : length octets ≡ size = omega (arith, c.deref_mut.ensures.len, c.in_ok-resize.ensures.len) in
    let front : take (length held) octets ≡ held = filled_up held _ _ _ _ octets _ size c.new-octets.ensures.items c.in_ok-reserve.ensures.items c.in_ok-extend_from_slice.ensures.items c.in_ok-resize.ensures.items c.deref_mut.ensures.value (omega arith) in
    let rest : c.read_at.new.into ≡ take (size - length held) (drop (at + length held) content) = as_many octets c.read_at.new.into (drop (at + length held) content) (length held) size long (c.in_ok-read_at.ensures.octets transparent) in
    c.in_ok-from_vec.ensures ∙ rest_read held content octets c.read_at.new.into _ at size c.resize.new.self.len is (omega arith) long (omega arith) front rest (omega (arith, (c.requires.reading transparent).1, (c.requires.reading transparent).0.0))
