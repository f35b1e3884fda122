use Rattle.std.proofs.Common.{◌≡◌, ℕ, List, take, drop, ◌∙◌, ap, subst}
use Rattle.std.specs.Int.{w32, from_be_bytes, to_be_bytes}
use Rattle.disk_journal.specs.PieceReader.{held_from}
use Rattle.disk_journal.proofs.Pieces.{held_is, first_of}
use Rattle.disk_journal.proofs.piece_reader.PieceReader.number.Goals as goal

pub returns-clause-number : goal.returns-clause-number
returns-clause-number g c transparent =
    let content = g.D.Disk.device.reads c.args.disk.now c.args.self.now.file in
    let reader = c.hold.new.self in
    let at = c.args.at in
    let is = held_is reader content at (c.in_ok-hold.ensures.piece transparent) in
    let four : take 4 c.held.result.now ≡ take 4 (drop at content) = ap (take 4) c.held.ensures ∙ first_of (held_from reader at) content at 4 is c.in_ok-hold.ensures.held in
    subst (λ (l : List ℕ). (c.number_of.result ≡ from_be_bytes w32 l) × (to_be_bytes w32 c.number_of.result ≡ l)) four (c.number_of.ensures.number, c.number_of.ensures.octets)
