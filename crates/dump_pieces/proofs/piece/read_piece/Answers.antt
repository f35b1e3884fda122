use Rattle.std.proofs.Common.{◌≡◌, ap, length, sym, ◌∙◌, arith}
use Rattle.std.proofs.lemmas.List.{length-take}
use Rattle.dump_pieces.proofs.Pieces.{piece_taken, some_left}
use Rattle.dump_pieces.proofs.piece.read_piece.Goals as goal

-- what was read is the front of what was left; a read of no octets is the end

pub returns-clause-piece : goal.returns-clause-piece
returns-clause-piece g c = record {
  taken = rw (c.in_ok-from_slice.ensures, c.split_at.ensures.front) (piece_taken (g.S.Source.state c.args.source.now).left (g.S.Source.state c.read.new.self).left c.read.new.into c.in-Ok.n c.in-Ok.ensures.taken);
  end = λ none.
      let empty = ap length (sym c.in_ok-from_slice.ensures ∙ none) in
      let want = length-take c.min-want.result c.args.over.now in
      let zero : c.in-Ok.n ≡ 0 = omega (arith, empty, c.split_at.ensures.front_len) in
      c.in-Ok.ensures.end (let none = zero in cc) (omega (arith, c.requires.some, want));
}

-- without room an octet was asked for, and came

pub returns-then-n-room-clause-none : goal.returns-then-n-room-clause-none
returns-then-n-room-clause-none g c =
    let count = c.in-Ok.ensures.count in
    let more = c.if-n-room.true in
    let want = length-take c.min-want.result c.args.over.now in (
      omega (arith, more, count, want),
      some_left (g.S.Source.state c.args.source.now).left (g.S.Source.state c.read.new.self).left c.read.new.into c.in-Ok.n c.in-Ok.ensures.taken (omega (arith, more)),
    )
