use Rattle.std.proofs.Common.{arith}
use Rattle.dump_pieces.proofs.Pieces.{no_octets}
use Rattle.dump_pieces.proofs.reading.DumpReading.read_on.Goals as goal

-- a piece without octets is the end

pub returns-then-len-eq0-clause-read : goal.returns-then-len-eq0-clause-read
returns-then-len-eq0-clause-read g c =
    (c.in_ok-piece.ensures.piece.end (no_octets c.in_ok-piece.piece (omega (arith, c.if-len-eq0.true))), c.self.view_is)
