use Rattle.std.proofs.Common.{refl}
use Rattle.dump_maker.proofs.Made.{more_octets}
use Rattle.dump_maker.proofs.dumps.made_dump.Goals as goal

pub loop-i-preserved : goal.loop-i-preserved
loop-i-preserved c = rw (c.in_ok-put_packet.ensures, c.loop-i.invariant, more_octets c.args.seed c.args.first c.loop-i.i) refl
