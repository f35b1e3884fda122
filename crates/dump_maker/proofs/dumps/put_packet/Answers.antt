use Rattle.dump_maker.specs.Made.{made_packet}
use Rattle.dump_maker.proofs.Made.{on_ok, joined_fields}
use Rattle.dump_maker.proofs.dumps.put_packet.Goals as goal

pub returns : goal.returns
unfolding made_packet
returns c = on_ok c.put_u32-2.result (λ last. joined_fields _ _ _ _ _ _ _ _ _ _ _ _ _ c.in_ok-put_u16.ensures.ok c.in_ok-put_u16-2.ensures.ok
    c.in_ok-put_u16-3.ensures.ok c.in_ok-put_u32.ensures.ok c.in_ok-put_u16-4.ensures.ok (rw (c.from.ensures, c.from-2.ensures) at last)) c.put_u32-2.ensures.ok
