use Rattle.std.proofs.Common.{◌≡◌, ◌-◌, ◌*◌, refl}
use Rattle.std.specs.List.{concat}
use Rattle.dump_maker.specs.Made.{made_packets, shift_of}
use Rattle.dump_maker.proofs.Made.{more_dumps}
use Rattle.dump_maker.proofs.dumps.make.Goals as goal

pub loop-link-preserved : goal.loop-link-preserved
loop-link-preserved c =
    let packets = c.args.packets in
    let link = c.loop-link.link in
    let behind = c.args.links - 1 - link in
    let dump : c.in_ok-made_dump.field-0 ≡ concat (made_packets c.args.seed (shift_of packets * behind) packets) = rw c.from.ensures at c.in_ok-made_dump.ensures in
    rw (c.in_ok-push.ensures.ok, dump) (more_dumps c.args.seed packets c.args.links link behind c.loop-link.dumps c.loop-link-test.true refl c.loop-link.invariant)
