use Rattle.std.proofs.Common.{rules, ◌≡◌, ◌+◌, ◌-◌, ◌/◌, ◌^◌, ◌<◌, ◌≤◌, length, vec_len, arith, ap}
use Rattle.block_map.specs.declared.blocks.TheConstants.{CAPACITY}
use Rattle.block_map.proofs.Payments.{reserved, spared_more, spares_suffice}
use Rattle.block_map.proofs.body.Body.reserve.Goals as goal

pub invariant_of-self : goal.invariant_of-self
invariant_of-self g c =
    let more = c.add_spare.ensures in
    spared_more g.P.SplitPolicy.KEEP g.P.SplitPolicy.pays_each c.self.inside.blocks c.self.inside.spare c.add_spare.new.blocks c.add_spare.new.spare c.self.inside.len c.self.inside.paid c.self.inside.room c.self.invariant
    more.same more.ready more.fits more.fits_spare more.more

pub invariant_of-self-2 : goal.invariant_of-self-2
invariant_of-self-2 g c =
    let part = CAPACITY - g.P.SplitPolicy.KEEP in
    let paid = c.self.inside.paid + c.args.additional in
    let more = c.add_spare.ensures in
    let wanted : c.in-Some.wanted ≡ paid / part + c.len.result = rw (← c.KEEP.ensures) c.in-Some.ensures.1 in
    let same_len : vec_len c.add_spare.new.blocks ≡ vec_len c.self.inside.blocks = omega (arith, c.add_spare.new.blocks.ok.0, c.self.inside.blocks.ok.0, ap length more.same) in
    let enough : paid / part ≤ vec_len c.add_spare.new.spare = omega (arith, wanted, same_len, c.len.ensures, c.in_ok-add_spare.ensures.enough) in
    let small : c.self.inside.len + c.args.additional < 2 ^ 64 = search (rules, arith) in
    reserved g.P.SplitPolicy.KEEP g.P.SplitPolicy.pays_each c.self.inside.blocks c.self.inside.spare c.add_spare.new.blocks c.add_spare.new.spare c.self.inside.len c.self.inside.paid c.self.inside.room c.args.additional c.self.invariant
    more.same more.ready more.fits more.fits_spare (spares_suffice paid part (vec_len c.add_spare.new.spare) (omega (arith, g.met.P.SplitPolicy.keeps_less)) enough) small
