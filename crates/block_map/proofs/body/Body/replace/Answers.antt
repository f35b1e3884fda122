use Rattle.block_map.proofs.Payments.{changed}
use Rattle.block_map.proofs.body.Body.replace.Goals as goal

pub invariant_of-self : goal.invariant_of-self
invariant_of-self g c =
    let keep = g.P.SplitPolicy.KEEP in
    let other = c.replace_value.ensures in
    changed keep g.P.SplitPolicy.pays_each c.self.inside.blocks c.self.inside.spare c.replace_value.new.blocks c.self.inside.len c.self.inside.paid c.self.inside.room c.self.invariant
    other.blocks other.filled (other.excess keep) other.counted other.len other.capacity
