use Rattle.std.proofs.Common.{◌≡◌, sym, ◌∙◌, Ok, Err, arith}
use Rattle.std.specs.Prelude.{slice_get}
use Rattle.std.proofs.lemmas.List.Sorted.{searched}
use Rattle.partitions.proofs.Least.{least_found, least_from, item_is}
use Rattle.partitions.proofs.sorted_names.SortedNames.first_from.Goals as goal

pub returns-in-Ok : goal.returns-in-Ok
returns-in-Ok c =
    let items = c.self.inside.items.items in
    let at = searched items c.args.pname (Ok c.in-Ok.field-0) (rw c.deref.ensures.value at c.in-Ok.ensures.position) (λ i j low high. c.self.invariant i j 0 low high) in
    rw (← c.self.view_is) (least_found items c.args.pname c.in-Ok.field-0 at.0 at.1)

pub returns-in-Err : goal.returns-in-Err
returns-in-Err c =
    let items = c.self.inside.items.items in
    let at = searched items c.args.pname (Err c.in-Err.at) (rw c.deref.ensures.value at c.in-Err.ensures.position) (λ i j low high. c.self.invariant i j 0 low high) in
    let there : slice_get items c.in-Err.at ≡ c.copied.result = item_is items c.in-Err.at c.get.result (rw c.deref-in-Err.ensures.value at c.get.ensures.lookup.3) ∙ sym c.copied.ensures in
    rw (← c.self.view_is, ← there) (least_from items c.args.pname c.in-Err.at at.1 at.0 (λ k from h. (let above = at.2 k from h in omega arith)) c.self.invariant)
