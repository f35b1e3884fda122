use Rattle.std.proofs.Common.{◌<◌, ◌∙◌, length, ap, subst, arith}
use Rattle.mdb_items.specs.Database.{Database}
use Rattle.mdb_lookups.specs.Children.{children_of}
use Rattle.mdb_lookups.specs.NumberedChildren.{AreByNumber, conditions_of}
use Rattle.mdb_model.proofs.NumberedLists.{numbered_of}
use Rattle.mdb_model.proofs.mdb.Mdb.numbered_children.Goals as goal

pub returns : goal.returns
returns c =
    let n = c.args.n in
    let found = c.index.result.now in
    let inside = c.inner.inside in
    let same = c.inner.view_is ∙ c.deref-inner.ensures ∙ c.self.view_is in
    let lt : n < length inside.containers.items = omega (arith, c.requires, ap (λ (d : Database). length d.containers) same) in
    subst (λ (d : Database). AreByNumber (conditions_of d.containers) (children_of d.containers n) found) same (numbered_of inside c.inner.invariant n found lt c.index.ensures)
