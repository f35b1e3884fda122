use Rattle.std.proofs.Common.{◌≡◌, ◌∙◌, sym, arith}
use Rattle.std.specs.Prelude.{vec_len}
use Rattle.std.proofs.lemmas.Bool.{eqb-true}
use Rattle.std.proofs.lemmas.List.{nil_from_length}
use Rattle.mdb_lookups.specs.Children.{children_of}
use Rattle.mdb_lookups.specs.NumberedChildren.{conditions_of}
use Rattle.container_extract.proofs.Childless.{none_by_number}
use Rattle.container_extract.proofs.containers.is_childless.Goals as goal

pub returns-then-is_empty : goal.returns-then-is_empty
returns-then-is_empty c = λ empty.
    let db = c.args.mdb.now in
    let children = c.numbered_children-children.result.now in
    let none : vec_len children.others ≡ 0 = eqb-true (vec_len children.others) 0 (sym c.is_empty-then-is_empty.ensures ∙ empty) in
    none_by_number (conditions_of db.containers) (children_of db.containers c.args.number) children c.numbered_children-children.ensures (c.is_empty.ensures.0 c.if-is_empty.true)
    (nil_from_length children.others.items (omega (arith, none, children.others.ok.0)))
