use Rattle.std.proofs.Common.{◌∙◌, ℕ, List, Option, ap, sym}
use Rattle.std.specs.Prelude.{slice_get}
use Rattle.std.specs.List.{find}
use Rattle.container_extract.specs.Step.{children_asking, first_unless, holds_at}
use Rattle.container_extract.proofs.ByNumber.{first_by_number}
use Rattle.container_extract.proofs.Children.{first_of_children}
use Rattle.container_extract.proofs.containers.first_child.Goals as goal

pub returns : goal.returns
returns c =
    let db = c.args.mdb.now in
    let values = c.args.values.now in
    let children = c.numbered_children-children.result.now in
    let test = holds_at db.containers values in
    let asking = find test (children_asking children (slice_get values children.place)) in
    c.first_unless.ensures ∙ ap (λ (o : Option ℕ). first_unless test o c.as_slice.result.now) c.first_asking-first.ensures
    ∙ ap (λ (xs : List ℕ). first_unless test asking xs) c.as_slice.ensures.value
    ∙ first_by_number db.containers c.args.number values children c.numbered_children-children.ensures ∙ sym (first_of_children db c.args.number values c.requires.path)
