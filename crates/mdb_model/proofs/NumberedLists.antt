-- The children of a container by number, among those of all containers.
use Rattle.std.proofs.Common.{◌≡◌, ◌<◌, ℕ, List, length, get_or, refl, subst, arith}
use Rattle.std.proofs.lemmas.Option.{slice_get_read}
use Rattle.mdb_items.specs.declared.container.Comparison.{Comparison}
use Rattle.mdb_lookups.specs.declared.numbered_children.NumberedChildren.{NumberedChildren}
use Rattle.mdb_lookups.specs.Children.{children_of}
use Rattle.mdb_lookups.specs.NumberedChildren.{AreByNumber, conditions_of}
use Rattle.mdb_model.specs.declared.mdb.Inner.TheInside.{Inside}
use Rattle.mdb_model.specs.Inside.{MdbInvariant}

-- what stands at a container's number is of its children
pub numbered_of : (a : Inside) → MdbInvariant a → (n : ℕ) (found : NumberedChildren) → n < length a.containers.items → found ≡ get_or a.numbered_children.items n found
    → AreByNumber (conditions_of a.containers.items) (children_of a.containers.items n) found
numbered_of a kept n found lt is =
    let all = a.numbered_children.items in
    let within : n < length all = omega (arith, kept.numbered_children.count, kept.children.count) in
    let at = slice_get_read all (length all) n found refl within is in
    let own = children_of a.containers.items n in
    subst (λ (conditions : List (List (Comparison × ℕ))). AreByNumber conditions own found) kept.placed_conditions (kept.numbered_children.each n found at own (kept.children.each n lt))
