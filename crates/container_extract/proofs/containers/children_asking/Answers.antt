use Rattle.std.proofs.Common.{◌≡◌, ◌∙◌, Option, ap, of_z, rules, sym, to_z}
use Rattle.std.specs.Prelude.{ℤ, option_copied}
use Rattle.std.specs.Int.{w128}
use Rattle.mdb_lookups.specs.NumberedChildren.{children_at}
use Rattle.container_extract.specs.declared.values.RawValue.{RawValue}
use Rattle.container_extract.specs.Step.{children_asking}
use Rattle.container_extract.proofs.containers.children_asking.Goals as goal

pub returns-in-Some : goal.returns-in-Some
returns-in-Some c =
    let children = c.args.children.now in
    let raw = c.in-Some.value.now.raw in
    let same : to_z w128 (of_z w128 raw) ≡ raw = search rules in
    c.of_number.ensures ∙ ap (λ (x : ℤ). children_at children.by_number x) same ∙ ap (λ (v : Option RawValue). children_asking children v) (ap option_copied (sym c.in-Some.is))
