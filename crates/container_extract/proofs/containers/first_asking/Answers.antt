use Rattle.std.proofs.Common.{◌≡◌, ◌∙◌, Option, ap}
use Rattle.std.specs.Prelude.{option_copied, slice_get}
use Rattle.std.specs.List.{find}
use Rattle.std.proofs.lemmas.Grind.{common_steps}
use Rattle.std.proofs.lemmas.Option.{gets}
use Rattle.std.proofs.Common.{arith}
use Rattle.container_extract.specs.declared.values.RawValue.{RawValue}
use Rattle.container_extract.specs.Step.{children_asking, holds_at}
use Rattle.container_extract.proofs.containers.first_asking.Goals as goal

pub returns : goal.returns
returns c =
    let children = c.args.children.now in
    let value : option_copied c.get.result ≡ slice_get c.args.values.now children.place = grind (arith, common_steps, gets) in
    c.copied.ensures ∙ c.first_of.ensures ∙ ap (find (holds_at c.args.mdb.now.containers c.args.values.now)) (c.children_asking-asking.ensures ∙ ap (λ (v : Option RawValue). children_asking children v) value)
