use Rattle.std.proofs.Common.{◌≡◌, ◌∙◌, ap, rules}
use Rattle.std.specs.Prelude.{option_copied}
use Rattle.container_extract.specs.Step.{earlier_of}
use Rattle.container_extract.proofs.containers.first_unless.Goals as goal

pub returns : goal.returns
returns c =
    let copied : c.copied.result ≡ option_copied c.last_asked.result = search rules in
    c.earlier_of.ensures ∙ ap (earlier_of c.args.first) (copied ∙ c.last_asked.ensures)
