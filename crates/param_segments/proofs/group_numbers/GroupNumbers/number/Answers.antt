use Rattle.std.proofs.Common.{◌≡◌, ◌∙◌, ap, rules}
use Rattle.std.specs.Prelude.{nat_eq, option_copied}
use Rattle.std.specs.List.{position}
use lib.Pointwise.{pointwise}
use Rattle.param_segments.proofs.group_numbers.GroupNumbers.number.Goals as goal

pub returns : goal.returns
returns c =
    let copied : c.copied.result ≡ option_copied c.get.result = search rules in
    copied ∙ c.get.ensures.value ∙ c.self.invariant c.args.parameters.now ∙ ap (position (pointwise nat_eq c.args.parameters.now)) c.self.view_is
