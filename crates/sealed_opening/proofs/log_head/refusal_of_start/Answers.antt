use Rattle.std.proofs.Common.{◌∙◌}
use Rattle.sealed_opening.proofs.HeadBehind.{other_start}
use Rattle.sealed_opening.proofs.log_head.refusal_of_start.Goals as goal

pub returns-in_default : goal.returns-in_default
returns-in_default c = c.refusal_of.ensures ∙ other_start c.args.file c.args.fault c.in_default.not-NoArchive
