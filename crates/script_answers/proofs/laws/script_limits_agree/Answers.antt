use Rattle.script_answers.proofs.ScriptLimits.{limits_agree}
use Rattle.script_answers.proofs.laws.script_limits_agree.Goals as goal

pub returns : goal.returns
returns c = limits_agree
