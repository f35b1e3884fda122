use Rattle.ssql_parse.proofs.OneAnswer.{one_script, script_or_refusal, one_refusal}
use Rattle.ssql_parse.proofs.laws.one_answer.Goals as goal

pub returns-clause-script : goal.returns-clause-script
returns-clause-script c = one_script

pub returns-clause-either : goal.returns-clause-either
returns-clause-either c = script_or_refusal

pub returns-clause-refusal : goal.returns-clause-refusal
returns-clause-refusal c = one_refusal
