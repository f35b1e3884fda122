use Rattle.ssql_types.proofs.GrammarFormulas.{grammar_formula}
use Rattle.ssql_types.proofs.laws.condition_is_formula.Goals as goal

pub returns : goal.returns
returns c = grammar_formula
