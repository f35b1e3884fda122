use Rattle.std.proofs.Common.{◌≤◌, length}
use Rattle.select_tests.proofs.ssql_select_tests.forms.names_of.Given as goal

abbrev pub invariant-loop-text : goal.invariant-loop-text
invariant-loop-text l = length l.names ≤ l.text-index
