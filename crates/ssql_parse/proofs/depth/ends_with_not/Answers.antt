use Rattle.std.proofs.Common.{sym}
use Rattle.ssql_parse.proofs.Nesting.{last_is_first, none_is_first}
use Rattle.ssql_parse.proofs.depth.ends_with_not.Goals as goal

pub returns-in-Some : goal.returns-in-Some
returns-in-Some c = sym (last_is_first c.args.nesting.now _ (sym c.in-Some.ensures.value))

pub returns-in-None : goal.returns-in-None
returns-in-None c = sym (none_is_first c.args.nesting.now (sym c.in-None.ensures.value))
