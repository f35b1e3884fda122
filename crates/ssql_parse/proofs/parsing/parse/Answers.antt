use Rattle.std.proofs.Common.{◌≤◌, length, ap, sym, ◌∙◌, arith}
use Rattle.ssql_parse.specs.declared.limits.ScriptQuantity.TheVariants as limits
use Rattle.ssql_parse.specs.Limits.{script_limit}
use Rattle.ssql_parse.specs.Parsing.{first_passed}
use Rattle.ssql_parse.proofs.ScriptParsing.{is_script}
use Rattle.ssql_parse.proofs.parsing.parse.Goals as goal

pub invariant_of-result : goal.invariant_of-result
invariant_of-result c =
    let short : length c.args.text.now ≤ script_limit limits.Octets = omega arith in
    is_script c.args.text.now short c.in_ok-read.read.tokens c.in_ok-read.read.places c.in_ok-read.ensures.found c.in_ok-statements.statements c.in_ok-statements.ensures.found
    (sym (ap first_passed c.as_slice.ensures) ∙ sym c.in_ok-quantity.ensures ∙ c.in-None.is)
