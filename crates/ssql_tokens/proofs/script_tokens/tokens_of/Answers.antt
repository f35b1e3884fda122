use Rattle.std.proofs.Common.{ℕ, Option, length, drop, ap, subst, arith}
use Rattle.ssql_tokens.specs.declared.token.Token.{Token}
use Rattle.ssql_tokens.specs.Tokens.{IsFirstToken}
use Rattle.ssql_tokens.specs.Tokenizing.{IsFoundFirst}
use Rattle.ssql_tokens.proofs.TokenLists.{one_more_token, one_place_each}
use Rattle.ssql_tokens.proofs.script_tokens.tokens_of.Goals as goal

pub tokens-preserved : goal.tokens-preserved
tokens-preserved c =
    let first : IsFirstToken (drop c.tokens.at c.args.script.now) c.in-Some.len c.in-Some.token =
    subst (λ (o : Option (Token × ℕ)). IsFoundFirst (drop c.tokens.at c.args.script.now) o) c.in-Some.is c.in_ok-token.ensures in
    let more = one_more_token c.args.script.now c.tokens.tokens c.tokens.places c.tokens.at c.in-Some.len c.in-Some.token c.tokens.invariant.before first in
    record {
      before = rw (c.in_ok-push.ensures.ok, c.in_ok-push-2.ensures.ok, c.next_at-at-in-tokens.ensures.value, c.as_slice-in-tokens.ensures) more;
      within = omega (arith, c.next_at-at-in-tokens.ensures.within, ap length c.as_slice-in-tokens.ensures);
    }

pub returns-clause-placed : goal.returns-clause-placed
returns-clause-placed c = one_place_each c.args.script.now c.tokens.tokens c.tokens.places c.tokens.at c.tokens.invariant.before
