-- The loop over the statements of a script.
use Rattle.std.proofs.Common.{◌≡◌, ◌<◌, ◌≤◌, ◌+◌, ℕ, zero, suc, Bool, true, false, cond, eqb, List, [], ◌∷◌, ◌++◌, length, drop, Result, Ok, Err, refl, sym, ap, ◌∙◌, append_assoc, length-append, arith}
use Rattle.std.proofs.lemmas.Bool.{eqb-true}
use Rattle.std.proofs.lemmas.List.{append-nil, length-drop, nil_from_length}
use Rattle.std.specs.Result.{IsErrAnd}
use Rattle.std.proofs.lemmas.Result.{err_from_is_err_and}
use Rattle.ssql_tokens.specs.declared.token.Token.{Token}
use Rattle.ssql_tokens.specs.declared.symbols.Symbol.TheVariants as w
use Rattle.ssql_parse.specs.declared.statement.Statement.{Statement}
use Rattle.ssql_parse.specs.declared.reading.Stop.{Stop}
use Rattle.ssql_parse.specs.declared.reading.Stop.TheVariants.{Memory, Wrong}
use Rattle.ssql_parse.specs.Reading.{StopsAs, begins}
use Rattle.ssql_parse.specs.Grammar.{statement_tokens}
use Rattle.ssql_parse.specs.Statements.{statement_at, ScriptResult, statement_before, after_statement, script_from, script_at}
use Rattle.ssql_parse.specs.Scripts.{GivesScript, behind_statements, IsLeft}
use Rattle.ssql_parse.proofs.StatementReading.{IsExact-statement, statement_has_token}
use Rattle.ssql_parse.proofs.ScriptReading.{step_empty, read_one, to_statement}

-- what a test for emptiness tells
pub is_nil : {X : Type 0} (xs : List X) (b : Bool) → b ≡ eqb (length xs) 0 → b ≡ true → xs ≡ []
is_nil xs b e t = nil_from_length xs (eqb-true (length xs) 0 (sym e ∙ t))

pub some_first : (ts : List Token) (b : Bool) → b ≡ eqb (length ts) 0 → b ≡ false → (x : Token) × (us : List Token) × (ts ≡ x ∷ us)
some_first [] b e f = absurd (cc (sym f ∙ e))
some_first (x ∷ us) b e f = (x, us, refl)

pub some_length : {X : Type 0} (xs : List X) (b : Bool) → b ≡ eqb (length xs) 0 → b ≡ false → 0 < length xs
some_length [] b e f = absurd (cc (sym f ∙ e))
some_length (x ∷ xs) b e f = omega arith

no_front : (r : ScriptResult) → behind_statements [] r ≡ r
no_front (Ok statements) = refl
no_front (Err n) = refl

one_behind : (front : List Statement) (q : Statement) (r : ScriptResult) → behind_statements front (statement_before q r) ≡ behind_statements (front ++ q ∷ []) r
one_behind front q (Ok statements) = ap (λ (w : List Statement). Ok w) (sym (append_assoc front (q ∷ []) statements))
one_behind front q (Err n) = refl

pub all_left : (all : List Token) → IsLeft all [] all
unfolding script_at
all_left all = record { turns = suc (length all); enough = omega arith; same = no_front (script_from (suc (length all)) all) }

-- what comes behind a statement
after_is : (again : List Token → ScriptResult) (q : Statement) (later : List Token) (b : Bool) → begins w.Semicolon later ≡ b → 0 < length later → after_statement again q later ≡ cond b (statement_before q (again (drop 1 later))) (Err (length later))
after_is again q [] b c lt = absurd (omega arith)
after_is again q (x ∷ later) b c lt = rw c refl

pub statement_shorter : (rest : List Token) (q : Statement) (later : List Token) → statement_at rest ≡ Ok (q, later) → length later + 1 ≤ length rest
statement_shorter rest q later e =
    let u = IsExact-statement.takes rest (q, later) e in
    let same : length rest ≡ length (statement_tokens q) + length later = ap length u.parts ∙ length-append (statement_tokens q) later in
    omega (arith, same, statement_has_token q)

module _ (all : List Token) (front : List Statement) (rest : List Token) where
  end_at : (turns : ℕ) → length rest < turns → behind_statements front (script_from turns rest) ≡ script_at all → rest ≡ [] → script_at all ≡ Ok front
  end_at zero lt same e = absurd (omega arith)
  end_at (suc n) lt same e =
      let went : script_from (suc n) rest ≡ Ok [] = ap (script_from (suc n)) e ∙ step_empty n in
      sym same ∙ ap (behind_statements front) went ∙ ap (λ (w : List Statement). Ok w) (append-nil front)

  pub ends : IsLeft all front rest → rest ≡ [] → script_at all ≡ Ok front
  ends h e = end_at h.turns h.enough h.same e

  module _ (x : Token) (us : List Token) (is : rest ≡ x ∷ us) where
    wrong_at : (turns : ℕ) → length rest < turns → behind_statements front (script_from turns rest) ≡ script_at all → (n : ℕ) → statement_at rest ≡ Err n → script_at all ≡ Err n
    wrong_at zero lt same n e = absurd (omega arith)
    wrong_at (suc m) lt same n e = sym same ∙ ap (behind_statements front) (to_statement m rest n e x us is)

    stops : IsLeft all front rest → (stop : Stop) → StopsAs stop (statement_at rest) → GivesScript (Err stop) all
    stops h Memory f = tt
    stops h (Wrong n) f = wrong_at h.turns h.enough h.same n f

    pub exits : (result : Result (List Statement) Stop) (stop : Stop) → IsErrAnd result (λ f. f ≡ stop) → IsLeft all front rest → StopsAs stop (statement_at rest) → GivesScript result all
    exits result stop i h f =
        let q = err_from_is_err_and result i in
        rw (q.1, q.2) (stops h stop f)

    module _ (q : Statement) (later : List Token) (e : statement_at rest ≡ Ok (q, later)) where
      went_on : (n : ℕ) → script_from (suc n) rest ≡ after_statement (λ vs. script_from n vs) q later
      went_on n = read_one n rest q later e x us is

      last_at : (turns : ℕ) → length rest < turns → behind_statements front (script_from turns rest) ≡ script_at all → later ≡ [] → script_at all ≡ Ok (front ++ q ∷ [])
      last_at zero lt same l = absurd (omega arith)
      last_at (suc n) lt same l = sym same ∙ ap (behind_statements front) (went_on n ∙ ap (after_statement (λ vs. script_from n vs) q) l)

      pub is_last : IsLeft all front rest → later ≡ [] → script_at all ≡ Ok (front ++ q ∷ [])
      is_last h l = last_at h.turns h.enough h.same l

      wrong_next : (turns : ℕ) → length rest < turns → behind_statements front (script_from turns rest) ≡ script_at all → begins w.Semicolon later ≡ false → 0 < length later → script_at all ≡ Err (length later)
      wrong_next zero lt same c some = absurd (omega arith)
      wrong_next (suc n) lt same c some = sym same ∙ ap (behind_statements front) (went_on n ∙ after_is (λ vs. script_from n vs) q later false c some)

      pub is_wrong : IsLeft all front rest → begins w.Semicolon later ≡ false → 0 < length later → script_at all ≡ Err (length later)
      is_wrong h c some = wrong_next h.turns h.enough h.same c some

      on_turns : (turns : ℕ) → length rest < turns → behind_statements front (script_from turns rest) ≡ script_at all → begins w.Semicolon later ≡ true → 0 < length later → IsLeft all (front ++ q ∷ []) (drop 1 later)
      on_turns zero lt same c some = absurd (omega arith)
      on_turns (suc n) lt same c some = record {
        turns = n;
        enough = omega (arith, statement_shorter rest q later e, length-drop 1 later);
        same = sym (one_behind front q (script_from n (drop 1 later))) ∙ ap (behind_statements front) (sym (went_on n ∙ after_is (λ vs. script_from n vs) q later true c some)) ∙ same;
      }

      pub goes_on : IsLeft all front rest → begins w.Semicolon later ≡ true → 0 < length later → IsLeft all (front ++ q ∷ []) (drop 1 later)
      goes_on h c some = on_turns h.turns h.enough h.same c some
