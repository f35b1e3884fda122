-- What `parse` owes, from what its parts answer.
use Rattle.std.proofs.Common.{◌≡◌, ◌≤◌, inl, inr, ℕ, Bool, true, false, cond, ltb, List, length, Some, None, refl, sym, ap, subst, ◌∙◌}
use Rattle.std.proofs.lemmas.Bool.{ltb-true, ltb-false}
use Rattle.ssql_parse.specs.declared.not_a_script.NotAScript.{NotAScript}
use Rattle.ssql_parse.specs.declared.not_a_script.NotAScript.TheVariants as refused
use Rattle.ssql_parse.specs.declared.limits.ScriptQuantity.{ScriptQuantity}
use Rattle.ssql_parse.specs.declared.limits.ScriptQuantity.TheVariants as limits
use Rattle.ssql_parse.specs.Limits.{script_limit}
use Rattle.ssql_tokens.specs.declared.token.Token.{Token}
use Rattle.ssql_tokens.specs.Tokens.{AreTokens, IsNoToken}
use Rattle.ssql_tokens.specs.Written.{AreOfTexts}
use Rattle.ssql_tokens.proofs.TokenLists.{one_place_each, of_texts}
use Rattle.ssql_parse.specs.declared.statement.Statement.{Statement}
use Rattle.ssql_parse.specs.Grammar.{Spells, IsFirstWrong, script_tokens}
use Rattle.ssql_parse.specs.Depth.{script_depth}
use Rattle.ssql_parse.specs.Parsing.{ReadsScript, IsWithinLimits, IsScriptOf, IsScript, octet_of_left, PassesScriptLimit, first_passed, IsNotAScript}

-- ---- a place for each token

placed : (text : List ℕ) (tokens : List Token) (places : List ℕ) (statements : List Statement) (are : AreTokens text tokens places) (spelled : Spells statements tokens) →
    length places ≡ length (script_tokens spelled.1.0 statements)
placed text tokens places statements are spelled = one_place_each text tokens places (length text) are ∙ ap length spelled.1.1

-- ---- limits

none_passed : (many deep : Bool) → cond many (Some limits.Statements) (cond deep (Some limits.Depth) None) ≡ None → (many ≡ false) × (deep ≡ false)
none_passed true deep e = absurd cc
none_passed false true e = absurd cc
none_passed false false e = (refl, refl)

pub within_limits : (statements : List Statement) → first_passed statements ≡ None → IsWithinLimits statements
within_limits statements e =
    let many = ltb (script_limit limits.Statements) (length statements) in
    let deep = ltb (script_limit limits.Depth) (script_depth statements) in
    let h = none_passed many deep e in
    record {
      few = ltb-false (script_limit limits.Statements) (length statements) h.0;
      shallow = ltb-false (script_limit limits.Depth) (script_depth statements) h.1;
    }

-- ---- a text whose tokens are read and spell statements

module _ (text : List ℕ) (short : length text ≤ script_limit limits.Octets) (tokens : List Token) (places : List ℕ) (are : AreTokens text tokens places) where
  module _ (statements : List Statement) (spelled : Spells statements tokens) where
    reads : ReadsScript text statements places
    reads = record { tokens = tokens; are = are; spelled = spelled }

    -- the first limit that the statements pass is one that the text passes
    first_limit : (many deep : Bool) → ltb (script_limit limits.Statements) (length statements) ≡ many → ltb (script_limit limits.Depth) (script_depth statements) ≡ deep → (passed : ScriptQuantity) →
        cond many (Some limits.Statements) (cond deep (Some limits.Depth) None) ≡ Some passed → PassesScriptLimit text passed
    first_limit true deep m d passed e =
        let is : limits.Statements ≡ passed = cc in
        subst (λ (quantity : ScriptQuantity). PassesScriptLimit text quantity) is
        (short, record { statements = statements; places = places; reads = reads; many = ltb-true (script_limit limits.Statements) (length statements) m })
    first_limit false true m d passed e =
        let is : limits.Depth ≡ passed = cc in
        subst (λ (quantity : ScriptQuantity). PassesScriptLimit text quantity) is (
          short,
          record {
            statements = statements;
            places = places;
            reads = reads;
            few = ltb-false (script_limit limits.Statements) (length statements) m;
            deep = ltb-true (script_limit limits.Depth) (script_depth statements) d;
          },
        )
    first_limit false false m d passed e = absurd cc

    pub passes : (passed : ScriptQuantity) → first_passed statements ≡ Some passed → PassesScriptLimit text passed
    passes passed e = first_limit (ltb (script_limit limits.Statements) (length statements)) (ltb (script_limit limits.Depth) (script_depth statements)) refl refl passed e

    pub limit_refused : (passed : ScriptQuantity) (refusal : NotAScript) → first_passed statements ≡ Some passed → refusal ≡ refused.Limit passed → IsNotAScript text refusal
    limit_refused passed refusal e is = subst (λ (r : NotAScript). IsNotAScript text r) (sym is) (passes passed e)

    real : AreOfTexts (script_tokens spelled.1.0 statements)
    real = subst (λ (ts : List Token). AreOfTexts ts) spelled.1.1 (of_texts text tokens places (length text) are)

    pub is_script : first_passed statements ≡ None → IsScript statements places
    is_script e = record { are = spelled.0; within = within_limits statements e; ended = spelled.1.0; real = real; placed = placed text tokens places statements are spelled }

    pub is_script_of : first_passed statements ≡ None → IsScriptOf text (record { statements = statements; places = places })
    is_script_of e = record { short = short; reads = reads; within = within_limits statements e }

  -- the first token with which no script goes on
  pub wrong_token : (left at : ℕ) → IsFirstWrong tokens left → at ≡ octet_of_left text places left → IsNotAScript text (refused.BadSql at 2)
  wrong_token left at wrong place = (short, inr (refl, record { tokens = tokens; places = places; are = are; left = left; wrong = wrong; place = place }))

pub no_token : (text : List ℕ) (at : ℕ) → length text ≤ script_limit limits.Octets → IsNoToken text at → IsNotAScript text (refused.BadSql at 1)
no_token text at short none = (short, inl (refl, none))
