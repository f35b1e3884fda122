-- A text is one script at most, or is refused in one way.
use Rattle.std.proofs.Common.{◌≡◌, ◌<◌, ◌≤◌, ◌⊎◌, inl, inr, ℕ, List, [], ◌∷◌, ◌++◌, length, Ok, refl, sym, ap, ap₂, subst, ◌∙◌, append_assoc, arith}
use Rattle.ssql_parse.specs.declared.not_a_script.NotAScript.{NotAScript}
use Rattle.ssql_parse.specs.declared.not_a_script.NotAScript.TheVariants as refused
use Rattle.ssql_parse.specs.declared.limits.ScriptQuantity.{ScriptQuantity}
use Rattle.ssql_parse.specs.declared.limits.ScriptQuantity.TheVariants as limits
use Rattle.ssql_parse.specs.Limits.{script_limit}
use Rattle.ssql_tokens.specs.declared.token.Token.{Token}
use Rattle.ssql_tokens.specs.Tokens.{AreTokens, IsNoToken}
use Rattle.ssql_tokens.proofs.TokenLists.{tokens_are_one, no_token_or_tokens, no_token_is_one}
use Rattle.ssql_parse.specs.declared.statement.Statement.{Statement}
use Rattle.ssql_parse.specs.Reading.{next_token}
use Rattle.ssql_parse.specs.Grammar.{Spells, IsFirstWrong}
use Rattle.ssql_parse.specs.Statements.{ScriptResult}
use Rattle.ssql_parse.specs.Depth.{script_depth}
use Rattle.ssql_parse.specs.Parsing.{WrittenScript, ReadsScript, IsScriptOf, octet_of_left, IsWrongToken, BreaksRule, HasManyStatements, NestsTooDeep, PassesScriptLimit, IsNotAScript}
use Rattle.ssql_parse.proofs.ScriptReading.{script_again}

-- ---- two lists that are parts of one

data Compared (a r b s : List Token) : Type 0 where
  same : r ≡ s → Compared a r b s
  more_before : (z : Token) (zs : List Token) → a ≡ b ++ z ∷ zs → s ≡ z ∷ (zs ++ r) → Compared a r b s
  less_before : (z : Token) (zs : List Token) → b ≡ a ++ z ∷ zs → r ≡ z ∷ (zs ++ s) → Compared a r b s

one_more : (x y : Token) (a r b s : List Token) → x ≡ y → Compared a r b s → Compared (x ∷ a) r (y ∷ b) s
one_more x y a r b s e (Compared.same h) = Compared.same h
one_more x y a r b s e (Compared.more_before z zs h k) = Compared.more_before z zs (ap₂ (λ (v : Token) (vs : List Token). v ∷ vs) e h) k
one_more x y a r b s e (Compared.less_before z zs h k) = Compared.less_before z zs (ap₂ (λ (v : Token) (vs : List Token). v ∷ vs) (sym e) h) k

compared : (a r b s : List Token) → a ++ r ≡ b ++ s → Compared a r b s
compared [] r [] s e = Compared.same e
compared [] r (y ∷ b) s e = Compared.less_before y b refl e
compared (x ∷ a) r [] s e = Compared.more_before x a refl (sym e)
compared (x ∷ a) r (y ∷ b) s e =
    let first : x ≡ y = cc in
    let rest : a ++ r ≡ b ++ s = cc in
    one_more x y a r b s first (compared a r b s rest)

-- ---- the first wrong token is one, and a script has none

wrong_or_script : (tokens : List Token) (left : ℕ) (statements : List Statement) → IsFirstWrong tokens left → Spells statements tokens → ⊥
wrong_or_script tokens left statements h s = h.wrong h.rest refl statements (subst (λ (ts : List Token). Spells statements ts) h.parts s)

-- what begins a script goes on with each of its own tokens
not_later : (tokens : List Token) (m n : ℕ) (h : IsFirstWrong tokens m) (k : IsFirstWrong tokens n) (z : Token) (zs : List Token) → h.front ≡ k.front ++ z ∷ zs → k.rest ≡ z ∷ (zs ++ h.rest) → ⊥
not_later tokens m n h k z zs front rest =
    let parts : h.front ++ h.more ≡ k.front ++ (z ∷ (zs ++ h.more)) = ap (λ (ts : List Token). ts ++ h.more) front ∙ append_assoc k.front (z ∷ zs) h.more in
    k.wrong (z ∷ (zs ++ h.more)) (sym (ap next_token rest)) h.script (subst (λ (ts : List Token). Spells h.script ts) parts h.begun)

first_wrong_is_one : (tokens : List Token) (m n : ℕ) → IsFirstWrong tokens m → IsFirstWrong tokens n → m ≡ n
first_wrong_is_one tokens m n h k = by_parts (compared h.front h.rest k.front k.rest (sym h.parts ∙ k.parts))
  where
    by_parts : Compared h.front h.rest k.front k.rest → m ≡ n
    by_parts (Compared.same e) = h.place ∙ ap length e ∙ sym k.place
    by_parts (Compared.more_before z zs e f) = absurd (not_later tokens m n h k z zs e f)
    by_parts (Compared.less_before z zs e f) = absurd (not_later tokens n m k h z zs e f)

-- ---- scripts

ok_is_one : (a b : List Statement) → ◌≡◌ {A = ScriptResult} (Ok a) (Ok b) → a ≡ b
ok_is_one a b e = cc

spelled_once : (tokens : List Token) (a b : List Statement) → Spells a tokens → Spells b tokens → a ≡ b
spelled_once tokens a b h k = ok_is_one a b (sym (script_again a tokens h) ∙ script_again b tokens k)

module _ (text : List ℕ) where
  read_once : (a b : List Statement) (p q : List ℕ) → ReadsScript text a p → ReadsScript text b q → (a ≡ b) × (p ≡ q)
  read_once a b p q h k =
      let tokens = tokens_are_one text h.tokens k.tokens p q h.are k.are in
      (spelled_once k.tokens a b (subst (λ (ts : List Token). Spells a ts) tokens.0 h.spelled) k.spelled, tokens.1)

  pub one_script : (a b : WrittenScript) → IsScriptOf text a → IsScriptOf text b → a ≡ b
  one_script a b h k =
      let same = read_once a.statements b.statements a.places b.places h.reads k.reads in
      ap₂ (λ (statements : List Statement) (places : List ℕ). record { statements = statements; places = places }) same.0 same.1

  -- ---- rules

  tokens_or_none : (at : ℕ) (tokens : List Token) (places : List ℕ) → IsNoToken text at → AreTokens text tokens places → ⊥
  tokens_or_none at tokens places h k = no_token_or_tokens text at tokens places h k

  wrong_or_read : (at : ℕ) (statements : List Statement) (places : List ℕ) → IsWrongToken text at → ReadsScript text statements places → ⊥
  wrong_or_read at statements places h k =
      let tokens = tokens_are_one text k.tokens h.tokens places h.places k.are h.are in
      wrong_or_script h.tokens h.left statements h.wrong (subst (λ (ts : List Token). Spells statements ts) tokens.0 k.spelled)

  rule_or_read : (at rule : ℕ) (statements : List Statement) (places : List ℕ) → BreaksRule text at rule → ReadsScript text statements places → ⊥
  rule_or_read at rule statements places (inl h) k = tokens_or_none at k.tokens places h.1 k.are
  rule_or_read at rule statements places (inr h) k = wrong_or_read at statements places h.1 k

  wrong_is_one : (m n : ℕ) → IsWrongToken text m → IsWrongToken text n → m ≡ n
  wrong_is_one m n h k =
      let tokens = tokens_are_one text h.tokens k.tokens h.places k.places h.are k.are in
      let left = first_wrong_is_one k.tokens h.left k.left (subst (λ (ts : List Token). IsFirstWrong ts h.left) tokens.0 h.wrong) k.wrong in
      h.place ∙ ap₂ (λ (places : List ℕ) (l : ℕ). octet_of_left text places l) tokens.1 left ∙ sym k.place

  rule_is_one : (m n i j : ℕ) → BreaksRule text m i → BreaksRule text n j → (m ≡ n) × (i ≡ j)
  rule_is_one m n i j (inl h) (inl k) = (no_token_is_one text m n h.1 k.1, h.0 ∙ sym k.0)
  rule_is_one m n i j (inl h) (inr k) = absurd (tokens_or_none m k.1.tokens k.1.places h.1 k.1.are)
  rule_is_one m n i j (inr h) (inl k) = absurd (tokens_or_none n h.1.tokens h.1.places k.1 h.1.are)
  rule_is_one m n i j (inr h) (inr k) = (wrong_is_one m n h.1 k.1, h.0 ∙ sym k.0)

  -- ---- limits

  -- the limit that a text passes is one of three
  data Passed (quantity : ScriptQuantity) : Type 0 where
    octets : quantity ≡ limits.Octets → script_limit limits.Octets < length text → Passed quantity
    many : quantity ≡ limits.Statements → length text ≤ script_limit limits.Octets → HasManyStatements text → Passed quantity
    deep : quantity ≡ limits.Depth → length text ≤ script_limit limits.Octets → NestsTooDeep text → Passed quantity

  passed : (quantity : ScriptQuantity) → PassesScriptLimit text quantity → Passed quantity
  passed limits.Octets h = Passed.octets refl h
  passed limits.Statements h = Passed.many refl h.0 h.1
  passed limits.Depth h = Passed.deep refl h.0 h.1

  many_or_deep : HasManyStatements text → NestsTooDeep text → ⊥
  many_or_deep h k =
      let same = read_once h.statements k.statements h.places k.places h.reads k.reads in
      absurd (omega (arith, h.many, k.few, ap length same.0))

  limit_is_one : (i j : ScriptQuantity) → Passed i → Passed j → i ≡ j
  limit_is_one i j (Passed.octets e h) (Passed.octets f k) = e ∙ sym f
  limit_is_one i j (Passed.octets e h) (Passed.many f short k) = absurd (omega (arith, h, short))
  limit_is_one i j (Passed.octets e h) (Passed.deep f short k) = absurd (omega (arith, h, short))
  limit_is_one i j (Passed.many e short h) (Passed.octets f k) = absurd (omega (arith, k, short))
  limit_is_one i j (Passed.many e short h) (Passed.many f other k) = e ∙ sym f
  limit_is_one i j (Passed.many e short h) (Passed.deep f other k) = absurd (many_or_deep h k)
  limit_is_one i j (Passed.deep e short h) (Passed.octets f k) = absurd (omega (arith, k, short))
  limit_is_one i j (Passed.deep e short h) (Passed.many f other k) = absurd (many_or_deep k h)
  limit_is_one i j (Passed.deep e short h) (Passed.deep f other k) = e ∙ sym f

  limit_or_rule : (quantity : ScriptQuantity) (at rule : ℕ) → Passed quantity → length text ≤ script_limit limits.Octets → BreaksRule text at rule → ⊥
  limit_or_rule quantity at rule (Passed.octets e h) short k = absurd (omega (arith, h, short))
  limit_or_rule quantity at rule (Passed.many e other h) short k = rule_or_read at rule h.statements h.places k h.reads
  limit_or_rule quantity at rule (Passed.deep e other h) short k = rule_or_read at rule h.statements h.places k h.reads

  limit_or_script : (quantity : ScriptQuantity) (script : WrittenScript) → Passed quantity → IsScriptOf text script → ⊥
  limit_or_script quantity script (Passed.octets e h) k = absurd (omega (arith, h, k.short))
  limit_or_script quantity script (Passed.many e short h) k =
      let same = read_once h.statements script.statements h.places script.places h.reads k.reads in
      absurd (omega (arith, h.many, k.within.few, ap length same.0))
  limit_or_script quantity script (Passed.deep e short h) k =
      let same = read_once h.statements script.statements h.places script.places h.reads k.reads in
      absurd (omega (arith, h.deep, k.within.shallow, ap script_depth same.0))

  -- ---- refusals

  -- a refusal is one of three
  data Refused (refusal : NotAScript) : Type 0 where
    limit : (quantity : ScriptQuantity) → refusal ≡ refused.Limit quantity → Passed quantity → Refused refusal
    rule : (at broken : ℕ) → refusal ≡ refused.BadSql at broken → length text ≤ script_limit limits.Octets → BreaksRule text at broken → Refused refusal
    memory : refusal ≡ refused.OutOfMemory → Refused refusal

  refused_by : (refusal : NotAScript) → IsNotAScript text refusal → Refused refusal
  refused_by (refused.Limit quantity) h = Refused.limit quantity refl (passed quantity h)
  refused_by (refused.BadSql at broken) h = Refused.rule at broken refl h.0 h.1
  refused_by refused.OutOfMemory h = Refused.memory refl

  script_or : (script : WrittenScript) (refusal : NotAScript) → IsScriptOf text script → Refused refusal → refusal ≡ refused.OutOfMemory
  script_or script refusal h (Refused.limit quantity e k) = absurd (limit_or_script quantity script k h)
  script_or script refusal h (Refused.rule at broken e short k) = absurd (rule_or_read at broken script.statements script.places k h.reads)
  script_or script refusal h (Refused.memory e) = e

  pub script_or_refusal : (script : WrittenScript) (refusal : NotAScript) → IsScriptOf text script → IsNotAScript text refusal → refusal ≡ refused.OutOfMemory
  script_or_refusal script refusal h k = script_or script refusal h (refused_by refusal k)

  refused_once : (a b : NotAScript) → Refused a → Refused b → (a ≡ refused.OutOfMemory) ⊎ ((b ≡ refused.OutOfMemory) ⊎ (a ≡ b))
  refused_once a b (Refused.memory e) k = inl e
  refused_once a b (Refused.limit i e h) (Refused.memory f) = inr (inl f)
  refused_once a b (Refused.limit i e h) (Refused.limit j f k) =
      inr (inr (e ∙ ap (λ (quantity : ScriptQuantity). refused.Limit quantity) (limit_is_one i j h k) ∙ sym f))
  refused_once a b (Refused.limit i e h) (Refused.rule at broken f short k) = absurd (limit_or_rule i at broken h short k)
  refused_once a b (Refused.rule at broken e short h) (Refused.memory f) = inr (inl f)
  refused_once a b (Refused.rule at broken e short h) (Refused.limit j f k) = absurd (limit_or_rule j at broken k short h)
  refused_once a b (Refused.rule m i e short h) (Refused.rule n j f other k) =
      let same = rule_is_one m n i j h k in
      inr (inr (e ∙ ap₂ (λ (at broken : ℕ). refused.BadSql at broken) same.0 same.1 ∙ sym f))

  pub one_refusal : (a b : NotAScript) → IsNotAScript text a → IsNotAScript text b → (a ≡ refused.OutOfMemory) ⊎ ((b ≡ refused.OutOfMemory) ⊎ (a ≡ b))
  one_refusal a b h k = refused_once a b (refused_by a h) (refused_by b k)
