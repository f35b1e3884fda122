-- What makes a reader exact for a grammar's rule: it reads what the rule spells, and stops at the first token with which the rule can't go on.
use Rattle.std.specs.Prelude.{◌≡◌, ℕ, List, ◌++◌, length, Option, Bool, true, Ok, Err}
use Rattle.ssql_tokens.specs.declared.token.Token.{Token}
use Rattle.ssql_tokens.specs.Written.{AreOfTexts}
use Rattle.ssql_parse.specs.Reading.{TokenReader, next_token}

-- It stopped with this many tokens left. What stands before them begins a spelling, whose other tokens some texts spell, and with the
-- same next token it stops there too.
pub record HasStopped {A : Type 0} (Is : A → Type 0) (spell : A → List Token) (read : TokenReader A) (tokens : List Token) (left : ℕ) : Type 0 where
  pub front : List Token
  pub rest : List Token
  pub parts : tokens ≡ front ++ rest
  pub place : left ≡ length rest
  pub value : A
  pub is : Is value
  pub more : List Token
  pub begun : spell value ≡ front ++ more
  pub real : AreOfTexts more
  pub firm : (y : List Token) → next_token y ≡ next_token rest → read (front ++ y) ≡ Err (length y)

-- What was read is spelled so, and is read again before any tokens that go on with the same one.
pub record HasRead {A : Type 0} (Is : A → Type 0) (spell : A → List Token) (read : TokenReader A) (tokens : List Token) (x : A × List Token) : Type 0 where
  pub parts : tokens ≡ spell x.0 ++ x.1
  pub is : Is x.0
  pub firm : (y : List Token) → next_token y ≡ next_token x.1 → read (spell x.0 ++ y) ≡ Ok (x.0, y)

-- Exact for the spellings of the values that fit, where the next token after one passes a test.
pub record IsExactReader {A : Type 0} (Is : A → Type 0) (spell : A → List Token) (stops : Option Token → Bool) (read : TokenReader A) : Type 0 where
  pub again : (a : A) (rest : List Token) → Is a → stops (next_token rest) ≡ true → read (spell a ++ rest) ≡ Ok (a, rest)
  pub takes : (tokens : List Token) (x : A × List Token) → read tokens ≡ Ok x → HasRead Is spell read tokens x
  pub stuck : (tokens : List Token) (left : ℕ) → read tokens ≡ Err left → HasStopped Is spell read tokens left

-- any token may follow
abbrev pub anything : Option Token → Bool
anything t = true
