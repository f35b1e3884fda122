-- Readers on lists of tokens: a value from the front and the tokens after it, or how many tokens are left from the one at which nothing goes on.
use Rattle.std.specs.Prelude.{◌≡◌, ℕ, zero, suc, List, [], ◌∷◌, length, Option, Some, None, Result, Ok, Err, Bool, false, if◌then◌else◌}
use Rattle.ssql_tokens.specs.declared.token.Token.{Token}
use Rattle.ssql_tokens.specs.declared.symbols.Symbol.{Symbol}
use Rattle.ssql_tokens.specs.declared.symbols.Symbol.TheVariants as w
use Rattle.ssql_parse.specs.declared.reading.Stop.{Stop}
use Rattle.ssql_parse.specs.declared.reading.Stop.TheVariants.{Memory, Wrong}
use Rattle.ssql_tokens.specs.SymbolTests.{is_symbol}

-- a value and the tokens behind it, or how many tokens are left from the first with which it doesn't go on
abbrev pub ReaderResult : Type 0 → Type 0
ReaderResult A = Result (A × List Token) ℕ

-- a reader of a kind of value
abbrev pub TokenReader : Type 0 → Type 0
TokenReader A = List Token → ReaderResult A

infixl 10 ◌>>◌
-- what a second reading makes of what the first gave, where it gave something
abbrev pub ◌>>◌ : {A B : Type 0} → ReaderResult A → (A × List Token → ReaderResult B) → ReaderResult B
(Ok x) >> f = f x
(Err n) >> f = Err n

-- the next token, if there is one
abbrev pub next_token : List Token → Option Token
next_token [] = None
next_token (t ∷ ts) = Some t

-- ---- leaves

-- a token as a value, if it is one
abbrev pub taken_as : {A : Type 0} → Option A → Token → TokenReader A
taken_as None t ts = Err (suc (length ts))
taken_as (Some x) t ts = Ok (x, ts)

-- one token of a kind
unfoldable pub taken : {A : Type 0} → (Token → Option A) → TokenReader A
taken kind [] = Err zero
taken kind (t ∷ ts) = taken_as (kind t) t ts

-- whether a token is this symbol, as a value or none
abbrev pub this_symbol : Symbol → Token → Option (Unit {0})
this_symbol word t = if is_symbol word t then Some tt else None

-- this symbol
unfoldable pub expect : Symbol → TokenReader (Unit {0})
unfolding taken
expect word = taken (this_symbol word)

-- the next token is this symbol
abbrev pub is_next : Symbol → Option Token → Bool
is_next word None = false
is_next word (Some t) = is_symbol word t

-- the first token is this symbol
abbrev pub begins : Symbol → List Token → Bool
begins word ts = is_next word (next_token ts)

-- ---- readers made of readers

-- two values, one after the other
abbrev pub both : {A B : Type 0} → TokenReader A → TokenReader B → TokenReader (A × B)
both first second ts = first ts >> λ a. second a.1 >> λ b. Ok ((a.0, b.0), b.1)

-- a value seen as another
abbrev pub mapped : {A B : Type 0} → (A → B) → TokenReader A → TokenReader B
mapped view read ts = read ts >> λ a. Ok (view a.0, a.1)

-- a value behind a symbol, and a value before one
abbrev pub behind : {A : Type 0} → Symbol → TokenReader A → TokenReader A
behind word read = mapped (λ p. p.1) (both (expect word) read)

-- a value before a symbol
abbrev pub before : {A : Type 0} → Symbol → TokenReader A → TokenReader A
before word read = mapped (λ p. p.0) (both read (expect word))

-- one reader where the next token is a symbol, and another where it isn't
abbrev pub either : {A : Type 0} → Symbol → TokenReader A → TokenReader A → TokenReader A
either word first second ts = if begins word ts then first ts else second ts

-- no value, and no token
abbrev pub nothing : {A : Type 0} → TokenReader (Option A)
nothing ts = Ok (None, ts)

-- a value behind a symbol, where the symbol comes next
abbrev pub optional : {A : Type 0} → Symbol → TokenReader A → TokenReader (Option A)
optional word read = either word (mapped Some (behind word read)) nothing

-- tokens of a kind with commas between, one or more
abbrev mutual
  pub listed : {A : Type 0} → (Token → Option A) → TokenReader (List A)
  listed kind [] = Err zero
  listed kind (t ∷ ts) = listed_from kind (kind t) ts

  pub listed_from : {A : Type 0} → (Token → Option A) → Option A → TokenReader (List A)
  listed_from kind None ts = Err (suc (length ts))
  listed_from kind (Some x) [] = Ok (x ∷ [], [])
  listed_from kind (Some x) (t ∷ ts) = if is_symbol w.Comma t then (listed kind ts >> λ more. Ok (x ∷ more.0, more.1)) else Ok (x ∷ [], t ∷ ts)

-- ---- what a function of the code answers

-- What kept it from reading is what keeps the reader, or memory ran out.
abbrev pub StopsAs : {Y : Type 0} → Stop → ReaderResult Y → Type 0
StopsAs Memory read = Unit {0}
StopsAs (Wrong left) read = read ≡ Err left

-- The answer, seen by view, is what the reader gives, unless memory ran out.
abbrev pub ReadsAs : {X Y : Type 0} → (X → Y × List Token) → Result X Stop → ReaderResult Y → Type 0
ReadsAs view (Ok x) read = read ≡ Ok (view x)
ReadsAs view (Err stop) read = StopsAs stop read
