-- Conditions read piece by piece, without recursion: before a term or behind one, with so many parentheses opened.
use Rattle.std.specs.Prelude.{◌≡◌, ◌<◌, ◌≤◌, ◌+◌, ◌-◌, ◌++◌, ℕ, zero, suc, List, [], ◌∷◌, length, drop, Bool, true, false, Ok, Err, if◌then◌else◌, Option, Some, None}
use Rattle.ssql_tokens.specs.declared.token.Token.{Token}
use Rattle.ssql_tokens.specs.declared.token.Token.TheVariants as t
use Rattle.ssql_tokens.specs.declared.symbols.Symbol.TheVariants as w
use Rattle.ssql_tokens.specs.declared.symbols.Column.{Column}
use Rattle.ssql_tokens.specs.declared.symbols.ComparisonOperator.{ComparisonOperator}
use Rattle.ssql_parse.specs.declared.condition.Literal.{Literal}
use Rattle.ssql_parse.specs.declared.condition.Literal.TheVariants as l
use Rattle.ssql_parse.specs.declared.condition.Test.{Test}
use Rattle.ssql_parse.specs.declared.condition.Test.TheVariants as a
use Rattle.ssql_parse.specs.declared.condition.Predicate.{Predicate}
use Rattle.ssql_parse.specs.declared.condition.Piece.{Piece}
use Rattle.ssql_parse.specs.declared.condition.Piece.TheVariants as p
use Rattle.ssql_parse.specs.Reading.{ReaderResult, TokenReader, ◌>>◌, begins, taken, listed, both, behind, before, mapped, either}

-- ---- the kinds of single tokens

-- the column that a token is
abbrev pub as_column : Token → Option Column
as_column (t.Symbol x) = None
as_column (t.Column c) = Some c
as_column (t.Operator x) = None
as_column (t.Name x) = None
as_column (t.Number x) = None
as_column (t.Quoted x) = None

-- the operator that a token is
abbrev pub as_operator : Token → Option ComparisonOperator
as_operator (t.Symbol x) = None
as_operator (t.Column x) = None
as_operator (t.Operator o) = Some o
as_operator (t.Name x) = None
as_operator (t.Number x) = None
as_operator (t.Quoted x) = None

-- the name that a token is
abbrev pub as_name : Token → Option (List ℕ)
as_name (t.Symbol x) = None
as_name (t.Column x) = None
as_name (t.Operator x) = None
as_name (t.Name n) = Some n
as_name (t.Number x) = None
as_name (t.Quoted x) = None

-- the number that a token is
abbrev pub as_number : Token → Option (List ℕ)
as_number (t.Symbol x) = None
as_number (t.Column x) = None
as_number (t.Operator x) = None
as_number (t.Name x) = None
as_number (t.Number n) = Some n
as_number (t.Quoted x) = None

-- the literal that a token is
abbrev pub as_literal : Token → Option Literal
as_literal (t.Symbol x) = None
as_literal (t.Column x) = None
as_literal (t.Operator x) = None
as_literal (t.Name x) = None
as_literal (t.Number n) = Some (l.Number n)
as_literal (t.Quoted q) = Some (l.Quoted q)

-- ---- tests

-- a value in parentheses
abbrev pub bracketed : {A : Type 0} → TokenReader A → TokenReader A
bracketed read = behind w.OpenParen (before w.CloseParen read)

-- a comparison by an operator
abbrev pub one_of : ComparisonOperator × Literal → Test
one_of x = a.Compare x.0 x.1

-- what a column is compared with
unfoldable pub test_at : TokenReader Test
test_at = either w.In (mapped a.In (behind w.In (bracketed (listed as_literal)))) (mapped one_of (both (taken as_operator) (taken as_literal)))

-- a predicate of its parts
abbrev pub predicate_of : Column × Test → Predicate
predicate_of x = record { column = x.0; test = x.1 }

-- a predicate
unfoldable pub predicate_at : TokenReader Predicate
predicate_at = mapped predicate_of (both (taken as_column) test_at)

-- ---- pieces. The first number bounds the turns: each takes a token, so one more than there are tokens is enough.

-- one piece more at the front
abbrev pub one_before : Piece → ReaderResult (List Piece) → ReaderResult (List Piece)
one_before piece read = read >> λ more. Ok (piece ∷ more.0, more.1)

-- the tokens behind the first
abbrev pub tail_of : List Token → List Token
tail_of ts = drop 1 ts

-- behind a term, where no AND or OR comes next
abbrev pub closed_or_end : (ℕ → TokenReader (List Piece)) → ℕ → TokenReader (List Piece)
closed_or_end behind zero ts = Ok ([], ts)
closed_or_end behind (suc opened) ts = if begins w.CloseParen ts then one_before p.Close (behind opened (tail_of ts)) else Err (length ts)

unfoldable mutual
  pub before_term : ℕ → ℕ → TokenReader (List Piece)
  before_term zero opened ts = Err (length ts)
  before_term (suc n) opened ts =
      if begins w.Not ts then one_before p.Not (before_term n opened (tail_of ts))
      else (if begins w.OpenParen ts then one_before p.Open (before_term n (suc opened) (tail_of ts))
      else (predicate_at ts >> λ x. one_before (p.Predicate x.0) (behind_term n opened x.1)))

  pub behind_term : ℕ → ℕ → TokenReader (List Piece)
  behind_term zero opened ts = Err (length ts)
  behind_term (suc n) opened ts =
      if begins w.And ts then one_before p.And (before_term n opened (tail_of ts))
      else (if begins w.Or ts then one_before p.Or (before_term n opened (tail_of ts))
      else closed_or_end (λ o. behind_term n o) opened ts)

-- a condition, piece by piece
unfoldable pub pieces_at : TokenReader (List Piece)
pieces_at ts = before_term (suc (length ts)) zero ts

-- ---- the pieces alone

-- no parenthesis is open
abbrev pub none_open : ℕ → Bool
none_open zero = true
none_open (suc opened) = false

-- one parenthesis less is open
abbrev pub one_closed : (ℕ → Bool) → ℕ → Bool
one_closed behind zero = false
one_closed behind (suc opened) = behind opened

-- before a term, and behind one, with so many parentheses opened
abbrev mutual
  pub goes_before : List Piece → ℕ → Bool
  goes_before [] opened = false
  goes_before (p.Not ∷ ps) opened = goes_before ps opened
  goes_before (p.Open ∷ ps) opened = goes_before ps (suc opened)
  goes_before (p.Close ∷ ps) opened = false
  goes_before (p.And ∷ ps) opened = false
  goes_before (p.Or ∷ ps) opened = false
  goes_before (p.Predicate x ∷ ps) opened = goes_behind ps opened

  pub goes_behind : List Piece → ℕ → Bool
  goes_behind [] opened = none_open opened
  goes_behind (p.Not ∷ ps) opened = false
  goes_behind (p.Open ∷ ps) opened = false
  goes_behind (p.Close ∷ ps) opened = one_closed (λ o. goes_behind ps o) opened
  goes_behind (p.And ∷ ps) opened = goes_before ps opened
  goes_behind (p.Or ∷ ps) opened = goes_before ps opened
  goes_behind (p.Predicate x ∷ ps) opened = false

-- ---- one piece

-- `)`, where a parenthesis is open, or the end
abbrev pub close_at : ℕ → TokenReader (Option Piece)
close_at zero ts = Ok (None, ts)
close_at (suc opened) ts = if begins w.CloseParen ts then Ok (Some p.Close, tail_of ts) else Err (length ts)

-- the next piece behind a term
abbrev pub behind_at : ℕ → TokenReader (Option Piece)
behind_at opened ts =
    if begins w.And ts then Ok (Some p.And, tail_of ts)
    else (if begins w.Or ts then Ok (Some p.Or, tail_of ts)
    else close_at opened ts)

-- the next piece before a term
abbrev pub before_at : TokenReader (Option Piece)
before_at ts =
    if begins w.Not ts then Ok (Some p.Not, tail_of ts)
    else (if begins w.OpenParen ts then Ok (Some p.Open, tail_of ts)
    else (predicate_at ts >> λ x. Ok (Some (p.Predicate x.0), x.1)))

-- the next piece, or nothing where the condition ends
abbrev pub piece_at : Bool → ℕ → TokenReader (Option Piece)
piece_at true opened ts = before_at ts
piece_at false opened ts = behind_at opened ts

-- a term has to come behind this piece
abbrev pub is_before_next : Piece → Bool
is_before_next p.Not = true
is_before_next p.Open = true
is_before_next p.Close = false
is_before_next p.And = true
is_before_next p.Or = true
is_before_next (p.Predicate x) = false

-- how many parentheses are open behind this piece
abbrev pub opened_after : Piece → ℕ → ℕ
opened_after p.Not opened = opened
opened_after p.Open opened = opened + 1
opened_after p.Close opened = opened - 1
opened_after p.And opened = opened
opened_after p.Or opened = opened
opened_after (p.Predicate x) opened = opened

-- the condition from a place on
abbrev pub condition_from : Bool → ℕ → ℕ → TokenReader (List Piece)
condition_from true n opened ts = before_term n opened ts
condition_from false n opened ts = behind_term n opened ts

-- pieces before those that are read
abbrev pub with_front : {A : Type 0} → List A → ReaderResult (List A) → ReaderResult (List A)
with_front front read = read >> λ x. Ok (front ++ x.0, x.1)

-- what is left to be read behind a piece, or the end
abbrev pub go_on : ℕ → ℕ → Option Piece → List Token → ReaderResult (List Piece)
go_on n opened None ts = Ok ([], ts)
go_on n opened (Some x) ts = one_before x (condition_from (is_before_next x) n (opened_after x opened) ts)

-- The condition from a place on, as far as it is read: it is what is read of all, behind the pieces so far. The tokens that are left bound the turns.
pub record IsRead (all : List Token) (front : List Piece) (before : Bool) (opened : ℕ) (rest : List Token) : Type 0 where
  pub turns : ℕ
  pub enough : length rest < turns
  pub few : opened + length rest ≤ length all
  pub same : with_front front (condition_from before turns opened rest) ≡ pieces_at all
