-- The grammar: what each of its rules spells in tokens.
use Rattle.std.specs.Prelude.{◌≡◌, ◌<◌, ℕ, List, [], ◌∷◌, ◌++◌, length, Option, Some, None, Bool, true, false, max, ◌+◌}
use Rattle.ssql_tokens.specs.declared.token.Token.{Token}
use Rattle.ssql_tokens.specs.declared.token.Token.TheVariants as t
use Rattle.ssql_tokens.specs.declared.symbols.Symbol.{Symbol}
use Rattle.ssql_tokens.specs.declared.symbols.Symbol.TheVariants as w
use Rattle.ssql_parse.specs.declared.condition.Literal.{Literal}
use Rattle.ssql_parse.specs.declared.condition.Literal.TheVariants as l
use Rattle.ssql_parse.specs.declared.condition.Test.{Test}
use Rattle.ssql_parse.specs.declared.condition.Test.TheVariants as a
use Rattle.ssql_parse.specs.declared.condition.Predicate.{Predicate}
use Rattle.ssql_parse.specs.declared.condition.Piece.{Piece}
use Rattle.ssql_parse.specs.declared.condition.Piece.TheVariants as p
use Rattle.ssql_parse.specs.declared.query.Columns.{Columns}
use Rattle.ssql_parse.specs.declared.query.Columns.TheVariants.{All, Listed}
use Rattle.ssql_parse.specs.declared.query.QuerySource.{QuerySource}
use Rattle.ssql_parse.specs.declared.query.QuerySource.TheVariants.{One, Merge}
use Rattle.arch_types.specs.declared.direction.Direction.{Direction}
use Rattle.arch_types.specs.declared.direction.Direction.TheVariants.{Ascending, Descending}
use Rattle.ssql_parse.specs.declared.query.Query.{Query}
use Rattle.ssql_parse.specs.declared.statement.Statement.{Statement}
use Rattle.ssql_parse.specs.declared.statement.Statement.TheVariants as st
use Rattle.ssql_tokens.specs.Written.{AreOfTexts}
use Rattle.ssql_parse.specs.Reading.{next_token}

-- ---- lists with commas: x { "," x }

-- a comma and a token for each of some values
abbrev pub comma_before_each : {A : Type 0} → (A → Token) → List A → List Token
comma_before_each word [] = []
comma_before_each word (x ∷ xs) = t.Symbol w.Comma ∷ word x ∷ comma_before_each word xs

-- a token for each of some values, with commas between
abbrev pub with_commas : {A : Type 0} → (A → Token) → List A → List Token
with_commas word [] = []
with_commas word (x ∷ xs) = word x ∷ comma_before_each word xs

-- a list has an item at least
abbrev pub HasItems : {A : Type 0} → List A → Type 0
HasItems xs = 0 < length xs

-- ---- tests: column op literal | column IN "(" literal { "," literal } ")"

-- the token of a literal
abbrev pub literal_token : Literal → Token
literal_token (l.Number n) = t.Number n
literal_token (l.Quoted q) = t.Quoted q

-- the tokens of what a column is compared with
abbrev pub test_tokens : Test → List Token
test_tokens (a.Compare operator literal) = t.Operator operator ∷ literal_token literal ∷ []
test_tokens (a.In literals) = t.Symbol w.In ∷ t.Symbol w.OpenParen ∷ (with_commas literal_token literals ++ t.Symbol w.CloseParen ∷ [])

-- IN has a literal
abbrev pub IsTest : Test → Type 0
IsTest (a.Compare operator literal) = Unit {0}
IsTest (a.In literals) = HasItems literals

-- the tokens of a predicate
abbrev pub predicate_tokens : Predicate → List Token
predicate_tokens predicate = t.Column predicate.column ∷ test_tokens predicate.test

-- ---- conditions: cond = conj { OR conj }, conj = term { AND term }, term = NOT term | "(" cond ")" | predicate

mutual
  pub data Cond : Type 0 where
    conj : Conj → Cond
    or : Conj → Cond → Cond

  pub data Conj : Type 0 where
    term : Term → Conj
    and : Term → Conj → Conj

  pub data Term : Type 0 where
    not : Term → Term
    group : Cond → Term
    predicate : Predicate → Term

-- the pieces in which each is written
abbrev mutual
  pub cond_pieces : Cond → List Piece
  cond_pieces (conj c) = conj_pieces c
  cond_pieces (or c more) = conj_pieces c ++ p.Or ∷ cond_pieces more

  pub conj_pieces : Conj → List Piece
  conj_pieces (term x) = term_pieces x
  conj_pieces (and x more) = term_pieces x ++ p.And ∷ conj_pieces more

  pub term_pieces : Term → List Piece
  term_pieces (not x) = p.Not ∷ term_pieces x
  term_pieces (group c) = p.Open ∷ (cond_pieces c ++ p.Close ∷ [])
  term_pieces (predicate x) = p.Predicate x ∷ []

-- how many parentheses and NOT are open at a place, at most
abbrev mutual
  pub cond_depth : Cond → ℕ
  cond_depth (conj c) = conj_depth c
  cond_depth (or c more) = max (conj_depth c) (cond_depth more)

  pub conj_depth : Conj → ℕ
  conj_depth (term x) = term_depth x
  conj_depth (and x more) = max (term_depth x) (conj_depth more)

  pub term_depth : Term → ℕ
  term_depth (not x) = term_depth x + 1
  term_depth (group c) = cond_depth c + 1
  term_depth (predicate x) = 0

-- pieces are a condition as it is written
abbrev pub AreConditionPieces : List Piece → Type 0
AreConditionPieces pieces = (c : Cond) × (cond_pieces c ≡ pieces)

-- the tokens of a piece
abbrev pub piece_tokens : Piece → List Token
piece_tokens p.Not = t.Symbol w.Not ∷ []
piece_tokens p.Open = t.Symbol w.OpenParen ∷ []
piece_tokens p.Close = t.Symbol w.CloseParen ∷ []
piece_tokens p.And = t.Symbol w.And ∷ []
piece_tokens p.Or = t.Symbol w.Or ∷ []
piece_tokens (p.Predicate x) = predicate_tokens x

-- the tokens of pieces, in their order
abbrev pub pieces_tokens : List Piece → List Token
pieces_tokens [] = []
pieces_tokens (p ∷ ps) = piece_tokens p ++ pieces_tokens ps

-- each IN has a literal
abbrev pub IsPiece : Piece → Type 0
IsPiece p.Not = Unit {0}
IsPiece p.Open = Unit {0}
IsPiece p.Close = Unit {0}
IsPiece p.And = Unit {0}
IsPiece p.Or = Unit {0}
IsPiece (p.Predicate x) = IsTest x.test

-- each IN has a literal
abbrev pub ArePieces : List Piece → Type 0
ArePieces [] = Unit {0}
ArePieces (x ∷ xs) = IsPiece x × ArePieces xs

-- pieces that may stand behind WHERE
abbrev pub IsFilter : List Piece → Type 0
IsFilter pieces = AreConditionPieces pieces × ArePieces pieces

-- ---- queries: SELECT columns FROM source [ WHERE cond ] [ ORDER ( ASC | DESC ) ] [ LIMIT number ]

-- the tokens of columns
abbrev pub columns_tokens : Columns → List Token
columns_tokens All = t.Symbol w.Star ∷ []
columns_tokens (Listed columns) = with_commas t.Column columns

-- the tokens of a source
abbrev pub source_tokens : QuerySource → List Token
source_tokens (One name) = t.Name name ∷ []
source_tokens (Merge names) = t.Symbol w.Merge ∷ t.Symbol w.OpenParen ∷ (with_commas t.Name names ++ t.Symbol w.CloseParen ∷ [])

-- the token of a direction
abbrev pub direction_token : Direction → Token
direction_token Ascending = t.Symbol w.Asc
direction_token Descending = t.Symbol w.Desc

-- a symbol and what stands behind it, where it is there
abbrev pub clause_tokens : {A : Type 0} → Symbol → (A → List Token) → Option A → List Token
clause_tokens word spell None = []
clause_tokens word spell (Some x) = t.Symbol word ∷ spell x

-- the tokens of a query
abbrev pub query_tokens : Query → List Token
query_tokens query =
    t.Symbol w.Select ∷ (columns_tokens query.columns ++ (t.Symbol w.From ∷ (source_tokens query.source
    ++ (clause_tokens w.Where pieces_tokens query.filter ++ (clause_tokens w.Order (λ d. direction_token d ∷ []) query.order
    ++ clause_tokens w.Limit (λ n. t.Number n ∷ []) query.limit)))))

-- ---- what fits each rule beside its shape

-- listed columns are some
abbrev pub AreColumns : Columns → Type 0
AreColumns All = Unit {0}
AreColumns (Listed columns) = HasItems columns

-- MERGE has a source
abbrev pub IsSource : QuerySource → Type 0
IsSource (One name) = Unit {0}
IsSource (Merge names) = HasItems names

-- a value that may be absent fits where it is there
abbrev pub IsIfAny : {A : Type 0} → (A → Type 0) → Option A → Type 0
IsIfAny Is None = Unit {0}
IsIfAny Is (Some x) = Is x

-- Each list of a query has an item, and its condition is one.
pub record IsQuery (query : Query) : Type 0 where
  pub columns : AreColumns query.columns
  pub source : IsSource query.source
  pub filter : IsIfAny IsFilter query.filter

-- ---- statements

-- the tokens of a statement
abbrev pub statement_tokens : Statement → List Token
statement_tokens (st.CreateTable name like) = t.Symbol w.Create ∷ t.Symbol w.Table ∷ t.Name name ∷ t.Symbol w.Like ∷ t.Name like ∷ []
statement_tokens (st.CreateStream name query) = t.Symbol w.Create ∷ t.Symbol w.Stream ∷ t.Name name ∷ t.Symbol w.As ∷ query_tokens query
statement_tokens (st.Insert table query) = t.Symbol w.Insert ∷ t.Symbol w.Into ∷ t.Name table ∷ query_tokens query
statement_tokens (st.Query query) = query_tokens query
statement_tokens (st.ShowHistogram table) = t.Symbol w.Show ∷ t.Symbol w.Histogram ∷ t.Name table ∷ []
statement_tokens (st.ShowPartitions table) = t.Symbol w.Show ∷ t.Symbol w.Partitions ∷ t.Name table ∷ []

-- each list of a statement has an item, and its condition is one
abbrev pub IsStatement : Statement → Type 0
IsStatement (st.CreateTable name like) = Unit {0}
IsStatement (st.CreateStream name query) = IsQuery query
IsStatement (st.Insert table query) = IsQuery query
IsStatement (st.Query query) = IsQuery query
IsStatement (st.ShowHistogram table) = Unit {0}
IsStatement (st.ShowPartitions table) = Unit {0}

-- each is a statement
abbrev pub AreStatements : List Statement → Type 0
AreStatements [] = Unit {0}
AreStatements (statement ∷ statements) = IsStatement statement × AreStatements statements

-- ---- scripts: [ statement { ";" statement } [ ";" ] ]

-- the `;` behind the last statement, where it is written
abbrev pub last_tokens : Bool → List Token
last_tokens true = t.Symbol w.Semicolon ∷ []
last_tokens false = []

-- with or without a `;` behind the last
abbrev mutual
  pub script_tokens : Bool → List Statement → List Token
  script_tokens ended [] = []
  script_tokens ended (statement ∷ statements) = statement_tokens statement ++ behind_tokens ended statements

  pub behind_tokens : Bool → List Statement → List Token
  behind_tokens ended [] = last_tokens ended
  behind_tokens ended (statement ∷ statements) = t.Symbol w.Semicolon ∷ (statement_tokens statement ++ behind_tokens ended statements)

-- the tokens spell this script
abbrev pub Spells : List Statement → List Token → Type 0
Spells statements tokens = AreStatements statements × ((ended : Bool) × (tokens ≡ script_tokens ended statements))

-- With so many tokens left no script goes on: what stands before them begins a script, whose other tokens some texts spell, and no script
-- begins so and has this next token, or ends here.
pub record IsFirstWrong (tokens : List Token) (left : ℕ) : Type 0 where
  pub front : List Token
  pub rest : List Token
  pub parts : tokens ≡ front ++ rest
  pub place : left ≡ length rest
  pub script : List Statement
  pub more : List Token
  pub begun : Spells script (front ++ more)
  pub real : AreOfTexts more
  pub wrong : (y : List Token) → next_token y ≡ next_token rest → (statements : List Statement) → Spells statements (front ++ y) → ⊥
