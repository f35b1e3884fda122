-- There is a fault or none for each token.
use Rattle.std.proofs.Common.{◌≡◌, ℕ, suc, ◌+◌, true, List, [], ◌∷◌, ◌++◌, length, Option, Some, None, refl, ap, length-append, arith}
use Rattle.ssql_tokens.specs.declared.token.Token.{Token}
use Rattle.ssql_tokens.specs.declared.token.Token.TheVariants as t
use Rattle.ssql_tokens.specs.declared.symbols.Symbol.TheVariants as w
use Rattle.ssql_parse.specs.declared.condition.Test.{Test}
use Rattle.ssql_parse.specs.declared.condition.Test.TheVariants as a
use Rattle.ssql_parse.specs.declared.condition.Piece.{Piece}
use Rattle.ssql_parse.specs.declared.condition.Piece.TheVariants as p
use Rattle.ssql_parse.specs.declared.query.Columns.{Columns}
use Rattle.ssql_parse.specs.declared.query.Columns.TheVariants.{All, Listed}
use Rattle.ssql_parse.specs.declared.query.QuerySource.{QuerySource}
use Rattle.ssql_parse.specs.declared.query.QuerySource.TheVariants.{One, Merge}
use Rattle.arch_types.specs.declared.direction.Direction.{Direction}
use Rattle.ssql_parse.specs.declared.query.Query.{Query}
use Rattle.ssql_parse.specs.declared.statement.Statement.{Statement}
use Rattle.ssql_parse.specs.declared.statement.Statement.TheVariants as st
use Rattle.ssql_parse.specs.Grammar.{HasItems, IsTest, IsPiece, ArePieces, IsFilter, AreColumns, IsSource, IsIfAny, IsQuery, IsStatement, AreStatements, comma_before_each, with_commas, literal_token, test_tokens, piece_tokens, pieces_tokens, columns_tokens, source_tokens, direction_token, clause_tokens, query_tokens, statement_tokens, script_tokens, behind_tokens}
use Rattle.ssql_types.specs.declared.place.ScriptPlace.{ScriptPlace}
use Rattle.ssql_types.specs.declared.columns.ColumnKind.{ColumnKind}
use Rattle.ssql_types.specs.Rules.{TokenFault, no_fault}
use Rattle.ssql_types.specs.Columns.{column_kind}
use Rattle.ssql_types.specs.Names.{names_created}
use Rattle.ssql_types.specs.Faults.{statement_fault, form_fault, table_fault, stream_fault, literal_fault, listed_faults, test_faults, piece_faults, pieces_faults, columns_faults, source_faults, filter_faults, order_faults, limit_faults, query_faults, statement_faults, script_faults}

-- two lists of one length, and two more behind them
both_long : {A B : Type 0} (a : List A) (b : List B) (next : List A) (more : List B) → length a ≡ length b → length next ≡ length more → length (a ++ next) ≡ length (b ++ more)
both_long a b next more e f = let one = length-append a next in let two = length-append b more in omega (arith, one, two, e, f)

-- behind the first, each value has a sign before it, or one behind it
signs_long : {A : Type 0} (fault : A → TokenFault) (token : A → Token) (xs : List A) → length (listed_faults fault xs) ≡ length (comma_before_each token xs)
signs_long fault token [] = refl
signs_long fault token (x ∷ xs) = ap (λ (k : ℕ). suc (suc k)) (signs_long fault token xs)

-- a list that isn't empty, and the token behind it
listed_long : {A : Type 0} (fault : A → TokenFault) (token : A → Token) (xs : List A) → HasItems xs → length (listed_faults fault xs) ≡ length (with_commas token xs) + 1
listed_long fault token [] some = absurd (omega (arith, some))
listed_long fault token (x ∷ xs) some = let more = signs_long fault token xs in omega (arith, more)

test_long : (kind : ColumnKind) (test : Test) → IsTest test → length (test_faults kind test) ≡ length (test_tokens test)
test_long kind (a.Compare operator literal) is = refl
test_long kind (a.In literals) is =
    let list = listed_long (literal_fault kind) literal_token literals is in
    let parts = length-append (with_commas literal_token literals) (t.Symbol w.CloseParen ∷ []) in
    omega (arith, list, parts)

piece_long : (piece : Piece) → IsPiece piece → length (piece_faults piece) ≡ length (piece_tokens piece)
piece_long p.Not is = refl
piece_long p.Open is = refl
piece_long p.Close is = refl
piece_long p.And is = refl
piece_long p.Or is = refl
piece_long (p.Predicate predicate) is = ap suc (test_long (column_kind predicate.column) predicate.test is)

pieces_long : (pieces : List Piece) → ArePieces pieces → length (pieces_faults pieces) ≡ length (pieces_tokens pieces)
pieces_long [] are = refl
pieces_long (piece ∷ pieces) are =
    both_long (piece_faults piece) (piece_tokens piece) (pieces_faults pieces) (pieces_tokens pieces) (piece_long piece are.0) (pieces_long pieces are.1)

-- the columns, and FROM behind them
columns_long : (fault : TokenFault) (columns : Columns) → AreColumns columns → length (columns_faults fault columns) ≡ length (columns_tokens columns) + 1
columns_long fault All are = refl
columns_long fault (Listed columns) are = listed_long (λ column. fault) t.Column columns are

source_long : (fault : List ℕ → TokenFault) (source : QuerySource) → IsSource source → length (source_faults fault source) ≡ length (source_tokens source)
source_long fault (One name) is = refl
source_long fault (Merge names) is =
    let list = listed_long fault t.Name names is in
    let parts = length-append (with_commas t.Name names) (t.Symbol w.CloseParen ∷ []) in
    omega (arith, list, parts)

filter_long : (filter : Option (List Piece)) → IsIfAny IsFilter filter → length (filter_faults filter) ≡ length (clause_tokens w.Where pieces_tokens filter)
filter_long None is = refl
filter_long (Some pieces) is = ap suc (pieces_long pieces is.1)

order_long : (fault : TokenFault) (order : Option Direction) → length (order_faults fault order) ≡ length (clause_tokens w.Order (λ d. direction_token d ∷ []) order)
order_long fault None = refl
order_long fault (Some direction) = refl

limit_long : (fault : TokenFault) (limit : Option (List ℕ)) → length (limit_faults fault limit) ≡ length (clause_tokens w.Limit (λ n. t.Number n ∷ []) limit)
limit_long fault None = refl
limit_long fault (Some text) = refl

-- a query, with its SELECT
query_long : (word form : TokenFault) (name : List ℕ → TokenFault) (query : Query) → IsQuery query → length (word ∷ query_faults form name query) ≡ length (query_tokens query)
query_long word form name query is =
    let more = both_long (source_faults name query.source) (source_tokens query.source)
    (filter_faults query.filter ++ (order_faults form query.order ++ limit_faults form query.limit))
    (clause_tokens w.Where pieces_tokens query.filter ++ (clause_tokens w.Order (λ d. direction_token d ∷ []) query.order ++ clause_tokens w.Limit (λ n. t.Number n ∷ []) query.limit))
    (source_long name query.source is.source)
    (both_long (filter_faults query.filter) (clause_tokens w.Where pieces_tokens query.filter) _ _ (filter_long query.filter is.filter)
    (both_long (order_faults form query.order) (clause_tokens w.Order (λ d. direction_token d ∷ []) query.order) _ _ (order_long form query.order) (limit_long form query.limit))) in
    let columns = columns_long form query.columns is.columns in
    let left = length-append (columns_faults form query.columns) (source_faults name query.source ++ (filter_faults query.filter ++ (order_faults form query.order ++ limit_faults form query.limit))) in
    let right = length-append (columns_tokens query.columns) (t.Symbol w.From ∷ (source_tokens query.source
    ++ (clause_tokens w.Where pieces_tokens query.filter ++ (clause_tokens w.Order (λ d. direction_token d ∷ []) query.order ++ clause_tokens w.Limit (λ n. t.Number n ∷ []) query.limit)))) in
    omega (arith, more, columns, left, right)

statement_long : (place : ScriptPlace) (tables created : List (List ℕ)) (statement : Statement) → IsStatement statement →
    length (statement_faults place tables created statement) ≡ length (statement_tokens statement)
statement_long place tables created (st.CreateTable name like) is = refl
statement_long place tables created (st.CreateStream name query) is = ap (λ (k : ℕ). suc (suc (suc (suc k)))) (query_long no_fault form_fault (stream_fault created) query is)
statement_long place tables created (st.Insert table query) is = ap (λ (k : ℕ). suc (suc (suc k))) (query_long no_fault form_fault (stream_fault created) query is)
statement_long place tables created (st.Query query) is = query_long (statement_fault place (st.Query query)) no_fault (table_fault tables) query is
statement_long place tables created (st.ShowHistogram table) is = refl
statement_long place tables created (st.ShowPartitions table) is = refl

behind_long : (place : ScriptPlace) (tables created : List (List ℕ)) (statements : List Statement) → AreStatements statements →
    length (no_fault ∷ script_faults place tables created statements) ≡ length (behind_tokens true statements)
behind_long place tables created [] are = refl
behind_long place tables created (statement ∷ statements) are =
    ap suc (both_long (statement_faults place tables created statement) (statement_tokens statement) _ _ (statement_long place tables created statement are.0)
    (behind_long place tables (created ++ names_created statement) statements are.1))

pub each_asked : (place : ScriptPlace) (tables created : List (List ℕ)) (statements : List Statement) → AreStatements statements →
    length (script_faults place tables created statements) ≡ length (script_tokens true statements)
each_asked place tables created [] are = refl
each_asked place tables created (statement ∷ statements) are =
    both_long (statement_faults place tables created statement) (statement_tokens statement) _ _ (statement_long place tables created statement are.0)
    (behind_long place tables (created ++ names_created statement) statements are.1)
