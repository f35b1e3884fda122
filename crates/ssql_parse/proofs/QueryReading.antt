-- Queries are read exactly.
use Rattle.std.proofs.Common.{◌≡◌, ℕ, Bool, true, false, cond, List, [], ◌∷◌, ◌++◌, Option, Some, None, codes, ◌⊎◌, inl, inr, refl, sym, ap, subst, ◌∙◌, arith}
use denote.Enum.Bare.{same_true}
use Rattle.ssql_tokens.specs.contracts.symbols.Symbol.{the_type}
use Rattle.ssql_tokens.specs.declared.token.Token.{Token}
use Rattle.ssql_tokens.specs.declared.token.Token.TheVariants as t
use Rattle.ssql_tokens.specs.declared.symbols.Symbol.{Symbol}
use Rattle.ssql_tokens.specs.declared.symbols.Symbol.TheVariants as w
use Rattle.ssql_tokens.specs.declared.symbols.Column.TheVariants as col
use Rattle.ssql_tokens.specs.declared.symbols.ComparisonOperator.TheVariants as op
use Rattle.ssql_parse.specs.declared.condition.Literal.TheVariants as l
use Rattle.ssql_parse.specs.declared.condition.Test.TheVariants as a
use Rattle.ssql_parse.specs.declared.condition.Predicate.{Predicate}
use Rattle.ssql_parse.specs.declared.condition.Piece.{Piece}
use Rattle.ssql_parse.specs.declared.condition.Piece.TheVariants as p
use Rattle.ssql_parse.specs.declared.query.Columns.{Columns}
use Rattle.ssql_parse.specs.declared.query.Columns.TheVariants.{All, Listed}
use Rattle.ssql_parse.specs.declared.query.QuerySource.{QuerySource}
use Rattle.ssql_parse.specs.declared.query.QuerySource.TheVariants.{One, Merge}
use Rattle.arch_types.specs.declared.direction.Direction.{Direction}
use Rattle.arch_types.specs.declared.direction.Direction.TheVariants.{Ascending, Descending}
use Rattle.ssql_tokens.specs.SymbolTests.{same_symbol, is_symbol}
use Rattle.ssql_tokens.specs.Written.{AreOfTexts}
use Rattle.ssql_parse.specs.Reading.{TokenReader, next_token, begins, is_next, optional, taken}
use Rattle.ssql_parse.specs.Exact.{IsExactReader, anything}
use Rattle.ssql_parse.specs.Grammar.{conj, term, predicate, predicate_tokens, IsFilter, pieces_tokens, columns_tokens, source_tokens, direction_token, clause_tokens, query_tokens, AreColumns, IsSource, IsIfAny, IsQuery, HasItems}
use Rattle.ssql_parse.specs.Queries.{columns_at, source_at, as_direction, Parts, query_of, clauses_at, query_at}
use Rattle.ssql_parse.proofs.Exactness.{real_both, IsExact-taken, IsExact-both, IsExact-mapped, IsExact-as, IsExact-either, IsExact-nothing}
use Rattle.ssql_parse.proofs.SymbolReading.{IsExact-expect, same_refl, symbol_real}
use Rattle.ssql_parse.proofs.PredicateReading.{IsExact-behind, IsExact-before, IsExact-columns, IsExact-name, IsExact-names, IsExact-number, name_real, number_real, predicate_real}
use Rattle.ssql_parse.proofs.PieceReading.{IsExact-pieces, no_junction}

-- ---- clauses that may be absent

module _ {A : Type 0} {IsA : A → Type 0} {sA : A → List Token} {stops : Option Token → Bool} {rA : TokenReader A} (exact : IsExactReader IsA sA stops rA) (some : A) (is_some : IsA some) (some_real : AreOfTexts (sA some)) (word : Symbol)
    (may : Option Token → Bool) (ends : (o : Option Token) → may o ≡ true → stops o ≡ true) (absent : (o : Option Token) → may o ≡ true → is_next word o ≡ false) where
  abbrev IsJust : Option A → Type 0
  IsJust None = ⊥
  IsJust (Some x) = IsA x

  each_just : (o : Option A) → IsJust o → (x : A) × IsA x × (Some x ≡ o)
  each_just None is = absurd is
  each_just (Some x) is = (x, is, refl)

  to_there : (o : Option A) → IsJust o ⊎ (o ≡ None) → IsIfAny IsA o
  to_there None h = tt
  to_there (Some x) (inl is) = is
  to_there (Some x) (inr e) = absurd cc

  of_there : (o : Option A) → IsIfAny IsA o → IsJust o ⊎ (o ≡ None)
  of_there None h = inr refl
  of_there (Some x) is = inl is

  lead_some : (o : Option A) (rest : List Token) → IsJust o → may (next_token rest) ≡ true → begins word (clause_tokens word sA o ++ rest) ≡ true
  lead_some None rest is m = absurd is
  lead_some (Some x) rest is m = same_refl word

  lead_none : (o : Option A) (rest : List Token) → o ≡ None → may (next_token rest) ≡ true → begins word (clause_tokens word sA o ++ rest) ≡ false
  lead_none o rest is m = subst (λ (q : Option A). begins word (clause_tokens word sA q ++ rest) ≡ false) (sym is) (absent (next_token rest) m)

  pub IsExact-optional : IsExactReader (IsIfAny IsA) (clause_tokens word sA) may (optional word rA)
  IsExact-optional =
      let just = IsExact-mapped (IsExact-behind exact some is_some some_real word) IsJust (clause_tokens word sA) Some (λ x is. (is, refl)) each_just in
      let none = IsExact-nothing (clause_tokens word sA) refl in
      IsExact-as
      (IsExact-either word (IsExact-as just IsJust may (λ o is. is) (λ o is. is) ends) (IsExact-as none (λ (o : Option A). o ≡ None) may (λ o is. is) (λ o is. is) (λ o m. refl)) lead_some lead_none)
      (IsIfAny IsA) may to_there of_there (λ o m. m)

-- ---- columns and sources

abbrev IsAll : Columns → Type 0
IsAll All = Unit {0}
IsAll (Listed xs) = ⊥

abbrev IsListed : Columns → Type 0
IsListed All = ⊥
IsListed (Listed xs) = HasItems xs

each_all : (x : Columns) → IsAll x → (u : Unit {0}) × Unit {0} × (All ≡ x)
each_all All is = (tt, tt, refl)
each_all (Listed xs) is = absurd is

each_listed : (x : Columns) → IsListed x → (xs : List _) × HasItems xs × (Listed xs ≡ x)
each_listed All is = absurd is
each_listed (Listed xs) is = (xs, is, refl)

-- no comma comes next
abbrev pub no_comma_next : Option Token → Bool
no_comma_next None = true
no_comma_next (Some x) = cond (is_symbol w.Comma x) false true

lead_all : (x : Columns) (rest : List Token) → IsAll x → no_comma_next (next_token rest) ≡ true → begins w.Star (columns_tokens x ++ rest) ≡ true
lead_all All rest is m = refl
lead_all (Listed xs) rest is m = absurd is

lead_listed : (x : Columns) (rest : List Token) → IsListed x → no_comma_next (next_token rest) ≡ true → begins w.Star (columns_tokens x ++ rest) ≡ false
lead_listed All rest is m = absurd is
lead_listed (Listed []) rest is m = absurd (omega arith)
lead_listed (Listed (x ∷ xs)) rest is m = refl

to_columns : (x : Columns) → IsAll x ⊎ IsListed x → AreColumns x
to_columns All h = tt
to_columns (Listed xs) (inl is) = absurd is
to_columns (Listed xs) (inr is) = is

of_columns : (x : Columns) → AreColumns x → IsAll x ⊎ IsListed x
of_columns All h = inl tt
of_columns (Listed xs) is = inr is

pub IsExact-select : IsExactReader AreColumns columns_tokens no_comma_next columns_at
unfolding columns_at
IsExact-select =
    let all = IsExact-mapped (IsExact-expect w.Star) IsAll columns_tokens (λ u. All) (λ u is. (tt, refl)) each_all in
    let these = IsExact-mapped IsExact-columns IsListed columns_tokens Listed (λ xs is. (is, refl)) each_listed in
    IsExact-as (IsExact-either w.Star (IsExact-as all IsAll no_comma_next (λ o is. is) (λ o is. is) (λ o m. refl)) these lead_all lead_listed) AreColumns no_comma_next to_columns of_columns (λ o m. m)

abbrev IsMerge : QuerySource → Type 0
IsMerge (One n) = ⊥
IsMerge (Merge ns) = HasItems ns

abbrev IsOne : QuerySource → Type 0
IsOne (One n) = Unit {0}
IsOne (Merge ns) = ⊥

each_merge : (x : QuerySource) → IsMerge x → (ns : List (List ℕ)) × HasItems ns × (Merge ns ≡ x)
each_merge (One n) is = absurd is
each_merge (Merge ns) is = (ns, is, refl)

each_one : (x : QuerySource) → IsOne x → (n : List ℕ) × Unit {0} × (One n ≡ x)
each_one (One n) is = (n, tt, refl)
each_one (Merge ns) is = absurd is

lead_merge : (x : QuerySource) (rest : List Token) → IsMerge x → true ≡ true → begins w.Merge (source_tokens x ++ rest) ≡ true
lead_merge (One n) rest is m = absurd is
lead_merge (Merge ns) rest is m = refl

lead_one : (x : QuerySource) (rest : List Token) → IsOne x → true ≡ true → begins w.Merge (source_tokens x ++ rest) ≡ false
lead_one (One n) rest is m = refl
lead_one (Merge ns) rest is m = absurd is

to_source : (x : QuerySource) → IsMerge x ⊎ IsOne x → IsSource x
to_source (One n) h = tt
to_source (Merge ns) (inl is) = is
to_source (Merge ns) (inr is) = absurd is

of_source : (x : QuerySource) → IsSource x → IsMerge x ⊎ IsOne x
of_source (One n) h = inr tt
of_source (Merge ns) is = inl is

pub IsExact-source : IsExactReader IsSource source_tokens anything source_at
unfolding source_at
IsExact-source =
    let some : List (List ℕ) = codes "tm" ∷ [] in
    let is_some : HasItems some = omega arith in
    let inside = IsExact-before IsExact-names some is_some (name_real, tt) w.CloseParen refl in
    let brackets = IsExact-behind (IsExact-behind inside some is_some (name_real, (symbol_real w.CloseParen, tt)) w.OpenParen) some is_some
    (symbol_real w.OpenParen, (name_real, (symbol_real w.CloseParen, tt))) w.Merge in
    let merge = IsExact-mapped brackets IsMerge source_tokens Merge (λ ns is. (is, refl)) each_merge in
    let one = IsExact-mapped IsExact-name IsOne source_tokens One (λ n is. (tt, refl)) each_one in
    IsExact-as (IsExact-either w.Merge merge one lead_merge lead_one) IsSource anything to_source of_source (λ o m. refl)

-- ---- the clauses

some_direction : (x y : Direction) → ◌≡◌ {A = Option Direction} (Some x) (Some y) → x ≡ y
some_direction x y e = cc

word_direction : (x : Symbol) (d : Direction) (b c : Bool) → same_symbol x w.Asc ≡ b → same_symbol x w.Desc ≡ c → cond b (Some Ascending) (cond c (Some Descending) None) ≡ Some d → t.Symbol x ≡ direction_token d
word_direction x d true c e f h = ap (λ v. t.Symbol v) (same_true the_type tt x w.Asc e) ∙ ap direction_token (some_direction Ascending d h)
word_direction x d false true e f h = ap (λ v. t.Symbol v) (same_true the_type tt x w.Desc f) ∙ ap direction_token (some_direction Descending d h)
word_direction x d false false e f h = absurd cc

direction_is : (x : Token) (d : Direction) → as_direction x ≡ Some d → x ≡ direction_token d
direction_is (t.Symbol x) d e = word_direction x d (same_symbol x w.Asc) (same_symbol x w.Desc) refl refl e
direction_is (t.Column x) d e = absurd cc
direction_is (t.Operator x) d e = absurd cc
direction_is (t.Name x) d e = absurd cc
direction_is (t.Number x) d e = absurd cc
direction_is (t.Quoted x) d e = absurd cc

direction_again : (d : Direction) → as_direction (direction_token d) ≡ Some d
direction_again Ascending = refl
direction_again Descending = refl

pub IsExact-direction : IsExactReader (λ (d : Direction). Unit {0}) (λ (d : Direction). direction_token d ∷ []) anything (taken as_direction)
IsExact-direction = IsExact-taken as_direction direction_token direction_again direction_is Ascending (symbol_real w.Asc)

-- none of these symbols comes next
abbrev pub none_of : List Symbol → Option Token → Bool
none_of [] o = true
none_of (word ∷ words) o = cond (is_next word o) false (none_of words o)

abbrev pub behind_where : Option Token → Bool
behind_where = none_of (w.Where ∷ w.And ∷ w.Or ∷ [])

abbrev pub behind_order : Option Token → Bool
behind_order = none_of (w.Order ∷ w.Where ∷ w.And ∷ w.Or ∷ [])

-- what goes on with no query
abbrev pub behind_query : Option Token → Bool
behind_query = none_of (w.Limit ∷ w.Order ∷ w.Where ∷ w.And ∷ w.Or ∷ [])

first_none : (b c : Bool) → cond b false c ≡ true → (b ≡ false) × (c ≡ true)
first_none true c e = absurd cc
first_none false c e = (refl, e)

where_ends : (o : Option Token) → behind_where o ≡ true → no_junction o ≡ true
where_ends None e = refl
where_ends (Some x) e =
    let one = first_none (is_symbol w.Where x) (cond (is_symbol w.And x) false (cond (is_symbol w.Or x) false true)) e in
    one.1

query_order : (o : Option Token) → behind_query o ≡ true → behind_order o ≡ true
query_order o e = (first_none (is_next w.Limit o) (behind_order o) e).1

order_where : (o : Option Token) → behind_order o ≡ true → behind_where o ≡ true
order_where o e = (first_none (is_next w.Order o) (behind_where o) e).1

abbrev limit_tokens : Option (List ℕ) → List Token
limit_tokens = clause_tokens w.Limit (λ n. t.Number n ∷ [])

abbrev order_tokens : Option Direction → List Token
order_tokens = clause_tokens w.Order (λ d. direction_token d ∷ [])

limit_fits : (n : Option (List ℕ)) (rest : List Token) → IsIfAny (λ (x : List ℕ). Unit {0}) n → behind_query (next_token rest) ≡ true → behind_order (next_token (limit_tokens n ++ rest)) ≡ true
limit_fits None rest is m = query_order (next_token rest) m
limit_fits (Some n) rest is m = refl

order_fits : (b : Option Direction × Option (List ℕ)) (rest : List Token) → IsIfAny (λ (d : Direction). Unit {0}) b.0 × IsIfAny (λ (x : List ℕ). Unit {0}) b.1 → behind_query (next_token rest) ≡ true →
    behind_where (next_token ((order_tokens b.0 ++ limit_tokens b.1) ++ rest)) ≡ true
order_fits (None, None) rest is m = order_where (next_token rest) (query_order (next_token rest) m)
order_fits (None, Some n) rest is m = refl
order_fits (Some d, n) rest is m = refl

some_predicate : Predicate
some_predicate = record { column = col.Link; test = a.Compare op.Equal (l.Number (codes "1")) }

some_pieces : List Piece
some_pieces = p.Predicate some_predicate ∷ []

are_pieces : IsFilter some_pieces
unfolding some_pieces some_predicate
are_pieces = ((conj (term (predicate some_predicate)), refl), (tt, tt))

real_pieces : AreOfTexts (pieces_tokens some_pieces)
unfolding some_pieces some_predicate
real_pieces = real_both (predicate_tokens some_predicate) [] predicate_real tt

pub IsExact-clauses : IsExactReader (λ (x : Option (List Piece) × (Option Direction × Option (List ℕ))). IsIfAny IsFilter x.0 × (IsIfAny (λ (d : Direction). Unit {0}) x.1.0 × IsIfAny (λ (n : List ℕ). Unit {0}) x.1.1))
    (λ (x : Option (List Piece) × (Option Direction × Option (List ℕ))). clause_tokens w.Where pieces_tokens x.0 ++ (order_tokens x.1.0 ++ limit_tokens x.1.1)) behind_query clauses_at
unfolding clauses_at
IsExact-clauses =
    let limit = IsExact-optional IsExact-number (codes "1") tt (number_real, tt) w.Limit behind_query (λ o m. refl) (λ o m. (first_none (is_next w.Limit o) (behind_order o) m).0) in
    let order = IsExact-optional IsExact-direction Ascending tt (symbol_real w.Asc, tt) w.Order behind_order (λ o m. refl) (λ o m. (first_none (is_next w.Order o) (behind_where o) m).0) in
    let filter = IsExact-optional IsExact-pieces some_pieces are_pieces real_pieces w.Where behind_where where_ends (λ o m. (first_none (is_next w.Where o) (none_of (w.And ∷ w.Or ∷ []) o) m).0) in
    IsExact-both filter (IsExact-both order limit None tt tt limit_fits) (None, None) (tt, tt) tt order_fits

to_query : (x : Parts) → AreColumns x.0 × (IsSource x.1.0 × (IsIfAny IsFilter x.1.1.0 × (IsIfAny (λ (d : Direction). Unit {0}) x.1.1.1.0 × IsIfAny (λ (n : List ℕ). Unit {0}) x.1.1.1.1))) → IsQuery (query_of x)
to_query x is = record { columns = is.0; source = is.1.0; filter = is.1.1.0 }

anything_there : {A : Type 0} (o : Option A) → IsIfAny (λ (x : A). Unit {0}) o
anything_there None = tt
anything_there (Some x) = tt

pub IsExact-query : IsExactReader IsQuery query_tokens behind_query query_at
unfolding query_at
IsExact-query =
    let from = IsExact-both IsExact-source IsExact-clauses (None, (None, None)) (tt, (tt, tt)) tt (λ b rest is m. refl) in
    let behind_from = IsExact-behind from (One (codes "tm"), (None, (None, None))) (tt, (tt, (tt, tt))) (name_real, tt) w.From in
    let columns = IsExact-both IsExact-select behind_from (One (codes "tm"), (None, (None, None))) (tt, (tt, (tt, tt))) (symbol_real w.From, (name_real, tt)) (λ b rest is m. refl) in
    let select = IsExact-behind columns (All, (One (codes "tm"), (None, (None, None)))) (tt, (tt, (tt, (tt, tt)))) (symbol_real w.Star, (symbol_real w.From, (name_real, tt))) w.Select in
    IsExact-mapped select IsQuery query_tokens query_of (λ x is. (to_query x is, refl))
    (λ q is. ((q.columns, (q.source, (q.filter, (q.order, q.limit)))), (is.columns, (is.source, (is.filter, (anything_there q.order, anything_there q.limit)))), refl))
