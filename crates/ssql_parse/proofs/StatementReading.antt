-- Statements are read exactly.
use Rattle.std.proofs.Common.{◌≡◌, ◌≤◌, ℕ, true, false, List, ◌∷◌, ◌++◌, length, drop, None, codes, ◌⊎◌, inl, inr, refl, arith}
use Rattle.ssql_tokens.specs.declared.token.Token.{Token}
use Rattle.ssql_tokens.specs.declared.token.Token.TheVariants as t
use Rattle.ssql_tokens.specs.declared.symbols.Symbol.TheVariants as w
use Rattle.ssql_parse.specs.declared.query.Columns.TheVariants.{All}
use Rattle.ssql_parse.specs.declared.query.QuerySource.TheVariants.{One}
use Rattle.ssql_parse.specs.declared.query.Query.{Query}
use Rattle.ssql_parse.specs.declared.statement.Statement.{Statement}
use Rattle.ssql_parse.specs.declared.statement.Statement.TheVariants as st
use Rattle.ssql_tokens.specs.Written.{AreOfTexts}
use Rattle.ssql_parse.specs.Reading.{TokenReader, next_token, begins}
use Rattle.ssql_parse.specs.Exact.{IsExactReader}
use Rattle.ssql_parse.specs.Grammar.{IsQuery, query_tokens, statement_tokens, IsStatement}
use Rattle.ssql_parse.specs.Statements.{create_table_of, create_stream_of, insert_into_of, table_form_at, stream_form_at, create_at, insert_at, histogram_at, partitions_at, show_at, statement_at}
use Rattle.ssql_parse.proofs.Exactness.{IsExact-both, IsExact-mapped, IsExact-as, IsExact-either}
use Rattle.ssql_parse.proofs.PredicateReading.{IsExact-behind, IsExact-name, name_real}
use Rattle.ssql_parse.proofs.SymbolReading.{symbol_real}
use Rattle.ssql_parse.proofs.QueryReading.{IsExact-query, behind_query}

pub statement_has_token : (s : Statement) → 1 ≤ length (statement_tokens s)
statement_has_token (st.CreateTable n l) = omega arith
statement_has_token (st.CreateStream n q) = omega arith
statement_has_token (st.Insert n q) = omega arith
statement_has_token (st.Query q) = omega arith
statement_has_token (st.ShowHistogram n) = omega arith
statement_has_token (st.ShowPartitions n) = omega arith

-- a query that is one
some_query : Query
some_query = record { columns = All; source = One (codes "tm"); filter = None; order = None; limit = None }

is_some_query : IsQuery some_query
unfolding some_query
is_some_query = record { columns = tt; source = tt; filter = tt }

real_query : AreOfTexts (query_tokens some_query)
unfolding some_query
real_query = (symbol_real w.Select, (symbol_real w.Star, (symbol_real w.From, (name_real, tt))))

-- what stands behind the first token of a statement
abbrev behind_first : Statement → List Token
behind_first s = drop 1 (statement_tokens s)

-- ---- CREATE

abbrev IsTable : Statement → Type 0
IsTable (st.CreateTable n l) = Unit {0}
IsTable (st.CreateStream n q) = ⊥
IsTable (st.Insert n q) = ⊥
IsTable (st.Query q) = ⊥
IsTable (st.ShowHistogram n) = ⊥
IsTable (st.ShowPartitions n) = ⊥

abbrev IsStream : Statement → Type 0
IsStream (st.CreateTable n l) = ⊥
IsStream (st.CreateStream n q) = IsQuery q
IsStream (st.Insert n q) = ⊥
IsStream (st.Query q) = ⊥
IsStream (st.ShowHistogram n) = ⊥
IsStream (st.ShowPartitions n) = ⊥

abbrev IsCreate : Statement → Type 0
IsCreate (st.CreateTable n l) = Unit {0}
IsCreate (st.CreateStream n q) = IsQuery q
IsCreate (st.Insert n q) = ⊥
IsCreate (st.Query q) = ⊥
IsCreate (st.ShowHistogram n) = ⊥
IsCreate (st.ShowPartitions n) = ⊥

each_table : (s : Statement) → IsTable s → (x : List ℕ × List ℕ) × (Unit {0} × Unit {0}) × (create_table_of x ≡ s)
each_table (st.CreateTable n l) is = ((n, l), (tt, tt), refl)
each_table (st.CreateStream n q) is = absurd is
each_table (st.Insert n q) is = absurd is
each_table (st.Query q) is = absurd is
each_table (st.ShowHistogram n) is = absurd is
each_table (st.ShowPartitions n) is = absurd is

each_stream : (s : Statement) → IsStream s → (x : List ℕ × Query) × (Unit {0} × IsQuery x.1) × (create_stream_of x ≡ s)
each_stream (st.CreateTable n l) is = absurd is
each_stream (st.CreateStream n q) is = ((n, q), (tt, is), refl)
each_stream (st.Insert n q) is = absurd is
each_stream (st.Query q) is = absurd is
each_stream (st.ShowHistogram n) is = absurd is
each_stream (st.ShowPartitions n) is = absurd is

IsExact-table : IsExactReader IsTable behind_first behind_query table_form_at
unfolding table_form_at
IsExact-table =
    let like = IsExact-behind IsExact-name (codes "tm") tt (name_real, tt) w.Like in
    let names = IsExact-both IsExact-name like (codes "tm") tt (symbol_real w.Like, (name_real, tt)) (λ b rest is m. refl) in
    let table = IsExact-mapped (IsExact-behind names (codes "tm", codes "tm") (tt, tt) (name_real, (symbol_real w.Like, (name_real, tt))) w.Table) IsTable behind_first create_table_of (λ x is. (tt, refl)) each_table in
    IsExact-as table IsTable behind_query (λ s is. is) (λ s is. is) (λ o m. refl)

IsExact-stream : IsExactReader IsStream behind_first behind_query stream_form_at
unfolding stream_form_at
IsExact-stream =
    let rows = IsExact-behind IsExact-query some_query is_some_query real_query w.As in
    let stream = IsExact-both IsExact-name rows some_query is_some_query (symbol_real w.As, real_query) (λ b rest is m. refl) in
    IsExact-mapped (IsExact-behind stream (codes "tm", some_query) (tt, is_some_query) (name_real, (symbol_real w.As, real_query)) w.Stream) IsStream behind_first create_stream_of (λ x is. (is.1, refl)) each_stream

lead_table : (s : Statement) (rest : List Token) → IsTable s → behind_query (next_token rest) ≡ true → begins w.Table (behind_first s ++ rest) ≡ true
lead_table (st.CreateTable n l) rest is m = refl
lead_table (st.CreateStream n q) rest is m = absurd is
lead_table (st.Insert n q) rest is m = absurd is
lead_table (st.Query q) rest is m = absurd is
lead_table (st.ShowHistogram n) rest is m = absurd is
lead_table (st.ShowPartitions n) rest is m = absurd is

lead_stream : (s : Statement) (rest : List Token) → IsStream s → behind_query (next_token rest) ≡ true → begins w.Table (behind_first s ++ rest) ≡ false
lead_stream (st.CreateTable n l) rest is m = absurd is
lead_stream (st.CreateStream n q) rest is m = refl
lead_stream (st.Insert n q) rest is m = absurd is
lead_stream (st.Query q) rest is m = absurd is
lead_stream (st.ShowHistogram n) rest is m = absurd is
lead_stream (st.ShowPartitions n) rest is m = absurd is

to_create : (s : Statement) → IsTable s ⊎ IsStream s → IsCreate s
to_create (st.CreateTable n l) h = tt
to_create (st.CreateStream n q) (inl is) = absurd is
to_create (st.CreateStream n q) (inr is) = is
to_create (st.Insert n q) (inl is) = absurd is
to_create (st.Insert n q) (inr is) = absurd is
to_create (st.Query q) (inl is) = absurd is
to_create (st.Query q) (inr is) = absurd is
to_create (st.ShowHistogram n) (inl is) = absurd is
to_create (st.ShowHistogram n) (inr is) = absurd is
to_create (st.ShowPartitions n) (inl is) = absurd is
to_create (st.ShowPartitions n) (inr is) = absurd is

of_create : (s : Statement) → IsCreate s → IsTable s ⊎ IsStream s
of_create (st.CreateTable n l) is = inl tt
of_create (st.CreateStream n q) is = inr is
of_create (st.Insert n q) is = absurd is
of_create (st.Query q) is = absurd is
of_create (st.ShowHistogram n) is = absurd is
of_create (st.ShowPartitions n) is = absurd is

-- the first token of CREATE
created_is : (s : Statement) → IsCreate s → IsCreate s × (statement_tokens s ≡ t.Symbol w.Create ∷ behind_first s)
created_is (st.CreateTable n l) is = (is, refl)
created_is (st.CreateStream n q) is = (is, refl)
created_is (st.Insert n q) is = absurd is
created_is (st.Query q) is = absurd is
created_is (st.ShowHistogram n) is = absurd is
created_is (st.ShowPartitions n) is = absurd is

-- a reader that is exact for other spellings that are the same
respelled : (Is : Statement → Type 0) (spell other : Statement → List Token) (read : TokenReader Statement) → IsExactReader Is spell behind_query read → ((s : Statement) → Is s → Is s × (other s ≡ spell s)) → IsExactReader Is other behind_query read
respelled Is spell other read exact same = record {
  again = λ s rest is may. let e = same s is in rw e.1 (exact.again s rest is may);
  takes = λ tokens x r. let u = exact.takes tokens x r in let e = same x.0 u.is in record { parts = rw e.1 u.parts; is = u.is; firm = λ y n. rw e.1 (u.firm y n) };
  stuck = λ tokens left r. let s = exact.stuck tokens left r in let e = same s.value s.is in record {
    front = s.front;
    rest = s.rest;
    parts = s.parts;
    place = s.place;
    value = s.value;
    is = s.is;
    more = s.more;
    begun = rw e.1 s.begun;
    real = s.real;
    firm = s.firm;
  };
}

IsExact-create : IsExactReader IsCreate statement_tokens behind_query create_at
unfolding create_at
IsExact-create =
    let one = IsExact-as (IsExact-either w.Table IsExact-table IsExact-stream lead_table lead_stream) IsCreate behind_query to_create of_create (λ o m. m) in
    let some : Statement = st.CreateTable (codes "tm") (codes "tm") in
    let create = IsExact-behind one some tt (symbol_real w.Table, (name_real, (symbol_real w.Like, (name_real, tt)))) w.Create in
    respelled IsCreate (λ s. t.Symbol w.Create ∷ behind_first s) statement_tokens create_at create created_is

-- ---- INSERT

abbrev IsInsert : Statement → Type 0
IsInsert (st.CreateTable n l) = ⊥
IsInsert (st.CreateStream n q) = ⊥
IsInsert (st.Insert n q) = IsQuery q
IsInsert (st.Query q) = ⊥
IsInsert (st.ShowHistogram n) = ⊥
IsInsert (st.ShowPartitions n) = ⊥

each_insert : (s : Statement) → IsInsert s → (x : List ℕ × Query) × (Unit {0} × IsQuery x.1) × (insert_into_of x ≡ s)
each_insert (st.CreateTable n l) is = absurd is
each_insert (st.CreateStream n q) is = absurd is
each_insert (st.Insert n q) is = ((n, q), (tt, is), refl)
each_insert (st.Query q) is = absurd is
each_insert (st.ShowHistogram n) is = absurd is
each_insert (st.ShowPartitions n) is = absurd is

IsExact-insert : IsExactReader IsInsert statement_tokens behind_query insert_at
unfolding insert_at
IsExact-insert =
    let rows = IsExact-both IsExact-name IsExact-query some_query is_some_query real_query (λ b rest is m. refl) in
    let into = IsExact-behind rows (codes "tm", some_query) (tt, is_some_query) (name_real, real_query) w.Into in
    IsExact-mapped (IsExact-behind into (codes "tm", some_query) (tt, is_some_query) (symbol_real w.Into, (name_real, real_query)) w.Insert) IsInsert statement_tokens insert_into_of (λ x is. (is.1, refl)) each_insert

-- ---- SHOW

abbrev IsHistogram : Statement → Type 0
IsHistogram (st.CreateTable n l) = ⊥
IsHistogram (st.CreateStream n q) = ⊥
IsHistogram (st.Insert n q) = ⊥
IsHistogram (st.Query q) = ⊥
IsHistogram (st.ShowHistogram n) = Unit {0}
IsHistogram (st.ShowPartitions n) = ⊥

abbrev IsPartitions : Statement → Type 0
IsPartitions (st.CreateTable n l) = ⊥
IsPartitions (st.CreateStream n q) = ⊥
IsPartitions (st.Insert n q) = ⊥
IsPartitions (st.Query q) = ⊥
IsPartitions (st.ShowHistogram n) = ⊥
IsPartitions (st.ShowPartitions n) = Unit {0}

abbrev IsShow : Statement → Type 0
IsShow (st.CreateTable n l) = ⊥
IsShow (st.CreateStream n q) = ⊥
IsShow (st.Insert n q) = ⊥
IsShow (st.Query q) = ⊥
IsShow (st.ShowHistogram n) = Unit {0}
IsShow (st.ShowPartitions n) = Unit {0}

each_histogram : (s : Statement) → IsHistogram s → (n : List ℕ) × Unit {0} × (st.ShowHistogram n ≡ s)
each_histogram (st.CreateTable n l) is = absurd is
each_histogram (st.CreateStream n q) is = absurd is
each_histogram (st.Insert n q) is = absurd is
each_histogram (st.Query q) is = absurd is
each_histogram (st.ShowHistogram n) is = (n, tt, refl)
each_histogram (st.ShowPartitions n) is = absurd is

each_partitions : (s : Statement) → IsPartitions s → (n : List ℕ) × Unit {0} × (st.ShowPartitions n ≡ s)
each_partitions (st.CreateTable n l) is = absurd is
each_partitions (st.CreateStream n q) is = absurd is
each_partitions (st.Insert n q) is = absurd is
each_partitions (st.Query q) is = absurd is
each_partitions (st.ShowHistogram n) is = absurd is
each_partitions (st.ShowPartitions n) is = (n, tt, refl)

IsExact-histogram : IsExactReader IsHistogram behind_first behind_query histogram_at
unfolding histogram_at
IsExact-histogram =
    let shown = IsExact-mapped (IsExact-behind IsExact-name (codes "tm") tt (name_real, tt) w.Histogram) IsHistogram behind_first st.ShowHistogram (λ n is. (tt, refl)) each_histogram in
    IsExact-as shown IsHistogram behind_query (λ s is. is) (λ s is. is) (λ o m. refl)

IsExact-partitions : IsExactReader IsPartitions behind_first behind_query partitions_at
unfolding partitions_at
IsExact-partitions =
    let shown = IsExact-mapped (IsExact-behind IsExact-name (codes "tm") tt (name_real, tt) w.Partitions) IsPartitions behind_first st.ShowPartitions (λ n is. (tt, refl)) each_partitions in
    IsExact-as shown IsPartitions behind_query (λ s is. is) (λ s is. is) (λ o m. refl)

lead_histogram : (s : Statement) (rest : List Token) → IsHistogram s → behind_query (next_token rest) ≡ true → begins w.Histogram (behind_first s ++ rest) ≡ true
lead_histogram (st.CreateTable n l) rest is m = absurd is
lead_histogram (st.CreateStream n q) rest is m = absurd is
lead_histogram (st.Insert n q) rest is m = absurd is
lead_histogram (st.Query q) rest is m = absurd is
lead_histogram (st.ShowHistogram n) rest is m = refl
lead_histogram (st.ShowPartitions n) rest is m = absurd is

lead_partitions : (s : Statement) (rest : List Token) → IsPartitions s → behind_query (next_token rest) ≡ true → begins w.Histogram (behind_first s ++ rest) ≡ false
lead_partitions (st.CreateTable n l) rest is m = absurd is
lead_partitions (st.CreateStream n q) rest is m = absurd is
lead_partitions (st.Insert n q) rest is m = absurd is
lead_partitions (st.Query q) rest is m = absurd is
lead_partitions (st.ShowHistogram n) rest is m = absurd is
lead_partitions (st.ShowPartitions n) rest is m = refl

to_show : (s : Statement) → IsHistogram s ⊎ IsPartitions s → IsShow s
to_show (st.CreateTable n l) (inl is) = absurd is
to_show (st.CreateTable n l) (inr is) = absurd is
to_show (st.CreateStream n q) (inl is) = absurd is
to_show (st.CreateStream n q) (inr is) = absurd is
to_show (st.Insert n q) (inl is) = absurd is
to_show (st.Insert n q) (inr is) = absurd is
to_show (st.Query q) (inl is) = absurd is
to_show (st.Query q) (inr is) = absurd is
to_show (st.ShowHistogram n) h = tt
to_show (st.ShowPartitions n) h = tt

of_show : (s : Statement) → IsShow s → IsHistogram s ⊎ IsPartitions s
of_show (st.CreateTable n l) is = absurd is
of_show (st.CreateStream n q) is = absurd is
of_show (st.Insert n q) is = absurd is
of_show (st.Query q) is = absurd is
of_show (st.ShowHistogram n) is = inl tt
of_show (st.ShowPartitions n) is = inr tt

-- the first token of SHOW
shown_is : (s : Statement) → IsShow s → IsShow s × (statement_tokens s ≡ t.Symbol w.Show ∷ behind_first s)
shown_is (st.CreateTable n l) is = absurd is
shown_is (st.CreateStream n q) is = absurd is
shown_is (st.Insert n q) is = absurd is
shown_is (st.Query q) is = absurd is
shown_is (st.ShowHistogram n) is = (is, refl)
shown_is (st.ShowPartitions n) is = (is, refl)

IsExact-show : IsExactReader IsShow statement_tokens behind_query show_at
unfolding show_at
IsExact-show =
    let one = IsExact-as (IsExact-either w.Histogram IsExact-histogram IsExact-partitions lead_histogram lead_partitions) IsShow behind_query to_show of_show (λ o m. m) in
    let some : Statement = st.ShowHistogram (codes "tm") in
    let show = IsExact-behind one some tt (symbol_real w.Histogram, (name_real, tt)) w.Show in
    respelled IsShow (λ s. t.Symbol w.Show ∷ behind_first s) statement_tokens show_at show shown_is

-- ---- queries and all statements

abbrev IsAsked : Statement → Type 0
IsAsked (st.CreateTable n l) = ⊥
IsAsked (st.CreateStream n q) = ⊥
IsAsked (st.Insert n q) = ⊥
IsAsked (st.Query q) = IsQuery q
IsAsked (st.ShowHistogram n) = ⊥
IsAsked (st.ShowPartitions n) = ⊥

each_asked : (s : Statement) → IsAsked s → (q : Query) × IsQuery q × (st.Query q ≡ s)
each_asked (st.CreateTable n l) is = absurd is
each_asked (st.CreateStream n q) is = absurd is
each_asked (st.Insert n q) is = absurd is
each_asked (st.Query q) is = (q, is, refl)
each_asked (st.ShowHistogram n) is = absurd is
each_asked (st.ShowPartitions n) is = absurd is

lead_show : (s : Statement) (rest : List Token) → IsShow s → behind_query (next_token rest) ≡ true → begins w.Show (statement_tokens s ++ rest) ≡ true
lead_show (st.CreateTable n l) rest is m = absurd is
lead_show (st.CreateStream n q) rest is m = absurd is
lead_show (st.Insert n q) rest is m = absurd is
lead_show (st.Query q) rest is m = absurd is
lead_show (st.ShowHistogram n) rest is m = refl
lead_show (st.ShowPartitions n) rest is m = refl

lead_asked : (s : Statement) (rest : List Token) → IsAsked s → behind_query (next_token rest) ≡ true → begins w.Show (statement_tokens s ++ rest) ≡ false
lead_asked (st.CreateTable n l) rest is m = absurd is
lead_asked (st.CreateStream n q) rest is m = absurd is
lead_asked (st.Insert n q) rest is m = absurd is
lead_asked (st.Query q) rest is m = refl
lead_asked (st.ShowHistogram n) rest is m = absurd is
lead_asked (st.ShowPartitions n) rest is m = absurd is

-- neither CREATE nor INSERT
abbrev IsOther : Statement → Type 0
IsOther (st.CreateTable n l) = ⊥
IsOther (st.CreateStream n q) = ⊥
IsOther (st.Insert n q) = ⊥
IsOther (st.Query q) = IsQuery q
IsOther (st.ShowHistogram n) = Unit {0}
IsOther (st.ShowPartitions n) = Unit {0}

to_other : (s : Statement) → IsShow s ⊎ IsAsked s → IsOther s
to_other (st.CreateTable n l) (inl is) = absurd is
to_other (st.CreateTable n l) (inr is) = absurd is
to_other (st.CreateStream n q) (inl is) = absurd is
to_other (st.CreateStream n q) (inr is) = absurd is
to_other (st.Insert n q) (inl is) = absurd is
to_other (st.Insert n q) (inr is) = absurd is
to_other (st.Query q) (inl is) = absurd is
to_other (st.Query q) (inr is) = is
to_other (st.ShowHistogram n) h = tt
to_other (st.ShowPartitions n) h = tt

of_other : (s : Statement) → IsOther s → IsShow s ⊎ IsAsked s
of_other (st.CreateTable n l) is = absurd is
of_other (st.CreateStream n q) is = absurd is
of_other (st.Insert n q) is = absurd is
of_other (st.Query q) is = inr is
of_other (st.ShowHistogram n) is = inl tt
of_other (st.ShowPartitions n) is = inl tt

lead_insert : (s : Statement) (rest : List Token) → IsInsert s → behind_query (next_token rest) ≡ true → begins w.Insert (statement_tokens s ++ rest) ≡ true
lead_insert (st.CreateTable n l) rest is m = absurd is
lead_insert (st.CreateStream n q) rest is m = absurd is
lead_insert (st.Insert n q) rest is m = refl
lead_insert (st.Query q) rest is m = absurd is
lead_insert (st.ShowHistogram n) rest is m = absurd is
lead_insert (st.ShowPartitions n) rest is m = absurd is

lead_other : (s : Statement) (rest : List Token) → IsOther s → behind_query (next_token rest) ≡ true → begins w.Insert (statement_tokens s ++ rest) ≡ false
lead_other (st.CreateTable n l) rest is m = absurd is
lead_other (st.CreateStream n q) rest is m = absurd is
lead_other (st.Insert n q) rest is m = absurd is
lead_other (st.Query q) rest is m = refl
lead_other (st.ShowHistogram n) rest is m = refl
lead_other (st.ShowPartitions n) rest is m = refl

-- not CREATE
abbrev IsUncreated : Statement → Type 0
IsUncreated (st.CreateTable n l) = ⊥
IsUncreated (st.CreateStream n q) = ⊥
IsUncreated (st.Insert n q) = IsQuery q
IsUncreated (st.Query q) = IsQuery q
IsUncreated (st.ShowHistogram n) = Unit {0}
IsUncreated (st.ShowPartitions n) = Unit {0}

to_uncreated : (s : Statement) → IsInsert s ⊎ IsOther s → IsUncreated s
to_uncreated (st.CreateTable n l) (inl is) = absurd is
to_uncreated (st.CreateTable n l) (inr is) = absurd is
to_uncreated (st.CreateStream n q) (inl is) = absurd is
to_uncreated (st.CreateStream n q) (inr is) = absurd is
to_uncreated (st.Insert n q) (inl is) = is
to_uncreated (st.Insert n q) (inr is) = absurd is
to_uncreated (st.Query q) (inl is) = absurd is
to_uncreated (st.Query q) (inr is) = is
to_uncreated (st.ShowHistogram n) h = tt
to_uncreated (st.ShowPartitions n) h = tt

of_uncreated : (s : Statement) → IsUncreated s → IsInsert s ⊎ IsOther s
of_uncreated (st.CreateTable n l) is = absurd is
of_uncreated (st.CreateStream n q) is = absurd is
of_uncreated (st.Insert n q) is = inl is
of_uncreated (st.Query q) is = inr is
of_uncreated (st.ShowHistogram n) is = inr tt
of_uncreated (st.ShowPartitions n) is = inr tt

lead_create : (s : Statement) (rest : List Token) → IsCreate s → behind_query (next_token rest) ≡ true → begins w.Create (statement_tokens s ++ rest) ≡ true
lead_create (st.CreateTable n l) rest is m = refl
lead_create (st.CreateStream n q) rest is m = refl
lead_create (st.Insert n q) rest is m = absurd is
lead_create (st.Query q) rest is m = absurd is
lead_create (st.ShowHistogram n) rest is m = absurd is
lead_create (st.ShowPartitions n) rest is m = absurd is

lead_uncreated : (s : Statement) (rest : List Token) → IsUncreated s → behind_query (next_token rest) ≡ true → begins w.Create (statement_tokens s ++ rest) ≡ false
lead_uncreated (st.CreateTable n l) rest is m = absurd is
lead_uncreated (st.CreateStream n q) rest is m = absurd is
lead_uncreated (st.Insert n q) rest is m = refl
lead_uncreated (st.Query q) rest is m = refl
lead_uncreated (st.ShowHistogram n) rest is m = refl
lead_uncreated (st.ShowPartitions n) rest is m = refl

to_statement : (s : Statement) → IsCreate s ⊎ IsUncreated s → IsStatement s
to_statement (st.CreateTable n l) h = tt
to_statement (st.CreateStream n q) (inl is) = is
to_statement (st.CreateStream n q) (inr is) = absurd is
to_statement (st.Insert n q) (inl is) = absurd is
to_statement (st.Insert n q) (inr is) = is
to_statement (st.Query q) (inl is) = absurd is
to_statement (st.Query q) (inr is) = is
to_statement (st.ShowHistogram n) h = tt
to_statement (st.ShowPartitions n) h = tt

of_statement : (s : Statement) → IsStatement s → IsCreate s ⊎ IsUncreated s
of_statement (st.CreateTable n l) is = inl tt
of_statement (st.CreateStream n q) is = inl is
of_statement (st.Insert n q) is = inr is
of_statement (st.Query q) is = inr is
of_statement (st.ShowHistogram n) is = inr tt
of_statement (st.ShowPartitions n) is = inr tt

pub IsExact-statement : IsExactReader IsStatement statement_tokens behind_query statement_at
unfolding statement_at
IsExact-statement =
    let asked = IsExact-mapped IsExact-query IsAsked statement_tokens st.Query (λ q is. (is, refl)) each_asked in
    let other = IsExact-as (IsExact-either w.Show IsExact-show asked lead_show lead_asked) IsOther behind_query to_other of_other (λ o m. m) in
    let uncreated = IsExact-as (IsExact-either w.Insert IsExact-insert other lead_insert lead_other) IsUncreated behind_query to_uncreated of_uncreated (λ o m. m) in
    IsExact-as (IsExact-either w.Create IsExact-create uncreated lead_create lead_uncreated) IsStatement behind_query to_statement of_statement (λ o m. m)
