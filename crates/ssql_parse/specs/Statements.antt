-- Readers of statements and scripts.
use Rattle.std.specs.Prelude.{ℕ, zero, suc, List, [], ◌∷◌, length, Result, Ok, Err, if◌then◌else◌}
use Rattle.ssql_tokens.specs.declared.token.Token.{Token}
use Rattle.ssql_tokens.specs.declared.symbols.Symbol.TheVariants as w
use Rattle.ssql_tokens.specs.SymbolTests.{is_symbol}
use Rattle.ssql_parse.specs.declared.query.Query.{Query}
use Rattle.ssql_parse.specs.declared.statement.Statement.{Statement}
use Rattle.ssql_parse.specs.declared.statement.Statement.TheVariants as st
use Rattle.ssql_parse.specs.Reading.{TokenReader, ReaderResult, taken, both, behind, mapped, either}
use Rattle.ssql_parse.specs.Pieces.{as_name}
use Rattle.ssql_parse.specs.Queries.{query_at}

-- ---- statements

-- a table with the columns of another
abbrev pub create_table_of : List ℕ × List ℕ → Statement
create_table_of x = st.CreateTable x.0 x.1

-- a stream of a query's rows
abbrev pub create_stream_of : List ℕ × Query → Statement
create_stream_of x = st.CreateStream x.0 x.1

-- the rows of a query into a table
abbrev pub insert_into_of : List ℕ × Query → Statement
insert_into_of x = st.Insert x.0 x.1

-- TABLE, a name, LIKE and a name
unfoldable pub table_form_at : TokenReader Statement
table_form_at = mapped create_table_of (behind w.Table (both (taken as_name) (behind w.Like (taken as_name))))

-- STREAM, a name, AS and a query
unfoldable pub stream_form_at : TokenReader Statement
stream_form_at = mapped create_stream_of (behind w.Stream (both (taken as_name) (behind w.As query_at)))

-- CREATE of a table or a stream
unfoldable pub create_at : TokenReader Statement
create_at = behind w.Create (either w.Table table_form_at stream_form_at)

-- INSERT INTO a table, and a query
unfoldable pub insert_at : TokenReader Statement
insert_at = mapped insert_into_of (behind w.Insert (behind w.Into (both (taken as_name) query_at)))

-- HISTOGRAM and a name
unfoldable pub histogram_at : TokenReader Statement
histogram_at = mapped st.ShowHistogram (behind w.Histogram (taken as_name))

-- PARTITIONS and a name
unfoldable pub partitions_at : TokenReader Statement
partitions_at = mapped st.ShowPartitions (behind w.Partitions (taken as_name))

-- SHOW of a histogram or of partitions
unfoldable pub show_at : TokenReader Statement
show_at = behind w.Show (either w.Histogram histogram_at partitions_at)

-- a statement
unfoldable pub statement_at : TokenReader Statement
statement_at = either w.Create create_at (either w.Insert insert_at (either w.Show show_at (mapped st.Query query_at)))

-- ---- scripts

-- the statements of a script, or how many tokens are left from the first with which it doesn't go on
abbrev pub ScriptResult : Type 0
ScriptResult = Result (List Statement) ℕ

-- one statement more at the front
abbrev pub statement_before : Statement → ScriptResult → ScriptResult
statement_before statement (Ok statements) = Ok (statement ∷ statements)
statement_before statement (Err n) = Err n

-- behind a statement a script ends, or goes on behind a `;`
abbrev pub after_statement : (List Token → ScriptResult) → Statement → List Token → ScriptResult
after_statement again statement [] = Ok (statement ∷ [])
after_statement again statement (x ∷ ts) = if is_symbol w.Semicolon x then statement_before statement (again ts) else Err (suc (length ts))

-- a statement, and what comes behind it
abbrev pub statement_then : (List Token → ScriptResult) → ReaderResult Statement → ScriptResult
statement_then again (Err n) = Err n
statement_then again (Ok x) = after_statement again x.0 x.1

-- the end of a script, or one statement more
abbrev pub script_next : (List Token → ScriptResult) → List Token → ScriptResult
script_next again [] = Ok []
script_next again (x ∷ ts) = statement_then again (statement_at (x ∷ ts))

-- The number bounds the turns.
unfoldable pub script_from : ℕ → List Token → ScriptResult
script_from zero ts = Err (length ts)
script_from (suc n) ts = script_next (λ us. script_from n us) ts

-- a script, all of its tokens
unfoldable pub script_at : List Token → ScriptResult
script_at ts = script_from (suc (length ts)) ts
