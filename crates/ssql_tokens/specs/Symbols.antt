-- The table of keywords, punctuation, columns and operators.
use Rattle.std.specs.Prelude.{ℕ, List, [], ◌∷◌, Option, codes, find}
use Rattle.std.specs.Str.{str_eq_ignore_ascii_case}
use Rattle.ssql_tokens.specs.declared.symbols.Symbol.{Symbol}
use Rattle.ssql_tokens.specs.declared.symbols.Symbol.TheVariants as s
use Rattle.ssql_tokens.specs.declared.symbols.Column.{Column}
use Rattle.ssql_tokens.specs.declared.symbols.Column.TheVariants as c
use Rattle.ssql_tokens.specs.declared.symbols.ComparisonOperator.{ComparisonOperator}
use Rattle.ssql_tokens.specs.declared.symbols.ComparisonOperator.TheVariants as o

-- how a keyword or punctuation is printed
abbrev pub symbol_text : Symbol → List ℕ
symbol_text s.Create = codes "CREATE"
symbol_text s.Table = codes "TABLE"
symbol_text s.Like = codes "LIKE"
symbol_text s.Stream = codes "STREAM"
symbol_text s.As = codes "AS"
symbol_text s.Insert = codes "INSERT"
symbol_text s.Into = codes "INTO"
symbol_text s.Select = codes "SELECT"
symbol_text s.From = codes "FROM"
symbol_text s.Where = codes "WHERE"
symbol_text s.Order = codes "ORDER"
symbol_text s.Asc = codes "ASC"
symbol_text s.Desc = codes "DESC"
symbol_text s.Limit = codes "LIMIT"
symbol_text s.Merge = codes "MERGE"
symbol_text s.Not = codes "NOT"
symbol_text s.And = codes "AND"
symbol_text s.Or = codes "OR"
symbol_text s.In = codes "IN"
symbol_text s.Show = codes "SHOW"
symbol_text s.Histogram = codes "HISTOGRAM"
symbol_text s.Partitions = codes "PARTITIONS"
symbol_text s.Semicolon = codes ";"
symbol_text s.Comma = codes ","
symbol_text s.OpenParen = codes "("
symbol_text s.CloseParen = codes ")"
symbol_text s.Star = codes "*"

-- how a column is printed
abbrev pub column_text : Column → List ℕ
column_text c.Gentime = codes "gentime"
column_text c.SeqNum = codes "seqNum"
column_text c.Rectime = codes "rectime"
column_text c.Link = codes "link"
column_text c.Pname = codes "pname"
column_text c.Apid = codes "apid"
column_text c.Length = codes "length"
column_text c.Packet = codes "packet"

-- how an operator is printed
abbrev pub operator_text : ComparisonOperator → List ℕ
operator_text o.Equal = codes "="
operator_text o.LessOrGreater = codes "<>"
operator_text o.NotEqual = codes "!="
operator_text o.Less = codes "<"
operator_text o.LessOrEqual = codes "<="
operator_text o.Greater = codes ">"
operator_text o.GreaterOrEqual = codes ">="

-- the keywords
abbrev pub keywords : List Symbol
keywords =
    s.Create ∷ s.Table ∷ s.Like ∷ s.Stream ∷ s.As ∷ s.Insert ∷ s.Into ∷ s.Select ∷ s.From ∷ s.Where ∷ s.Order
    ∷ s.Asc ∷ s.Desc ∷ s.Limit ∷ s.Merge ∷ s.Not ∷ s.And ∷ s.Or ∷ s.In ∷ s.Show ∷ s.Histogram ∷ s.Partitions ∷ []

-- the punctuation
abbrev pub punctuation : List Symbol
punctuation = s.Semicolon ∷ s.Comma ∷ s.OpenParen ∷ s.CloseParen ∷ s.Star ∷ []

-- the columns of a row, in their order
abbrev pub columns : List Column
columns = c.Gentime ∷ c.SeqNum ∷ c.Rectime ∷ c.Link ∷ c.Pname ∷ c.Apid ∷ c.Length ∷ c.Packet ∷ []

-- the operators
abbrev pub operators : List ComparisonOperator
operators = o.Equal ∷ o.LessOrGreater ∷ o.NotEqual ∷ o.Less ∷ o.LessOrEqual ∷ o.Greater ∷ o.GreaterOrEqual ∷ []

-- the keyword that octets spell, in any case
unfoldable pub read_keyword : List ℕ → Option Symbol
read_keyword octets = find (λ k. str_eq_ignore_ascii_case (symbol_text k) octets) keywords

-- the column that octets spell, in any case
unfoldable pub read_column : List ℕ → Option Column
read_column octets = find (λ k. str_eq_ignore_ascii_case (column_text k) octets) columns

-- the punctuation that octets spell
unfoldable pub read_punctuation : List ℕ → Option Symbol
read_punctuation octets = find (λ k. str_eq_ignore_ascii_case (symbol_text k) octets) punctuation

-- the operator that octets spell
unfoldable pub read_operator : List ℕ → Option ComparisonOperator
read_operator octets = find (λ k. str_eq_ignore_ascii_case (operator_text k) octets) operators
