-- Readers of queries.
use Rattle.std.specs.Prelude.{ℕ, List, Option, Some, None, if◌then◌else◌}
use Rattle.ssql_tokens.specs.declared.token.Token.{Token}
use Rattle.ssql_tokens.specs.declared.token.Token.TheVariants as t
use Rattle.ssql_tokens.specs.declared.symbols.Symbol.TheVariants as w
use Rattle.ssql_parse.specs.declared.condition.Piece.{Piece}
use Rattle.ssql_parse.specs.declared.query.Columns.{Columns}
use Rattle.ssql_parse.specs.declared.query.Columns.TheVariants.{All, Listed}
use Rattle.ssql_parse.specs.declared.query.QuerySource.{QuerySource}
use Rattle.ssql_parse.specs.declared.query.QuerySource.TheVariants.{One, Merge}
use Rattle.arch_types.specs.declared.direction.Direction.{Direction}
use Rattle.arch_types.specs.declared.direction.Direction.TheVariants.{Ascending, Descending}
use Rattle.ssql_parse.specs.declared.query.Query.{Query}
use Rattle.ssql_tokens.specs.SymbolTests.{same_symbol}
use Rattle.ssql_parse.specs.Reading.{TokenReader, taken, listed, expect, both, behind, mapped, either, optional}
use Rattle.ssql_parse.specs.Pieces.{as_column, as_name, as_number, bracketed, pieces_at}

-- the columns of a query
unfoldable pub columns_at : TokenReader Columns
columns_at = either w.Star (mapped (λ u. All) (expect w.Star)) (mapped Listed (listed as_column))

-- the source of a query
unfoldable pub source_at : TokenReader QuerySource
source_at = either w.Merge (mapped Merge (behind w.Merge (bracketed (listed as_name)))) (mapped One (taken as_name))

-- the direction that a token is
abbrev pub as_direction : Token → Option Direction
as_direction (t.Symbol x) = if same_symbol x w.Asc then Some Ascending else (if same_symbol x w.Desc then Some Descending else None)
as_direction (t.Column x) = None
as_direction (t.Operator x) = None
as_direction (t.Name x) = None
as_direction (t.Number x) = None
as_direction (t.Quoted x) = None

-- what a query consists of, in its order
abbrev pub Parts : Type 0
Parts = Columns × (QuerySource × (Option (List Piece) × (Option Direction × Option (List ℕ))))

-- a query of its parts
abbrev pub query_of : Parts → Query
query_of x = record { columns = x.0; source = x.1.0; filter = x.1.1.0; order = x.1.1.1.0; limit = x.1.1.1.1 }

-- WHERE, ORDER and LIMIT, where they come
unfoldable pub clauses_at : TokenReader (Option (List Piece) × (Option Direction × Option (List ℕ)))
clauses_at = both (optional w.Where pieces_at) (both (optional w.Order (taken as_direction)) (optional w.Limit (taken as_number)))

-- a query
unfoldable pub query_at : TokenReader Query
query_at = mapped query_of (behind w.Select (both columns_at (behind w.From (both source_at clauses_at))))
