-- What the values of each column are, and what each column may be compared with.
--
--     column              type        literals                               comparisons
--     gentime, rectime    TIMESTAMP   a number, or a time text in a string   each
--     seqNum, link        INT         a number                               each
--     apid, length        INT         a number                               each
--     pname               ENUM        a string                               `=`, `<>`, `!=` and IN
--     packet              BINARY      none                                   none
use Rattle.std.specs.Prelude.{ℕ, List, Option, Some, None, is_some, Bool, true, false, ◌&&◌, if◌then◌else◌}
use Rattle.time_text.specs.TimeText.{time_of}
use Rattle.ssql_tokens.specs.declared.symbols.Column.{Column}
use Rattle.ssql_tokens.specs.declared.symbols.Column.TheVariants as col
use Rattle.ssql_tokens.specs.declared.symbols.ComparisonOperator.{ComparisonOperator}
use Rattle.ssql_tokens.specs.declared.symbols.ComparisonOperator.TheVariants as op
use Rattle.ssql_parse.specs.declared.condition.Literal.{Literal}
use Rattle.ssql_parse.specs.declared.condition.Literal.TheVariants as l
use Rattle.ssql_conditions.specs.declared.predicate.NumberColumn.{NumberColumn}
use Rattle.ssql_conditions.specs.declared.predicate.NumberColumn.TheVariants as n
use Rattle.ssql_types.specs.declared.columns.ColumnKind.{ColumnKind}
use Rattle.ssql_types.specs.declared.columns.ColumnKind.TheVariants as k
use Rattle.ssql_types.specs.declared.rules.Rule.{Rule}
use Rattle.ssql_types.specs.declared.rules.Rule.TheVariants.{WrongType, OutOfRange}
use Rattle.ssql_types.specs.Literals.{script_number}

-- of what kind a column's values are
abbrev pub column_kind : Column → ColumnKind
column_kind col.Gentime = k.Number n.Gentime
column_kind col.SeqNum = k.Number n.SeqNum
column_kind col.Rectime = k.Number n.Rectime
column_kind col.Link = k.Number n.Link
column_kind col.Pname = k.Pname
column_kind col.Apid = k.Number n.Apid
column_kind col.Length = k.Number n.Length
column_kind col.Packet = k.Packet

-- whether a column of numbers is a TIMESTAMP; else it is an INT
abbrev pub is_timestamp : NumberColumn → Bool
is_timestamp n.Gentime = true
is_timestamp n.SeqNum = false
is_timestamp n.Rectime = true
is_timestamp n.Link = false
is_timestamp n.Apid = false
is_timestamp n.Length = false

-- whether an operator is `=`
abbrev pub is_equality : ComparisonOperator → Bool
is_equality op.Equal = true
is_equality op.LessOrGreater = false
is_equality op.NotEqual = false
is_equality op.Less = false
is_equality op.LessOrEqual = false
is_equality op.Greater = false
is_equality op.GreaterOrEqual = false

-- whether an operator asks for an order: `<`, `<=`, `>` or `>=`
abbrev pub is_order : ComparisonOperator → Bool
is_order op.Equal = false
is_order op.LessOrGreater = false
is_order op.NotEqual = false
is_order op.Less = true
is_order op.LessOrEqual = true
is_order op.Greater = true
is_order op.GreaterOrEqual = true

-- ---- the rule that a token of a condition breaks, if it breaks one

-- the column: a packet is compared with nothing
abbrev pub column_rule : ColumnKind → Option Rule
column_rule (k.Number column) = None
column_rule k.Pname = None
column_rule k.Packet = Some WrongType

-- the operator: packet names have no order
abbrev pub operator_rule : ColumnKind → ComparisonOperator → Option Rule
operator_rule (k.Number column) operator = None
operator_rule k.Pname operator = if is_order operator then Some WrongType else None
operator_rule k.Packet operator = None  -- of no account: its column is refused

-- a number: it lies from -2^63 to 2^63 - 1
abbrev pub number_rule : List ℕ → Option Rule
number_rule text = if is_some (script_number text) then None else Some OutOfRange

-- a string against a number: it is a time text, and the column a TIMESTAMP
abbrev pub time_rule : NumberColumn → List ℕ → Option Rule
time_rule column text = if is_timestamp column && is_some (time_of text) then None else Some WrongType

-- the literal
abbrev pub literal_rule : ColumnKind → Literal → Option Rule
literal_rule (k.Number column) (l.Number text) = number_rule text
literal_rule (k.Number column) (l.Quoted text) = time_rule column text
literal_rule k.Pname (l.Number text) = Some WrongType
literal_rule k.Pname (l.Quoted text) = None
literal_rule k.Packet literal = None  -- of no account: its column is refused
