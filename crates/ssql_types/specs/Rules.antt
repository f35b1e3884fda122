-- The rules that the tokens of a script may break, and the first that is broken.
use Rattle.std.specs.Prelude.{ℕ, List, [], ◌∷◌, drop, slice_index, Option, Some, None, option_map}
use Rattle.ssql_types.specs.declared.not_typed.NotTyped.{NotTyped}
use Rattle.ssql_types.specs.declared.not_typed.NotTyped.TheVariants as r
use Rattle.ssql_types.specs.declared.rules.Rule.{Rule}
use Rattle.ssql_types.specs.declared.rules.Rule.TheVariants.{Misplaced, WrongType, NameTaken, UnknownStream, WrongForm, OutOfRange}

-- the number of a rule; rules 1 and 2 are those of the tokens and of the grammar
abbrev pub sql_rule_number : Rule → ℕ
sql_rule_number Misplaced = 3
sql_rule_number WrongType = 4
sql_rule_number NameTaken = 5
sql_rule_number UnknownStream = 6
sql_rule_number WrongForm = 7
sql_rule_number OutOfRange = 8

-- What is wrong with a token: it breaks a rule, or it names a table that isn't there.
pub data SqlFault : Type 0 where
  broken : Rule → SqlFault
  unknown : List ℕ → SqlFault

-- what is wrong with a token, if anything is
abbrev pub TokenFault : Type 0
TokenFault = Option SqlFault

-- nothing is wrong with a token
abbrev pub no_fault : TokenFault
no_fault = None

-- the rule that a token breaks, if it breaks one
abbrev pub if_broken : Option Rule → TokenFault
if_broken rule = option_map broken rule

-- a fault, in the token that begins at an octet
abbrev pub sql_fault_at : ℕ → SqlFault → NotTyped
sql_fault_at at (broken rule) = r.BadSql at (sql_rule_number rule)
sql_fault_at at (unknown name) = r.UnknownTable name

-- the octets at which tokens begin, without the first
abbrev pub later_places : List ℕ → List ℕ
later_places places = drop 1 places

-- What is wrong with the first token with which something is, if there is one. There is a fault or none for each token, in the order in
-- which they are written, and the octet at which each begins.
abbrev pub first_sql_fault : List TokenFault → List ℕ → Option NotTyped
first_sql_fault [] places = None
first_sql_fault (None ∷ faults) places = first_sql_fault faults (later_places places)
first_sql_fault (Some fault ∷ faults) places = Some (sql_fault_at (slice_index places 0) fault)

-- the octets at which the tokens behind these begin
abbrev pub places_behind : List TokenFault → List ℕ → List ℕ
places_behind [] places = places
places_behind (fault ∷ faults) places = places_behind faults (later_places places)
