-- When a condition is true of a row.
use Rattle.std.specs.Prelude.{ℕ, List, Option, Some, None, length, nat_eq, ℤ, pos, int_lt, int_le, Bool, true, false, not, ◌&&◌, ◌||◌, reverse, map, ◌∷◌}
use Rattle.std.specs.List.{list_any}
use Rattle.std.specs.Ordering.{int_eq}
use Rattle.arch_types.specs.declared.row.Row.{Row}
use Rattle.arch_types.specs.Packet.{apid_of}
use Rattle.ssql_tokens.specs.declared.symbols.ComparisonOperator.{ComparisonOperator}
use Rattle.ssql_tokens.specs.declared.symbols.ComparisonOperator.TheVariants as op
use Rattle.ssql_conditions.specs.declared.predicate.NumberColumn.{NumberColumn}
use Rattle.ssql_conditions.specs.declared.predicate.NumberColumn.TheVariants as n
use Rattle.ssql_conditions.specs.declared.predicate.NumberTest.{NumberTest}
use Rattle.ssql_conditions.specs.declared.predicate.NumberTest.TheVariants as nt
use Rattle.ssql_conditions.specs.declared.predicate.NameTest.{NameTest}
use Rattle.ssql_conditions.specs.declared.predicate.NameTest.TheVariants.{Is, IsNot, In}
use Rattle.ssql_conditions.specs.declared.predicate.TypedPredicate.{TypedPredicate}
use Rattle.ssql_conditions.specs.declared.predicate.TypedPredicate.TheVariants.{Number, Pname}
use Rattle.ssql_conditions.specs.declared.truth.TruthGroup.{TruthGroup}
use Rattle.ssql_conditions.specs.Formulas.{Formula, Meaning, OpenGroup, meaning_of, negated}

-- the value of a column in a row: milliseconds, the key's second part, the link, the APID, octets of the packet
abbrev pub number_in_row : Row → NumberColumn → ℤ
number_in_row row n.Gentime = row.key.time
number_in_row row n.SeqNum = pos row.key.seq
number_in_row row n.Rectime = row.rectime
number_in_row row n.Link = pos row.link
number_in_row row n.Apid = pos (apid_of row.packet)
number_in_row row n.Length = pos (length row.packet)

-- a number compares so with another
abbrev pub compares_as : ComparisonOperator → ℤ → ℤ → Bool
compares_as op.Equal a b = int_eq a b
compares_as op.LessOrGreater a b = not (int_eq a b)
compares_as op.NotEqual a b = not (int_eq a b)
compares_as op.Less a b = int_lt a b
compares_as op.LessOrEqual a b = int_le a b
compares_as op.Greater a b = int_lt b a
compares_as op.GreaterOrEqual a b = int_le b a

-- a number passes a test
abbrev pub number_passes : NumberTest → ℤ → Bool
number_passes (nt.Compare operator x) value = compares_as operator value x
number_passes (nt.In xs) value = list_any (int_eq value) xs

-- a packet name is this one; None is a name that no packet has
abbrev pub is_pname : ℕ → Option ℕ → Bool
is_pname pname None = false
is_pname pname (Some x) = nat_eq pname x

-- a packet name passes a test
abbrev pub name_passes : NameTest → ℕ → Bool
name_passes (Is x) pname = is_pname pname x
name_passes (IsNot x) pname = not (is_pname pname x)
name_passes (In xs) pname = list_any (is_pname pname) xs

-- a row meets a predicate
abbrev pub is_met_by : Row → TypedPredicate → Bool
is_met_by row (Number column test) = number_passes test (number_in_row row column)
is_met_by row (Pname test) = name_passes test row.pname

-- NOT, AND and OR of truths, where it is known which predicates are met
abbrev pub truths : (TypedPredicate → Bool) → Meaning Bool
truths met = record { always_is = true; never_is = false; of_predicate = met; negate = not; both = λ a b. a && b; either = λ a b. a || b }

-- the same for a row
abbrev pub truth : Row → Meaning Bool
truth row = truths (is_met_by row)

-- a condition is true of a row
abbrev pub is_true : Row → Formula → Bool
is_true row formula = meaning_of (truth row) formula

-- what so many NOT make of a truth
abbrev pub negated_truth : ℕ → Bool → Bool
negated_truth nots value = negated (truths (λ x. false)) nots value

-- ---- the open parentheses as the code keeps them

-- one of them
abbrev pub truth_group : TruthGroup → OpenGroup Bool
truth_group g = record { any = g.any; all = g.all; nots = g.nots }

-- all, the innermost first, of which the outer ones are kept the innermost last
abbrev pub truth_groups : TruthGroup → List TruthGroup → List (OpenGroup Bool)
truth_groups inner outer = truth_group inner ∷ map truth_group (reverse outer)
