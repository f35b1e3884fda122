-- The bounds of a condition: times and packet names outside which no row with a time of the clock meets it.
use Rattle.std.specs.Prelude.{ℕ, List, [], ◌∷◌, ◌++◌, fold, filter, flat_map, map, reverse, option_to_list, nat_eq, Option, Some, None, ℤ, pos, ◌+ℤ◌, int_lt, not, Bool, if◌then◌else◌}
use Rattle.std.specs.Int.{int_min, int_max}
use Rattle.std.specs.List.{list_any}
use Rattle.partitions.specs.declared.bounds.Bounds.{Bounds}
use Rattle.ssql_tokens.specs.declared.symbols.ComparisonOperator.{ComparisonOperator}
use Rattle.ssql_tokens.specs.declared.symbols.ComparisonOperator.TheVariants as op
use Rattle.ssql_conditions.specs.declared.predicate.NumberColumn.TheVariants as n
use Rattle.ssql_conditions.specs.declared.predicate.NumberTest.{NumberTest}
use Rattle.ssql_conditions.specs.declared.predicate.NumberTest.TheVariants as nt
use Rattle.ssql_conditions.specs.declared.predicate.NameTest.{NameTest}
use Rattle.ssql_conditions.specs.declared.predicate.NameTest.TheVariants.{Is, IsNot, In}
use Rattle.ssql_conditions.specs.declared.predicate.TypedPredicate.{TypedPredicate}
use Rattle.ssql_conditions.specs.declared.predicate.TypedPredicate.TheVariants.{Number, Pname}
use Rattle.ssql_conditions.specs.declared.bounds.BoundsGroup.{BoundsGroup}
use Rattle.ssql_conditions.specs.Formulas.{Formula, Meaning, OpenGroup, meaning_of, negated}

-- ---- ranges of times, half open

-- the end of the clock's range: 10000-01-01T00:00:00, in milliseconds since 1970
abbrev pub clock_end : ℤ
clock_end = pos 253402300800000

-- the bounds from one time to another; where no time lies between, the range is written 0 to 0
abbrev pub range_bounds : ℤ → ℤ → Option (List ℕ) → Bounds
range_bounds from to names =
    if int_lt from to then record { from = from; to = to; names = names } else record { from = pos 0; to = pos 0; names = names }

-- no time lies in the range
abbrev pub is_empty_range : Bounds → Bool
is_empty_range bounds = not (int_lt bounds.from bounds.to)

-- what of a range lies in the clock's, for all packet names
abbrev pub clock_bounds : ℤ → ℤ → Bounds
clock_bounds from to = range_bounds (int_max from (pos 0)) (int_min to clock_end) None

-- all times and names
abbrev pub all_bounds : Bounds
all_bounds = record { from = pos 0; to = clock_end; names = None }

-- no time
abbrev pub no_bounds : Bounds
no_bounds = record { from = pos 0; to = pos 0; names = None }

-- ---- predicates

-- of a comparison of a generation time
abbrev pub comparison_bounds : ComparisonOperator → ℤ → Bounds
comparison_bounds op.Equal x = clock_bounds x (x +ℤ pos 1)
comparison_bounds op.Less x = clock_bounds (pos 0) x
comparison_bounds op.LessOrEqual x = clock_bounds (pos 0) (x +ℤ pos 1)
comparison_bounds op.Greater x = clock_bounds (x +ℤ pos 1) clock_end
comparison_bounds op.GreaterOrEqual x = clock_bounds x clock_end
comparison_bounds op.LessOrGreater x = all_bounds
comparison_bounds op.NotEqual x = all_bounds

-- of a test of a generation time
abbrev pub gentime_bounds : NumberTest → Bounds
gentime_bounds (nt.Compare operator x) = comparison_bounds operator x
gentime_bounds (nt.In []) = no_bounds
gentime_bounds (nt.In (x ∷ xs)) = clock_bounds (fold int_min x xs) (fold int_max x xs +ℤ pos 1)

-- all times, and these packet names
abbrev pub name_bounds : List ℕ → Bounds
name_bounds names = record { from = pos 0; to = clock_end; names = Some names }

-- of a packet name; one that no packet has is left out
abbrev pub pname_bounds : NameTest → Bounds
pname_bounds (Is x) = name_bounds (option_to_list x)
pname_bounds (IsNot x) = all_bounds
pname_bounds (In xs) = name_bounds (flat_map option_to_list xs)

-- of a predicate: only generation times and packet names bound anything
abbrev pub predicate_bounds : TypedPredicate → Bounds
predicate_bounds (Number n.Gentime test) = gentime_bounds test
predicate_bounds (Number n.SeqNum test) = all_bounds
predicate_bounds (Number n.Rectime test) = all_bounds
predicate_bounds (Number n.Link test) = all_bounds
predicate_bounds (Number n.Apid test) = all_bounds
predicate_bounds (Number n.Length test) = all_bounds
predicate_bounds (Pname test) = pname_bounds test

-- ---- AND and OR

-- a packet name is listed
abbrev pub has_pname : List ℕ → ℕ → Bool
has_pname names pname = list_any (nat_eq pname) names

-- the names in both
abbrev pub names_in_both : Option (List ℕ) → Option (List ℕ) → Option (List ℕ)
names_in_both None names = names
names_in_both (Some names) None = Some names
names_in_both (Some names) (Some others) = Some (filter (has_pname others) names)

-- the names in either
abbrev pub names_in_either : Option (List ℕ) → Option (List ℕ) → Option (List ℕ)
names_in_either None names = None
names_in_either (Some names) None = None
names_in_either (Some names) (Some others) = Some (names ++ others)

-- what lies in both
abbrev pub both_bounds : Bounds → Bounds → Bounds
both_bounds a b = range_bounds (int_max a.from b.from) (int_min a.to b.to) (names_in_both a.names b.names)

-- the least range and the names that cover both
abbrev pub covering_bounds : Bounds → Bounds → Bounds
covering_bounds a b = record { from = int_min a.from b.from; to = int_max a.to b.to; names = names_in_either a.names b.names }

-- what covers both; an empty range adds nothing
abbrev pub either_bounds : Bounds → Bounds → Bounds
either_bounds a b = if is_empty_range a then b else (if is_empty_range b then a else covering_bounds a b)

-- NOT, AND and OR of bounds: NOT bounds nothing
abbrev pub bounding : Meaning Bounds
bounding = record { always_is = all_bounds; never_is = no_bounds; of_predicate = predicate_bounds; negate = λ bounds. all_bounds; both = both_bounds; either = either_bounds }

-- the bounds of a condition
abbrev pub bounds_of : Formula → Bounds
bounds_of formula = meaning_of bounding formula

-- what so many NOT make of bounds
abbrev pub negated_bounds : ℕ → Bounds → Bounds
negated_bounds nots bounds = negated bounding nots bounds

-- ---- the open parentheses as the code keeps them

-- one of them
abbrev pub bounds_group : BoundsGroup → OpenGroup Bounds
bounds_group g = record { any = g.any; all = g.all; nots = g.nots }

-- all, the innermost first, of which the outer ones are kept the innermost last
abbrev pub bounds_groups : BoundsGroup → List BoundsGroup → List (OpenGroup Bounds)
bounds_groups inner outer = bounds_group inner ∷ map bounds_group (reverse outer)
