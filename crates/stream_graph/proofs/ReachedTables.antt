-- The tables of a row's route: those that it reaches, each once, in the order in which INSERTs reach them.
use Rattle.std.proofs.Common.{◌≡◌, ◌⊎◌, ◌↔◌, inl, inr, ◌<◌, ℕ, List, [], ◌∷◌, ◌++◌, length, take, fold, nat_eq, Contains, Bool, true, false, cond, refl, sym, ap, ◌∙◌, subst, append_assoc, append-nil, arith}
use Rattle.std.specs.List.{list_any, AllByRecursion, IsDistinct}
use Rattle.std.proofs.lemmas.Bool.{eqb-true}
use Rattle.std.proofs.lemmas.Cmp.{nat_eq_equiv}
use Rattle.std.proofs.lemmas.List.{take_at}
use Rattle.std.proofs.lemmas.List.Elements.{All-contains, All-from_recursion, Contains-append_cases, Contains-append_left, Contains-append_right, Contains-push, Contains-push_cases}
use Rattle.std.proofs.lemmas.List.Sums.{fold-append}
use Rattle.std.proofs.lemmas.Map.Keys.{IsDistinct-push}
use Rattle.std.proofs.lemmas.Map.Steps.{length-le_from_distinct_below}
use Rattle.std.proofs.lemmas.Map.Views.{Contains-from_any}
use Rattle.arch_types.specs.declared.row.Row.{Row}
use Rattle.ssql_types.specs.declared.query.TypedFlow.{TypedFlow}
use Rattle.stream_graph.specs.declared.statement.RouteStatement.{RouteStatement}
use Rattle.stream_graph.specs.declared.statement.RouteStatement.TheVariants as rs
use Rattle.stream_graph.specs.Routes.{PassesOn, streams_behind, ReachesBeside, Reaches, AreInOrder}
use Rattle.stream_graph.specs.RouteTables.{tables_reached, with_table, route_of}
use Rattle.stream_graph.specs.Laws.{NamesTableBelow, TablesAreNamed}
use Rattle.stream_graph.proofs.StreamPaths.{does_pass, test_passes, passes_test}

-- ---- lists of one

in_none : (t : ℕ) → Contains [] t → ⊥
in_none t is = let none : is.0 < 0 = is.1 in omega (arith, none)

is_it : (x t : ℕ) → Contains (x ∷ []) t → x ≡ t
is_it x t is = by (Contains-push_cases [] x t is)
  where
    by : Contains [] t ⊎ (x ≡ t) → x ≡ t
    by (inl none) = absurd (in_none t none)
    by (inr same) = same

itself : (t : ℕ) → Contains (t ∷ []) t
itself t = (0, omega arith, refl)

-- ---- the tables that INSERTs name

module _ (row : Row) where
  insert_reaches : (above : List TypedFlow) (table : ℕ) (flow : TypedFlow) (more : List RouteStatement) (t : ℕ) (b : Bool) → does_pass row above flow ≡ b → Contains (cond b (table ∷ []) []) t →
      ReachesBeside above (rs.Insert table flow ∷ more) row t
  insert_reaches above table flow more t true e is =
      record { before = []; flow = flow; later = more; insert = ap (λ (n : ℕ). rs.Insert n flow ∷ more) (is_it table t is); passes = test_passes row above flow e }
  insert_reaches above table flow more t false e is = absurd (in_none t is)

  behind_stream : (above : List TypedFlow) (stream : TypedFlow) (more : List RouteStatement) (t : ℕ) → ReachesBeside (stream ∷ above) more row t → ReachesBeside above (rs.Stream stream ∷ more) row t
  behind_stream above stream more t r =
      record { before = rs.Stream stream ∷ r.before; flow = r.flow; later = r.later; insert = ap (λ (ss : List RouteStatement). rs.Stream stream ∷ ss) r.insert; passes = r.passes }

  behind_insert : (above : List TypedFlow) (table : ℕ) (flow : TypedFlow) (more : List RouteStatement) (t : ℕ) → ReachesBeside above more row t → ReachesBeside above (rs.Insert table flow ∷ more) row t
  behind_insert above table flow more t r =
      record { before = rs.Insert table flow ∷ r.before; flow = r.flow; later = r.later; insert = ap (λ (ss : List RouteStatement). rs.Insert table flow ∷ ss) r.insert; passes = r.passes }

  here_or_later : (above : List TypedFlow) (table : ℕ) (flow : TypedFlow) (more : List RouteStatement) (t : ℕ) → (Contains (tables_reached row above more) t → ReachesBeside above more row t) →
      Contains (cond (does_pass row above flow) (table ∷ []) []) t ⊎ Contains (tables_reached row above more) t → ReachesBeside above (rs.Insert table flow ∷ more) row t
  here_or_later above table flow more t later (inl here) = insert_reaches above table flow more t (does_pass row above flow) refl here
  here_or_later above table flow more t later (inr rest) = behind_insert above table flow more t (later rest)

  found_reaches : (above : List TypedFlow) (route : List RouteStatement) (t : ℕ) → Contains (tables_reached row above route) t → ReachesBeside above route row t
  found_reaches above [] t is = absurd (in_none t is)
  found_reaches above (rs.Stream stream ∷ more) t is = behind_stream above stream more t (found_reaches (stream ∷ above) more t is)
  found_reaches above (rs.Insert table flow ∷ more) t is =
      here_or_later above table flow more t (λ later. found_reaches above more t later)
      (Contains-append_cases (cond (does_pass row above flow) (table ∷ []) []) (tables_reached row above more) t is)

  reaching_found : (before : List RouteStatement) (above : List TypedFlow) (flow : TypedFlow) (later : List RouteStatement) (t : ℕ) → PassesOn (streams_behind above before) flow row →
      Contains (tables_reached row above (before ++ rs.Insert t flow ∷ later)) t
  reaching_found [] above flow later t passes =
      subst (λ (b : Bool). Contains (cond b (t ∷ []) [] ++ tables_reached row above later) t) (sym (passes_test row above flow passes))
      (Contains-append_left (t ∷ []) (tables_reached row above later) t (itself t))
  reaching_found (rs.Stream stream ∷ before) above flow later t passes = reaching_found before (stream ∷ above) flow later t passes
  reaching_found (rs.Insert table other ∷ before) above flow later t passes =
      Contains-append_right (cond (does_pass row above other) (table ∷ []) []) (tables_reached row above (before ++ rs.Insert t flow ∷ later)) t (reaching_found before above flow later t passes)

  reaches_found : (route : List RouteStatement) (t : ℕ) → Reaches route row t → Contains (tables_reached row [] route) t
  reaches_found route t r = subst (λ (ss : List RouteStatement). Contains (tables_reached row [] ss) t) (sym r.insert) (reaching_found r.before [] r.flow r.later t r.passes)

  reached_append : (above : List TypedFlow) (xs ys : List RouteStatement) → tables_reached row above (xs ++ ys) ≡ tables_reached row above xs ++ tables_reached row (streams_behind above xs) ys
  reached_append above [] ys = refl
  reached_append above (rs.Stream stream ∷ xs) ys = reached_append (stream ∷ above) xs ys
  reached_append above (rs.Insert table flow ∷ xs) ys =
      ap (λ (tables : List ℕ). cond (does_pass row above flow) (table ∷ []) [] ++ tables) (reached_append above xs ys)
      ∙ sym (append_assoc (cond (does_pass row above flow) (table ∷ []) []) (tables_reached row above xs) (tables_reached row (streams_behind above xs) ys))

-- ---- each once

with_one : (tables : List ℕ) (table t : ℕ) (b : Bool) → Contains (cond b tables (tables ++ table ∷ [])) t → Contains tables t ⊎ (table ≡ t)
with_one tables table t true is = inl is
with_one tables table t false is = Contains-push_cases tables table t is

one_with : (tables : List ℕ) (table t : ℕ) (b : Bool) → list_any (nat_eq table) tables ≡ b → Contains tables t ⊎ (table ≡ t) → Contains (cond b tables (tables ++ table ∷ [])) t
one_with tables table t true e (inl is) = is
one_with tables table t true e (inr same) = subst (λ (q : ℕ). Contains tables q) same (Contains-from_any {eq = nat_eq} (λ x y is. eqb-true x y is) table tables e)
one_with tables table t false e (inl is) = Contains-append_left tables (table ∷ []) t is
one_with tables table t false e (inr same) = subst (λ (q : ℕ). Contains (tables ++ table ∷ []) q) same (Contains-push tables table)

folded_has : (tables xs : List ℕ) (t : ℕ) → Contains (fold with_table tables xs) t → Contains tables t ⊎ Contains xs t
folded_has tables [] t is = inl is
folded_has tables (x ∷ xs) t is = by (folded_has (with_table tables x) xs t is)
  where
    known : Contains tables t ⊎ (x ≡ t) → Contains tables t ⊎ Contains (x ∷ xs) t
    known (inl among) = inl among
    known (inr same) = inr (subst (λ (q : ℕ). Contains (x ∷ xs) q) same (Contains-append_left (x ∷ []) xs x (itself x)))

    by : Contains (with_table tables x) t ⊎ Contains xs t → Contains tables t ⊎ Contains (x ∷ xs) t
    by (inl first) = known (with_one tables x t (list_any (nat_eq x) tables) first)
    by (inr later) = inr (Contains-append_right (x ∷ []) xs t later)

has_folded : (tables xs : List ℕ) (t : ℕ) → Contains tables t ⊎ Contains xs t → Contains (fold with_table tables xs) t
has_folded tables [] t (inl among) = among
has_folded tables [] t (inr none) = absurd (in_none t none)
has_folded tables (x ∷ xs) t is = has_folded (with_table tables x) xs t (by is)
  where
    first_or_later : Contains (x ∷ []) t ⊎ Contains xs t → Contains (with_table tables x) t ⊎ Contains xs t
    first_or_later (inl first) = inl (one_with tables x t (list_any (nat_eq x) tables) refl (inr (is_it x t first)))
    first_or_later (inr later) = inr later

    by : Contains tables t ⊎ Contains (x ∷ xs) t → Contains (with_table tables x) t ⊎ Contains xs t
    by (inl among) = inl (one_with tables x t (list_any (nat_eq x) tables) refl (inl among))
    by (inr among) = first_or_later (Contains-append_cases (x ∷ []) xs t among)

none_distinct : IsDistinct nat_eq []
unfolding IsDistinct
none_distinct = tt

one_more_distinct : (tables : List ℕ) (table : ℕ) (b : Bool) → list_any (nat_eq table) tables ≡ b → IsDistinct nat_eq tables → IsDistinct nat_eq (cond b tables (tables ++ table ∷ []))
one_more_distinct tables table true e distinct = distinct
one_more_distinct tables table false e distinct = IsDistinct-push nat_eq_equiv tables table distinct e

folded_distinct : (tables xs : List ℕ) → IsDistinct nat_eq tables → IsDistinct nat_eq (fold with_table tables xs)
folded_distinct tables [] distinct = distinct
folded_distinct tables (x ∷ xs) distinct = folded_distinct (with_table tables x) xs (one_more_distinct tables x (list_any (nat_eq x) tables) refl distinct)

-- the tables so far stand first

one_longer : (tables : List ℕ) (table : ℕ) (all : List ℕ) (b : Bool) → (more : List ℕ) × (all ≡ cond b tables (tables ++ table ∷ []) ++ more) → (more : List ℕ) × (all ≡ tables ++ more)
one_longer tables table all true is = is
one_longer tables table all false is = (table ∷ is.0, is.1 ∙ append_assoc tables (table ∷ []) is.0)

folded_begins : (tables xs : List ℕ) → (more : List ℕ) × (fold with_table tables xs ≡ tables ++ more)
folded_begins tables [] = ([], sym (append-nil tables))
folded_begins tables (x ∷ xs) = one_longer tables x (fold with_table (with_table tables x) xs) (list_any (nat_eq x) tables) (folded_begins (with_table tables x) xs)

-- ---- routes

pub route_once : (route : List RouteStatement) (row : Row) → IsDistinct nat_eq (route_of route row)
route_once route row = folded_distinct [] (tables_reached row [] route) none_distinct

pub route_reached : (route : List RouteStatement) (row : Row) (t : ℕ) → Contains (route_of route row) t ↔ Reaches route row t
route_reached route row t =
    (λ is. by (folded_has [] (tables_reached row [] route) t is), λ r. has_folded [] (tables_reached row [] route) t (inr (reaches_found row route t r)))
  where
    by : Contains [] t ⊎ Contains (tables_reached row [] route) t → Reaches route row t
    by (inl none) = absurd (in_none t none)
    by (inr found) = found_reaches row [] route t found

route_begins : (before later : List RouteStatement) (row : Row) → (more : List ℕ) × (route_of (before ++ later) row ≡ route_of before row ++ more)
route_begins before later row =
    let begins = folded_begins (route_of before row) (tables_reached row (streams_behind [] before) later) in
    (begins.0, ap (fold with_table []) (reached_append row [] before later) ∙ fold-append with_table [] (tables_reached row [] before) (tables_reached row (streams_behind [] before) later) ∙ begins.1)

pub route_in_order : (route : List RouteStatement) (row : Row) → AreInOrder route row (route_of route row)
route_in_order route row = λ before later is.
    let begins = route_begins before later row in
    let first : take (length (route_of before row)) (route_of route row) ≡ route_of before row =
    ap (λ (ss : List RouteStatement). take (length (route_of before row)) (route_of ss row)) is
    ∙ ap (take (length (route_of before row))) begins.1 ∙ take_at (route_of before row) begins.0 (length (route_of before row)) refl in
    (length (route_of before row), λ t. subst (λ (tables : List ℕ). Contains tables t ↔ Reaches before row t) (sym first) (route_reached before row t))

-- ---- below a number

module _ (count : ℕ) where
  abbrev AreBelow : List ℕ → Type 0
  AreBelow tables = AllByRecursion (λ table. table < count) tables

  below_joined : (xs ys : List ℕ) → AreBelow xs → AreBelow ys → AreBelow (xs ++ ys)
  below_joined [] ys a b = b
  below_joined (x ∷ xs) ys a b = (a.0, below_joined xs ys a.1 b)

  one_below : (table : ℕ) (b : Bool) → table < count → AreBelow (cond b (table ∷ []) [])
  one_below table true below = (below, tt)
  one_below table false below = tt

  reached_below : (row : Row) (above : List TypedFlow) (route : List RouteStatement) → AllByRecursion (NamesTableBelow count) route → AreBelow (tables_reached row above route)
  reached_below row above [] named = tt
  reached_below row above (rs.Stream stream ∷ more) named = reached_below row (stream ∷ above) more named.1
  reached_below row above (rs.Insert table flow ∷ more) named =
      below_joined (cond (does_pass row above flow) (table ∷ []) []) (tables_reached row above more) (one_below table (does_pass row above flow) named.0) (reached_below row above more named.1)

  one_more_below : (tables : List ℕ) (table : ℕ) (b : Bool) → AreBelow tables → table < count → AreBelow (cond b tables (tables ++ table ∷ []))
  one_more_below tables table true a below = a
  one_more_below tables table false a below = below_joined tables (table ∷ []) a (below, tt)

  folded_below : (tables xs : List ℕ) → AreBelow tables → AreBelow xs → AreBelow (fold with_table tables xs)
  folded_below tables [] a b = a
  folded_below tables (x ∷ xs) a b = folded_below (with_table tables x) xs (one_more_below tables x (list_any (nat_eq x) tables) a b.0) b.1

pub tables_named : TablesAreNamed
tables_named = λ count route row named.
    let each : AllByRecursion (λ table. table < count) (route_of route row) = folded_below count [] (tables_reached row [] route) tt (reached_below count row [] route named) in
    record {
      each = each;
      few = length-le_from_distinct_below (route_of route row) count (route_once route row)
          (λ q is. All-contains (λ table. table < count) (route_of route row) q (All-from_recursion (λ table. table < count) (route_of route row) each)
          (Contains-from_any {eq = nat_eq} (λ x y same. eqb-true x y same) q (route_of route row) is));
    }
