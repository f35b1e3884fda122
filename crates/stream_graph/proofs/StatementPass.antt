-- Going over the statements once finds the tables of a row's route.
use Rattle.std.proofs.Common.{◌≡◌, ◌==◌, ◌+◌, ℕ, zero, suc, List, [], ◌∷◌, ◌++◌, length, length-append, fold, Bool, true, false, cond, ◌&&◌, ◌||◌, Result, IfOk, refl, sym, ap, ◌∙◌, subst, arith}
use Rattle.std.specs.List.{list_any}
use Rattle.std.proofs.lemmas.Bool.{eqb-true, eqb-false}
use Rattle.std.proofs.lemmas.Result.{IfOk-weaker}
use Rattle.arch_types.specs.declared.row.Row.{Row}
use Rattle.ssql_conditions.specs.Truth.{is_true}
use Rattle.ssql_types.specs.declared.query.TypedFlow.{TypedFlow}
use Rattle.ssql_types.specs.declared.sources.RouteSource.{RouteSource}
use Rattle.ssql_types.specs.declared.sources.RouteSource.TheVariants as src
use Rattle.stream_graph.specs.declared.statement.RouteStatement.{RouteStatement}
use Rattle.stream_graph.specs.declared.statement.RouteStatement.TheVariants as rs
use Rattle.stream_graph.specs.RouteTables.{is_given_by, flow_passes_on, stream_passes_on, tables_reached, with_table, route_of, has_passed, tables_after}
use Rattle.stream_graph.proofs.StreamPaths.{passing, does_pass}

-- ---- what is noted

new_note : (passed : List Bool) (passes : Bool) → has_passed (passed ++ passes ∷ []) (length passed) ≡ passes
new_note [] passes = refl
new_note (p ∷ passed) passes = new_note passed passes

old_note : (passed : List Bool) (passes : Bool) (n : ℕ) → (n ≡ length passed → ⊥) → has_passed (passed ++ passes ∷ []) n ≡ has_passed passed n
old_note [] passes zero other = absurd (other refl)
old_note [] passes (suc n) other = refl
old_note (p ∷ passed) passes zero other = refl
old_note (p ∷ passed) passes (suc n) other = old_note passed passes n (λ e. other (ap suc e))

-- Of each stream above, the nearest first, is noted whether it passes a row on.
pub record AreNoted (row : Row) (above : List TypedFlow) (passed : List Bool) : Type 0 where
  pub count : length passed ≡ length above
  pub each : (n : ℕ) → has_passed passed n ≡ stream_passes_on row above n

none_noted : (row : Row) → AreNoted row [] []
none_noted row = record { count = refl; each = λ n. refl }

-- ---- what passes a row on goes by what streams do

given_alike : (f g : ℕ → Bool) → ((n : ℕ) → f n ≡ g n) → (source : RouteSource) → is_given_by f source ≡ is_given_by g source
given_alike f g alike src.Packets = refl
given_alike f g alike (src.Stream n) = alike n

any_alike : (f g : ℕ → Bool) → ((n : ℕ) → f n ≡ g n) → (sources : List RouteSource) → list_any (is_given_by f) sources ≡ list_any (is_given_by g) sources
any_alike f g alike [] = refl
any_alike f g alike (source ∷ sources) =
    ap (λ (b : Bool). b || list_any (is_given_by f) sources) (given_alike f g alike source)
    ∙ ap (λ (b : Bool). is_given_by g source || b) (any_alike f g alike sources)

noted_passes : (row : Row) (above : List TypedFlow) (passed : List Bool) (flow : TypedFlow) → AreNoted row above passed → flow_passes_on (has_passed passed) row flow ≡ does_pass row above flow
noted_passes row above passed flow noted =
    ap (λ (b : Bool). is_true row flow.condition && b) (any_alike (has_passed passed) (passing row above) noted.each flow.sources)

-- ---- a stream more

stream_or_above : (row : Row) (above : List TypedFlow) (passed : List Bool) (stream : TypedFlow) → AreNoted row above passed → (n : ℕ) (b : Bool) → (n == length above) ≡ b →
    has_passed (passed ++ flow_passes_on (has_passed passed) row stream ∷ []) n ≡ cond b (does_pass row above stream) (stream_passes_on row above n)
stream_or_above row above passed stream noted n true same =
    let place : n ≡ length passed = eqb-true n (length above) same ∙ sym noted.count in
    ap (λ (k : ℕ). has_passed (passed ++ flow_passes_on (has_passed passed) row stream ∷ []) k) place
    ∙ new_note passed (flow_passes_on (has_passed passed) row stream) ∙ noted_passes row above passed stream noted
stream_or_above row above passed stream noted n false other =
    old_note passed (flow_passes_on (has_passed passed) row stream) n (λ e. eqb-false n (length above) other (e ∙ noted.count)) ∙ noted.each n

one_more_noted : (row : Row) (above : List TypedFlow) (passed : List Bool) (stream : TypedFlow) → AreNoted row above passed →
    AreNoted row (stream ∷ above) (passed ++ flow_passes_on (has_passed passed) row stream ∷ [])
one_more_noted row above passed stream noted =
    let longer : length (passed ++ flow_passes_on (has_passed passed) row stream ∷ []) ≡ length passed + 1 = length-append passed (flow_passes_on (has_passed passed) row stream ∷ []) in
    record {
      count = (let same = noted.count in omega (arith, longer, same));
      each = λ n. stream_or_above row above passed stream noted n (n == length above) refl;
    }

-- ---- all statements

insert_alike : (row : Row) (above : List TypedFlow) (passed : List Bool) (more : List RouteStatement) (tables : List ℕ) (table : ℕ) (b : Bool) →
    ((sofar : List ℕ) → tables_after row more passed sofar ≡ fold with_table sofar (tables_reached row above more)) →
    tables_after row more passed (cond b (with_table tables table) tables) ≡ fold with_table tables (cond b (table ∷ []) [] ++ tables_reached row above more)
insert_alike row above passed more tables table true later = later (with_table tables table)
insert_alike row above passed more tables table false later = later tables

pass_folds : (row : Row) (statements : List RouteStatement) (above : List TypedFlow) (passed : List Bool) (tables : List ℕ) → AreNoted row above passed →
    tables_after row statements passed tables ≡ fold with_table tables (tables_reached row above statements)
pass_folds row [] above passed tables noted = refl
pass_folds row (rs.Stream stream ∷ more) above passed tables noted =
    pass_folds row more (stream ∷ above) (passed ++ flow_passes_on (has_passed passed) row stream ∷ []) tables (one_more_noted row above passed stream noted)
pass_folds row (rs.Insert table flow ∷ more) above passed tables noted =
    ap (λ (b : Bool). tables_after row more passed (cond b (with_table tables table) tables)) (noted_passes row above passed flow noted)
    ∙ insert_alike row above passed more tables table (does_pass row above flow) (λ sofar. pass_folds row more above passed sofar noted)

pass_is_route : (route : List RouteStatement) (row : Row) → tables_after row route [] [] ≡ route_of route row
pass_is_route route row = pass_folds row route [] [] [] (none_noted row)

-- what holds of a row's route holds of the tables that the pass finds
pub of_pass : {E : Type 0} (P : List ℕ → Type 0) (route slice : List RouteStatement) (row : Row) (found : Result (List ℕ) E) → slice ≡ route →
    IfOk found (λ tables. tables ≡ tables_after row slice [] []) → P (route_of route row) → IfOk found P
of_pass P route slice row found same is holds =
    IfOk-weaker found (λ tables. tables ≡ tables_after row slice [] []) P
    (λ tables e. subst P (sym (e ∙ ap (λ (ss : List RouteStatement). tables_after row ss [] []) same ∙ pass_is_route route row)) holds) is
