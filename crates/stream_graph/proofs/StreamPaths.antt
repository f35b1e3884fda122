-- A query passes a row on exactly where the test says so.
use Rattle.std.proofs.Common.{◌≡◌, ◌+◌, ◌==◌, ℕ, List, [], ◌∷◌, ◌++◌, length, length-append, Contains, Bool, true, false, cond, ◌&&◌, refl, ap, ◌∙◌, arith}
use Rattle.std.specs.List.{list_any}
use Rattle.std.proofs.lemmas.Bool.{eqb-true, eq-eqb, ne_eqb}
use Rattle.std.proofs.lemmas.List.Folds.{Any-from_list_any, list_any-from_Any}
use Rattle.arch_types.specs.declared.row.Row.{Row}
use Rattle.ssql_conditions.specs.Truth.{is_true}
use Rattle.ssql_types.specs.declared.query.TypedFlow.{TypedFlow}
use Rattle.ssql_types.specs.declared.sources.RouteSource.{RouteSource}
use Rattle.ssql_types.specs.declared.sources.RouteSource.TheVariants as src
use Rattle.stream_graph.specs.Routes.{IsStreamAt, IsStreamPath, MeetsAll, PassesOn}
use Rattle.stream_graph.specs.RouteTables.{is_given_by, flow_passes_on, stream_passes_on}

-- ---- tests

left_true : (a b : Bool) → (a && b) ≡ true → a ≡ true
left_true true b e = refl
left_true false b e = e

right_true : (a b : Bool) → (a && b) ≡ true → b ≡ true
right_true true b e = e
right_true false b e = absurd cc

both_true : (a b : Bool) → a ≡ true → b ≡ true → (a && b) ≡ true
both_true true b e f = f
both_true false b e f = e

-- which streams pass a row on, among those above
abbrev pub passing : Row → List TypedFlow → ℕ → Bool
passing row above = λ n. stream_passes_on row above n

-- a query does
abbrev pub does_pass : Row → List TypedFlow → TypedFlow → Bool
does_pass row above flow = flow_passes_on (passing row above) row flow

-- ---- where the test says so, there is a path

-- A row meets the conditions on a path to a source.
pub record IsGiven (row : Row) (above : List TypedFlow) (source : RouteSource) : Type 0 where
  pub path : List TypedFlow
  pub streams : IsStreamPath above source path
  pub met : MeetsAll row path

-- a path stays one where another stream stands nearer
lengthened : (stream : TypedFlow) (above : List TypedFlow) (source : RouteSource) (path : List TypedFlow) → IsStreamPath above source path → IsStreamPath (stream ∷ above) source path
lengthened stream above source [] is = is
lengthened stream above source (first ∷ path) is =
    let at : IsStreamAt above source first is.0 = is.2 in
    let farther : IsStreamAt (stream ∷ above) source first is.0 = record { nearer = stream ∷ at.nearer; among = ap (λ (flows : List TypedFlow). stream ∷ flows) at.among; number = at.number } in
    (is.0, is.1, farther, is.3, is.4)

module _ (row : Row) (above : List TypedFlow) (streams : (n : ℕ) → stream_passes_on row above n ≡ true → IsGiven row above (src.Stream n)) where
  source_given : (source : RouteSource) → is_given_by (passing row above) source ≡ true → IsGiven row above source
  source_given src.Packets e = record { path = []; streams = refl; met = tt }
  source_given (src.Stream n) e = streams n e

  pub flow_given : (flow : TypedFlow) → does_pass row above flow ≡ true → PassesOn above flow row
  flow_given flow e =
      let given = list_any (is_given_by (passing row above)) flow.sources in
      let own : is_true row flow.condition ≡ true = left_true (is_true row flow.condition) given e in
      let some = Any-from_list_any (is_given_by (passing row above)) flow.sources (right_true (is_true row flow.condition) given e) in
      let by : IsGiven row above some.1 = source_given some.1 some.4 in
      record { source = some.1; path = by.path; among = (some.0, some.2, some.3); streams = by.streams; met = (own, by.met) }

  -- it's the nearest stream, or one that stands above it
  pub nearest_or_above : (stream : TypedFlow) (number : ℕ) (b : Bool) → (number == length above) ≡ b → cond b (does_pass row above stream) (stream_passes_on row above number) ≡ true →
      IsGiven row (stream ∷ above) (src.Stream number)
  nearest_or_above stream number true same e =
      let passes : PassesOn above stream row = flow_given stream e in
      let at : IsStreamAt (stream ∷ above) (src.Stream number) stream above = record { nearer = []; among = refl; number = ap (λ (n : ℕ). src.Stream n) (eqb-true number (length above) same) } in
      record { path = stream ∷ passes.path; streams = (above, passes.source, at, passes.among, passes.streams); met = passes.met }
  nearest_or_above stream number false other e =
      let given : IsGiven row above (src.Stream number) = streams number e in
      record { path = given.path; streams = lengthened stream above (src.Stream number) given.path given.streams; met = given.met }

stream_given : (row : Row) (above : List TypedFlow) (number : ℕ) → stream_passes_on row above number ≡ true → IsGiven row above (src.Stream number)
stream_given row [] number e = absurd cc
stream_given row (stream ∷ above) number e = nearest_or_above row above (λ n is. stream_given row above n is) stream number (number == length above) refl e

pub test_passes : (row : Row) (above : List TypedFlow) (flow : TypedFlow) → does_pass row above flow ≡ true → PassesOn above flow row
test_passes row above flow e = flow_given row above (λ n is. stream_given row above n is) flow e

-- ---- where there is a path, the test says so

any_given : (streams : ℕ → Bool) (sources : List RouteSource) (source : RouteSource) → Contains sources source → is_given_by streams source ≡ true → list_any (is_given_by streams) sources ≡ true
any_given streams sources source is e = list_any-from_Any (is_given_by streams) sources (is.0, source, is.1, is.2, e)

-- the stream of a number is the one below which so many stand
stream_at : (row : Row) (nearer : List TypedFlow) (stream : TypedFlow) (earlier : List TypedFlow) → stream_passes_on row (nearer ++ stream ∷ earlier) (length earlier) ≡ does_pass row earlier stream
stream_at row [] stream earlier =
    ap (λ (b : Bool). cond b (does_pass row earlier stream) (stream_passes_on row earlier (length earlier))) (eq-eqb (length earlier) (length earlier) refl)
stream_at row (other ∷ nearer) stream earlier =
    let long : length (nearer ++ stream ∷ earlier) ≡ length nearer + length (stream ∷ earlier) = length-append nearer (stream ∷ earlier) in
    let apart : (length earlier == length (nearer ++ stream ∷ earlier)) ≡ false = ne_eqb (length earlier) (length (nearer ++ stream ∷ earlier)) (λ e. omega (arith, e, long)) in
    ap (λ (b : Bool). cond b (does_pass row (nearer ++ stream ∷ earlier) other) (stream_passes_on row (nearer ++ stream ∷ earlier) (length earlier))) apart ∙ stream_at row nearer stream earlier

path_given : (row : Row) (path above : List TypedFlow) (source : RouteSource) → IsStreamPath above source path → MeetsAll row path → is_given_by (passing row above) source ≡ true
path_given row [] above source is met = ap (is_given_by (passing row above)) is
path_given row (stream ∷ path) above source is met =
    let at : IsStreamAt above source stream is.0 = is.2 in
    let next : is_given_by (passing row is.0) is.1 ≡ true = path_given row path is.0 is.1 is.4 met.1 in
    let some : list_any (is_given_by (passing row is.0)) stream.sources ≡ true = any_given (passing row is.0) stream.sources is.1 is.3 next in
    let passes : does_pass row is.0 stream ≡ true = both_true (is_true row stream.condition) (list_any (is_given_by (passing row is.0)) stream.sources) met.0 some in
    ap (is_given_by (passing row above)) at.number
    ∙ ap (λ (flows : List TypedFlow). stream_passes_on row flows (length is.0)) at.among
    ∙ stream_at row at.nearer stream is.0 ∙ passes

pub passes_test : (row : Row) (above : List TypedFlow) (flow : TypedFlow) → PassesOn above flow row → does_pass row above flow ≡ true
passes_test row above flow passes =
    let given : is_given_by (passing row above) passes.source ≡ true = path_given row passes.path above passes.source passes.streams passes.met.1 in
    both_true (is_true row flow.condition) (list_any (is_given_by (passing row above)) flow.sources) passes.met.0 (any_given (passing row above) flow.sources passes.source passes.among given)
