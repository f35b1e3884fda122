-- Which intervals a request asks for, and what a listing has of them.
use Rattle.std.specs.Prelude.{◌≡◌, ◌&&◌, ℕ, Bool, false, List, [], ◌∷◌, ◌++◌, flat_map, map, Option, Some, None, IsSomeAnd, MatchOption, ⊤, int_le, int_lt, if◌then◌else◌}
use Rattle.std.specs.Arc.{arc_value}
use Rattle.std.specs.Option.{option_to_list}
use Rattle.asks.specs.declared.ask.Request.{Request}
use Rattle.arch_types.specs.declared.row.Row.{Row}
use Rattle.intervals.specs.declared.interval.Interval.{Interval}
use Rattle.interval_walks.specs.Turns.{meets_range}
use Rattle.late_marks.specs.Mark.{is_late_by}
use Rattle.mdb_items.specs.Database.{Database}
use Rattle.param_segments.specs.declared.plan.Part.{Part}
use Rattle.param_segments.specs.declared.plan.Part.TheVariants.{Rows, Set}
use Rattle.param_segments.specs.Cells.{AreValuesOf}
use Rattle.param_segments.specs.Rows.{SetRow}
use Rattle.store_fills.specs.Filled.{HoldsRows}
use Rattle.glance_board.specs.declared.contents.PublishedMark.{PublishedMark}
use Rattle.glance.specs.declared.span.Span.{Span}

-- whether an interval meets the range of a request, which isn't empty
abbrev pub is_asked : ℕ → Request → Interval → Bool
is_asked exponent request interval = int_lt request.from request.to && meets_range exponent request.from request.to interval

-- whether an interval is one of a span
abbrev pub is_within : Span → Interval → Bool
is_within span interval = int_le span.first.0 interval.0 && int_le interval.0 span.last.0

-- whether marks begin behind a span
abbrev pub begin_behind : Span → List PublishedMark → Bool
begin_behind span [] = false
begin_behind span (mark ∷ marks) = int_lt span.last.0 mark.interval.0

-- ---- by a test of intervals

-- whether the interval of a mark passes the test, and is late
abbrev pub is_late_where : (Interval → Bool) → PublishedMark → Bool
is_late_where test mark = test mark.interval && is_late_by mark.last mark.base

-- the first late interval that passes the test
abbrev pub late_where : (Interval → Bool) → List PublishedMark → Option Interval
late_where test [] = None
late_where test (mark ∷ marks) = if is_late_where test mark then Some mark.interval else late_where test marks

-- an interval and its set, where it has one
abbrev pub SeenSet : Type 0
SeenSet = Interval × Option (List SetRow)

-- what a part has of a set
abbrev pub seen_part : Part → SeenSet
seen_part (Set interval set) = (interval, Some (arc_value set))
seen_part (Rows interval rows) = (interval, None)

-- the set of a mark, where it has one
abbrev pub set_of_mark : PublishedMark → List SeenSet
set_of_mark mark = map (λ set. (mark.interval, Some (arc_value set))) (option_to_list mark.set)

-- that, where the interval passes the test
abbrev pub set_where : (Interval → Bool) → PublishedMark → List SeenSet
set_where test mark = if test mark.interval then set_of_mark mark else []

-- the sets of the marks whose intervals pass it
abbrev pub sets_where : (Interval → Bool) → List PublishedMark → List SeenSet
sets_where test marks = flat_map (set_where test) marks

-- ---- what holds of sets

-- the values of a set are of a database
abbrev pub HasSeenValues : Database → SeenSet → Type 0
HasSeenValues db seen = MatchOption seen.1 ⊤ (AreValuesOf db)

-- sets are over rows: the first holds what some give, and the others are over those behind
abbrev pub AreSetsOver : Database → List SeenSet → List Row → Type 0
AreSetsOver db [] rows = rows ≡ []
AreSetsOver db (seen ∷ others) rows =
    (first : List Row) × (behind : List Row) × (rows ≡ first ++ behind)
    × IsSomeAnd seen.1 (λ set. HoldsRows db set first) × AreSetsOver db others behind
