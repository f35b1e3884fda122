-- What a listing holds of a publication.
use Rattle.std.specs.Prelude.{◌≡◌, ℕ, false, true, List, length, map, Some, IfSome, IsSomeAnd}
use Rattle.std.specs.Arc.{arc_value}
use Rattle.std.specs.List.{list_any, AllByRecursion}
use Rattle.intervals.specs.declared.interval.Interval.{Interval}
use Rattle.history_items.specs.declared.fills.Fill.{Fill}
use Rattle.history_items.specs.declared.items.Item.{Item}
use Rattle.history_items.specs.Databases.{database_in}
use Rattle.history_items.specs.Fills.{base_in, is_same}
use Rattle.history_items.specs.Late.{StandsIn, last_in}
use Rattle.interval_fills.specs.Intervals.{rows_of_interval}
use Rattle.interval_walks.specs.Turns.{IntervalsRise}
use Rattle.late_marks.specs.Mark.{is_late_by}
use Rattle.mdb_items.specs.Database.{Database}
use Rattle.param_segments.specs.Extracted.{IsSetOf}
use Rattle.store_fills.specs.Filled.{HoldsRows}
use Rattle.glance_log.specs.Sightings.{Sighting}
use Rattle.glance_board.specs.declared.contents.Contents.{Contents}
use Rattle.glance_board.specs.declared.contents.PublishedMark.{PublishedMark}

-- what stays of an archive: the database of its head, the exponent of its intervals, and when the fills that it was opened
-- with are sound
pub record StayingFacts : Type 1 where
  pub first : Database
  pub exponent : ℕ
  pub sound : Type 0

-- the database in force in a history of the archive
abbrev pub database_of : StayingFacts → List Item → Database
database_of archive history = database_in archive.first history

-- the interval of a mark isn't late
abbrev pub IsInTime : PublishedMark → Type 0
IsInTime mark = is_late_by mark.last mark.base ≡ false

-- A mark has the last change and the base of its interval. Where the interval isn't late it has a set of the interval and
-- of the database in force, and that holds what the interval's rows give, where the fills are sound.
pub record IsMarkOf (archive : StayingFacts) (history : List Item) (fills : List Fill) (mark : PublishedMark) : Type 0 where
  pub last : last_in archive.exponent mark.interval history ≡ Some mark.last
  pub base : base_in mark.interval fills ≡ mark.base
  pub fits : IsInTime mark → IsSomeAnd mark.set (λ set.
      IsSetOf (database_of archive history) archive.exponent mark.interval.0 (arc_value set))
  pub holds : IsInTime mark → archive.sound → IfSome mark.set (λ set.
      HoldsRows (database_of archive history) (arc_value set) (rows_of_interval archive.exponent mark.interval history))

-- the intervals of marks
abbrev pub intervals_of : List PublishedMark → List Interval
intervals_of marks = map (λ mark. mark.interval) marks

-- the marks of a history and its fills: one for each interval that has rows, in the order of the intervals
pub record AreListedMarks (archive : StayingFacts) (history : List Item) (fills : List Fill) (marks : List PublishedMark) : Type 0 where
  pub each : AllByRecursion (IsMarkOf archive history fills) marks
  pub rising : IntervalsRise (intervals_of marks)
  pub cover : (interval : Interval) (position : ℕ) → StandsIn archive.exponent interval position history →
      list_any (is_same interval) (intervals_of marks) ≡ true

-- contents are those of a publication
pub record IsListing {X : Type 0} (stays : X → StayingFacts) (at : Sighting X) (contents : Contents) : Type 0 where
  pub archive : X
  pub fixed : at.fixed ≡ Some archive
  pub front : contents.front ≡ length at.history
  pub fills : contents.fills ≡ length at.fills
  pub exponent : contents.exponent ≡ (stays archive).exponent
  pub database : arc_value contents.mdb ≡ database_of (stays archive) at.history
  pub marks : AreListedMarks (stays archive) at.history at.fills contents.marks
