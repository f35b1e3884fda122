-- The two indexes behind the marks, and how they go together.
use Rattle.std.specs.Prelude.{◌≡◌, ℕ, ◌+◌, ◌≤◌, List, Option, Some, None, Bool, false, not, filter, length, if◌then◌else◌}
use Rattle.std.specs.Option.{option_map_or}
use Rattle.std.specs.Map.{lookup}
use Rattle.std.specs.BTreeMap.{is_at}
use Rattle.block_map.specs.Index.{Listing}
use Rattle.block_map.specs.Rising.{IsRising}
use Rattle.intervals.specs.declared.interval.Interval.{Interval}
use Rattle.intervals.specs.Interval.{interval_cmp}
use Rattle.late_marks.specs.declared.mark.Mark.{Mark}
use Rattle.late_marks.specs.Mark.{is_late_free_mark}
use Rattle.late_marks.specs.Marks.{mark_in, one_if}

-- an interval among those that are late and free
abbrev pub found_in : List (Interval × Unit {0}) → Interval → Option (Unit {0})
found_in late_free interval = lookup (is_at (interval_cmp interval)) late_free

-- a member, or none
abbrev pub some_if : Bool → Option (Unit {0})
some_if b = if b then Some tt else None

-- how many marks aren't late and free
abbrev pub not_late_free : List (Interval × Mark) → ℕ
not_late_free marks = length (filter (λ e. not (is_late_free_mark e.1)) marks)

-- exactly the late intervals that nobody has taken stand in the second index, and it has room for all that may yet come to it
pub record AreConsistent (marks : Listing Interval Mark) (late_free : Listing Interval (Unit {0})) : Type 0 where
  pub rising : IsRising interval_cmp marks.entries
  pub late_free_rising : IsRising interval_cmp late_free.entries
  pub exactly : (i : Interval) → found_in late_free.entries i ≡ some_if (option_map_or is_late_free_mark (mark_in marks.entries i) false)
  pub has_room : marks.room + not_late_free marks.entries ≤ late_free.room

-- an interval was late and free or not, and is now or not; nothing else changed, and the room made up for it
pub record IsUpdatedAt (old new : Listing Interval (Unit {0})) (interval : Interval) (was is : Bool) : Type 0 where
  pub set : found_in new.entries interval ≡ some_if is
  pub others : (other : Interval) → is_at (interval_cmp interval) other ≡ false → found_in new.entries other ≡ found_in old.entries other
  pub rising : IsRising interval_cmp new.entries
  pub room : new.room + one_if is ≡ old.room + one_if was
