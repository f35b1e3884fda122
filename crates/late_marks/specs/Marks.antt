-- What contracts see of the marks.
use Rattle.std.specs.Prelude.{◌≡◌, ◌≢◌, ℕ, ◌+◌, ◌≤ℤ◌, List, length, filter, Option, Some, None, option_map, option_and_then, Bool, false, if◌then◌else◌}
use Rattle.std.specs.Option.{is_some, option_map_or}
use Rattle.std.specs.Map.{lookup}
use Rattle.std.specs.BTreeMap.{is_at}
use Rattle.intervals.specs.declared.interval.Interval.{Interval}
use Rattle.intervals.specs.Interval.{interval_cmp}
use Rattle.late_marks.specs.declared.mark.Mark.{Mark}
use Rattle.late_marks.specs.Mark.{is_late_mark, is_late_free_mark}

-- the marks of the intervals that have rows, and how many more intervals may come to without memory
pub record Marks : Type 0 where
  pub marks : List (Interval × Mark)
  pub room : ℕ

-- the mark among such a list
abbrev pub mark_in : List (Interval × Mark) → Interval → Option Mark
mark_in marks interval = lookup (is_at (interval_cmp interval)) marks

-- the mark of an interval, where it has rows
abbrev pub mark_of : Marks → Interval → Option Mark
mark_of m interval = mark_in m.marks interval

-- the interval has rows
abbrev pub has_rows : Marks → Interval → Bool
has_rows m interval = is_some (mark_of m interval)

-- the greatest position of its rows
abbrev pub last_position : Marks → Interval → Option ℕ
last_position m interval = option_map (λ k. k.last) (mark_of m interval)

-- the base of its last fill
abbrev pub base_of : Marks → Interval → Option ℕ
base_of m interval = option_and_then (λ k. k.base) (mark_of m interval)

-- it is late
abbrev pub is_late : Marks → Interval → Bool
is_late m interval = option_map_or is_late_mark (mark_of m interval) false

-- it is late, and nobody has taken it
abbrev pub is_late_free : Marks → Interval → Bool
is_late_free m interval = option_map_or is_late_free_mark (mark_of m interval) false

-- one, or none
abbrev pub one_if : Bool → ℕ
one_if b = if b then 1 else 0

-- how many intervals are late
abbrev pub late_of : Marks → ℕ
late_of m = length (filter (λ e. is_late_mark e.1) m.marks)

-- one interval has this mark from now on, and all others the mark that they had; so the number of late ones changes by this one alone
pub record Marked (old new : Marks) (interval : Interval) (mark : Mark) : Type 0 where
  pub set : mark_of new interval ≡ Some mark
  pub others : (other : Interval) → other ≢ interval → mark_of new other ≡ mark_of old other
  pub late : late_of new + one_if (is_late old interval) ≡ late_of old + one_if (is_late new interval)

-- the least interval of which a fact holds, or that it holds of none
abbrev pub IsLeast : (Interval → Type 0) → Option Interval → Type 0
IsLeast P None = (i : Interval) → ¬ P i
IsLeast P (Some least) = P least × ((i : Interval) → P i → least.0 ≤ℤ i.0)
