-- The mark of an interval that has rows.
use Rattle.std.specs.Prelude.{◌≡◌, ℕ, ◌≤◌, ◌&&◌, Bool, true, false, not, List, [], ◌∷◌, max, nat_le, Option, Some, None, Contains}
use Rattle.late_marks.specs.declared.mark.Mark.{Mark}

-- an interval whose rows stand at these positions is late: some row stands at or after the base of its last fill, or there is a row
-- and no fill
abbrev pub IsLateBy : List ℕ → Option ℕ → Type 0
IsLateBy positions None = (p : ℕ) × Contains positions p
IsLateBy positions (Some base) = (p : ℕ) × Contains positions p × (base ≤ p)

-- the greatest of the positions
pub record IsLast (positions : List ℕ) (last : ℕ) : Type 0 where
  pub there : Contains positions last
  pub greatest : (p : ℕ) → Contains positions p → p ≤ last

-- an interval's rows stand at these positions, as far as its mark tells: at none where it has no mark, and else the mark has the greatest
abbrev pub StandAt : Option Mark → List ℕ → Type 0
StandAt None positions = positions ≡ []
StandAt (Some m) positions = IsLast positions m.last

-- the last row stands at or after the base, or there is none
abbrev pub is_late_by : ℕ → Option ℕ → Bool
is_late_by last None = true
is_late_by last (Some base) = nat_le base last

-- the interval is late
abbrev pub is_late_mark : Mark → Bool
is_late_mark m = is_late_by m.last m.base

-- the interval is late, and nobody has taken it
abbrev pub is_late_free_mark : Mark → Bool
is_late_free_mark m = is_late_mark m && not m.taken

-- the mark after one more row
abbrev pub touched : Option Mark → ℕ → Mark
touched None position = record { last = position; base = None; taken = false }
touched (Some m) position = record { last = max m.last position; base = m.base; taken = m.taken }

-- the mark after rows at these positions, one after the other
abbrev pub touched_by : Option Mark → List ℕ → Option Mark
touched_by mark [] = mark
touched_by mark (position ∷ positions) = touched_by (Some (touched mark position)) positions
