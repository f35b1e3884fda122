-- Segments group by group, as those of a set stand.
use Rattle.std.specs.Prelude.{◌≡◌, ◌+◌, ◌<◌, ◌==◌, ℕ, nat_eq, nat_lt, List, [], ◌∷◌, ◌++◌, length, map, flat_map, slice_index_or, Option, Some, None, if◌then◌else◌}
use Rattle.std.specs.List.{AllByRecursion, IsDistinct}
use Rattle.std.specs.List.Sorted.{IsStrictlySortedBy}
use lib.Pointwise.{pointwise}
use Rattle.arch_types.specs.declared.key.Key.{Key}
use Rattle.arch_types.specs.Order.{key_cmp}
use Rattle.segment_codec.specs.Segment.{most_rows}
use Rattle.segment_codec.specs.declared.segment.Segment.{Segment}
use Rattle.param_segments.specs.RowPlaces.{RowPlace}
use Rattle.param_segments.specs.declared.key_place.KeyPlace.{KeyPlace}
use Rattle.param_segments.specs.declared.runs.Runs.{Runs}

-- full segments, and the last one
pub record Run : Type 0 where
  pub full : List Segment
  pub last : Segment

-- the segments of a run
abbrev pub run_segments : Run → List Segment
run_segments r = r.full ++ r.last ∷ []

-- the keys of segments, one after the other
abbrev pub segment_keys : List Segment → List Key
segment_keys segments = flat_map (λ s. s.keys) segments

-- segments of a group, all but the last of 4,096 rows, whose keys rise from the first to the last
pub record IsRunOf (group : List ℕ) (r : Run) : Type 0 where
  pub each : AllByRecursion (λ s. s.parameters ≡ group) (run_segments r)
  pub full : AllByRecursion (λ s. length s.keys ≡ most_rows) r.full
  pub rising : IsStrictlySortedBy key_cmp (segment_keys (run_segments r))

-- a run of each group
abbrev pub AreRunsOf : List (List ℕ) → List Run → Type 0
AreRunsOf [] [] = Unit {0}
AreRunsOf [] (r ∷ runs) = ⊥
AreRunsOf (g ∷ groups) [] = ⊥
AreRunsOf (g ∷ groups) (r ∷ runs) = IsRunOf g r × AreRunsOf groups runs

-- the group with a number
abbrev pub numbered_group : List (List ℕ) → ℕ → List ℕ
numbered_group groups number = slice_index_or groups number []

-- segments are runs of groups that differ, and each has the number of its group
pub record AreRuns (segments : List Segment) (groups : List (List ℕ)) (numbers : List ℕ) : Type 0 where
  pub distinct : IsDistinct (pointwise nat_eq) groups
  pub runs : (runs : List Run) × AreRunsOf groups runs × (flat_map run_segments runs ≡ segments)
  pub within : AllByRecursion (λ number. number < length groups) numbers
  pub numbered : map (numbered_group groups) numbers ≡ map (λ s. s.parameters) segments

-- how many numbers come, after so many, where each comes first behind all that are less; else nothing
abbrev pub count_in_order : ℕ → List ℕ → Option ℕ
count_in_order count [] = Some count
count_in_order count (number ∷ numbers) =
    if nat_lt number count then count_in_order count numbers else (if number == count then count_in_order (count + 1) numbers else None)

-- the number of the group of a place
abbrev pub place_group : List ℕ → RowPlace → ℕ
place_group numbers p = slice_index_or numbers p.segment 0

-- the number of the group of a key
abbrev pub key_group : List ℕ → KeyPlace → ℕ
key_group numbers p = slice_index_or numbers p.segment 0

-- ---- while segments come one after the other

-- a list has this last item
abbrev pub IsLast : {X : Type 0} → List X → X → Type 0
IsLast {X = X} xs x = (front : List X) × (xs ≡ front ++ x ∷ [])

-- runs end with a segment of so many rows, the last of which has this key
abbrev pub EndWith : List Run → ℕ → Key → Type 0
EndWith [] rows last = Unit {0}
EndWith (r ∷ []) rows last = (length r.last.keys ≡ rows) × IsLast (segment_keys (run_segments r)) last
EndWith (r ∷ q ∷ runs) rows last = EndWith (q ∷ runs) rows last

-- the groups of segments, and where the last of these ends
pub record AreRunsSoFar (segments : List Segment) (r : Runs) : Type 0 where
  pub count : r.count ≡ length r.groups
  pub distinct : IsDistinct (pointwise nat_eq) r.groups
  pub runs : (runs : List Run) × AreRunsOf r.groups runs × (flat_map run_segments runs ≡ segments) × EndWith runs r.rows r.last
  pub within : AllByRecursion (λ number. number < length r.groups) r.numbers.items
  pub numbered : map (numbered_group r.groups) r.numbers.items ≡ map (λ s. s.parameters) segments
