-- What the turns of callers put into one history.
use Rattle.std.specs.Prelude.{◌≡◌, ℕ, suc, ◌<◌, ◌≤◌, List, [], ◌∷◌, ◌++◌, length, slice_get, Contains, Some}
use Rattle.std.specs.List.{AllByRecursion, range_with_len}
use Rattle.arch_types.specs.declared.row.Row.{Row}
use Rattle.history_items.specs.declared.items.Item.{Item}
use Rattle.history_items.specs.Items.{items_of}

-- the places of rows that are put behind a history
abbrev pub places_behind : List Item → List Row → List ℕ
places_behind found rows = range_with_len (length found) (length rows)

-- the places rise, from a first one on
abbrev pub RiseFrom : ℕ → List ℕ → Type 0
RiseFrom low [] = Unit {0}
RiseFrom low (place ∷ places) = (low ≤ place) × RiseFrom (suc place) places

-- these items stand at these places, in this order
abbrev pub StandAt : {X : Type 0} → List X → List ℕ → List X → Type 0
StandAt list [] [] = Unit {0}
StandAt list [] (x ∷ xs) = ⊥
StandAt list (place ∷ places) [] = ⊥
StandAt list (place ∷ places) (x ∷ xs) = (slice_get list place ≡ Some x) × StandAt list places xs

-- what the turns of a link put: its rows, in the order of the turns, and their places
pub record LinkWork : Type 0 where
  pub link : ℕ
  pub places : List ℕ
  pub rows : List Row

-- what it is with more rows, which were put behind a history
abbrev pub with_more : LinkWork → List Item → List Row → LinkWork
with_more work found rows =
    record work { places = work.places ++ places_behind found rows; rows = work.rows ++ rows }

-- The rows stand at the places, which rise from the first one that is no place of an old row, and have the link's
-- number.
pub record HasPut (low : ℕ) (history : List Item) (work : LinkWork) : Type 0 where
  pub rising : RiseFrom low work.places
  pub stand : StandAt history work.places (items_of work.rows)
  pub of_link : AllByRecursion (λ row. row.link ≡ work.link) work.rows

-- each place from the first one on is a link's
abbrev pub ArePlaced : ℕ → List Item → List LinkWork → Type 0
ArePlaced low history works =
    (place : ℕ) → low ≤ place → place < length history →
    (work : LinkWork) × Contains works work × Contains work.places place

-- no two of them are of one link
abbrev pub LinksDiffer : List LinkWork → Type 0
LinksDiffer works = (a b : LinkWork) → Contains works a → Contains works b → a.link ≡ b.link → a ≡ b
