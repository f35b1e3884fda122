-- What passes know of one of the two lists of a cell's value, and what the cell keeps of that.
use Rattle.std.specs.Prelude.{◌≡◌, ℕ, ◌+◌, ◌-◌, ◌<◌, List, [], ◌∷◌, ◌++◌, length, cond, Contains}
use Rattle.std.specs.List.{range_with_len}
use mathlib.Core.Option.{some}
use mathlib.Core.List.{IsPrefix}
use lib.ListN.{get_elem?}
use lib.Dec.{ltb}
use Rattle.turn_cell.specs.declared.view.SeenList.{SeenList}
use Rattle.turn_cell.specs.declared.view.ListView.{ListView}

-- f of each, added up
abbrev pub total : {A : Type 0} → (A → ℕ) → List A → ℕ
total f [] = 0
total f (x ∷ xs) = f x + total f xs

module _ {I : Type 0} where
  abbrev pub longer : List I → List I → List I
  longer xs ys = cond (ltb (length xs) (length ys)) ys xs

  abbrev pub shorter : List I → List I → List I
  shorter xs ys = cond (ltb (length xs) (length ys)) xs ys

  -- of whoever made the cell: it has added all
  abbrev pub first_seen : List I → SeenList I
  first_seen xs = record { seen = xs; found = length xs; added = length xs; places = range_with_len 0 (length xs) }

  -- of a pass that was split off: as much was seen, and nothing added
  abbrev pub given_seen : SeenList I → SeenList I
  given_seen s = record { seen = s.seen; found = length s.seen; added = 0; places = [] }

  -- of two passes that were joined: the longer list was seen, and what both have added
  abbrev pub both_seen : SeenList I → SeenList I → SeenList I
  both_seen s t = record { seen = longer s.seen t.seen; found = s.found; added = s.added + t.added; places = s.places ++ t.places }

  -- a turn found this list
  abbrev pub found_seen : SeenList I → List I → SeenList I
  found_seen s xs = record s { seen = xs; found = length xs }

  -- a turn leaves this list, and has added what stands behind the one seen
  abbrev pub left_seen : SeenList I → List I → SeenList I
  left_seen s xs = record s {
    seen = xs;
    added = s.added + (length xs - length s.seen);
    places = s.places ++ range_with_len (length s.seen) (length xs - length s.seen);
  }

  abbrev pub first_list : List I → ListView I
  first_list xs = record { list = first_seen xs; lesser = [] }

  abbrev pub spent_list : ListView I
  spent_list = record { list = record { seen = []; found = 0; added = 0; places = [] }; lesser = [] }

  abbrev pub given_list : ListView I → ListView I
  given_list s = record { list = given_seen s.list; lesser = [] }

  abbrev pub both_lists : ListView I → ListView I → ListView I
  both_lists s t = record { list = both_seen s.list t.list; lesser = shorter s.list.seen t.list.seen }

  abbrev pub found_list : ListView I → List I → ListView I
  found_list s xs = record s { list = found_seen s.list xs }

  abbrev pub left_list : ListView I → List I → ListView I
  left_list s xs = record s { list = left_seen s.list xs }

  -- what was seen begins the whole list, and so does the shorter one of a join
  abbrev pub Begins : List I → ListView I → Type 0
  Begins whole s = IsPrefix s.list.seen whole × IsPrefix s.lesser whole

  -- nothing was added
  abbrev pub IsUnused : ListView I → Type 0
  IsUnused s = (s.list.added ≡ 0) × (s.list.places ≡ [])

module _ {V I : Type 0} (part : V → ListView I) where
  abbrev pub added_by : V → ℕ
  added_by v = (part v).list.added

  -- some pass has added the item at this place
  abbrev pub IsPlaced : List V → ℕ → Type 0
  IsPlaced views p = (j : ℕ) × (v : V) × (get_elem? views j ≡ some v) × Contains (part v).list.places p

  -- each pass has seen a beginning of the whole list; they have added as many items as it has; and each of its places is
  -- one of theirs
  pub record ListKept (whole : List I) (views : List V) : Type 0 where
    pub begins : (j : ℕ) (v : V) → get_elem? views j ≡ some v → Begins whole (part v)
    pub added : total added_by views ≡ length whole
    pub placed : (p : ℕ) → p < length whole → IsPlaced views p
