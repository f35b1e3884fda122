-- What is gathered of segments is enough for a range.
use Rattle.std.proofs.Common.{◌≡◌, ◌∙◌, ℕ, ◌≤◌, ℤ, List, [], ◌∷◌, ◌++◌, length, take, take_all, reverse, append-nil, Option, Some, None, refl, sym, ap, subst}
use Rattle.std.specs.Prelude.{flat_map}
use Rattle.std.specs.List.Sorted.{IsPermutation}
use Rattle.std.proofs.lemmas.List.{reverse-append, reverse-reverse}
use Rattle.std.proofs.lemmas.List.Concat.{flat_map-append}
use Rattle.std.proofs.lemmas.List.Sorted.{IsPermutation-append, IsPermutation-append_comm, IsPermutation-refl, IsPermutation-trans}
use Rattle.arch_types.specs.Directions.{in_direction}
use Rattle.arch_types.specs.declared.direction.Direction.{Direction}
use Rattle.arch_types.specs.declared.direction.Direction.TheVariants.{Ascending, Descending}
use Rattle.segment_codec.specs.RangeColumn.{first_in}
use Rattle.segment_codec.specs.declared.segment.Segment.{Segment}
use Rattle.param_segments.specs.CellRange.{GivesFirst, raw_cells_in_range, segment_cells_in_range}
use Rattle.param_segments.specs.Groups.{set_of}
use Rattle.param_segments.specs.Rows.{AreSetRows, SetRow}
use Rattle.param_segments.specs.declared.raw_cell.RawCell.{RawCell}
use Rattle.param_segments.proofs.DirectedCells.{directed_long, gives_first, ranked}
use Rattle.param_segments.proofs.FirstCells.{first_of_none}
use Rattle.param_segments.proofs.FirstItems.{HasEnough}
use Rattle.param_segments.proofs.RangeCells.{range_cells_are, range_cells_rise, range_cells_same}

-- nothing is asked of nothing
pub none_asked : (direction : Direction) (limit : Option ℕ) (cells : List RawCell) → cells ≡ [] → first_in direction limit cells ≡ []
none_asked direction limit cells none = ap (first_in direction limit) none ∙ first_of_none direction limit

-- ---- without a limit

all_in : (direction : Direction) (f : Segment → List RawCell) (ss : List Segment) → flat_map (λ s. first_in direction None (f s)) ss ≡ flat_map f ss
all_in Ascending f ss = refl
all_in Descending f [] = refl
all_in Descending f (s ∷ ss) = ap (λ (l : List RawCell). l ++ flat_map (λ s. first_in Descending None (f s)) ss) (reverse-reverse (f s)) ∙ ap (λ (l : List RawCell). f s ++ l) (all_in Descending f ss)

pub all_given : (direction : Direction) (limit : Option ℕ) (q : ℕ) (low high : ℤ) (ts : List SetRow) (gathered : List RawCell) → limit ≡ None → AreSetRows ts → gathered ≡ flat_map (λ s. first_in direction limit (segment_cells_in_range q low high s)) (set_of ts) →
    GivesFirst direction limit gathered (raw_cells_in_range q low high ts)
all_given direction None q low high ts gathered none are is = λ sorted same by_key.
    ap (in_direction direction) (range_cells_are q low high ts gathered sorted are (is ∙ all_in direction (segment_cells_in_range q low high) (set_of ts)) same by_key)
all_given direction (Some n) q low high ts gathered none are is = absurd cc

-- ---- with one

turned_all : (f : Segment → List RawCell) (ss : List Segment) → IsPermutation (flat_map f (reverse ss)) (flat_map f ss)
turned_all f [] = IsPermutation-refl []
turned_all f (s ∷ ss) =
    let back : flat_map f (reverse (s ∷ ss)) ≡ flat_map f (reverse ss) ++ f s = ap (flat_map f) (reverse-append (s ∷ []) ss) ∙ flat_map-append f (reverse ss) (s ∷ []) ∙ ap (λ (l : List RawCell). flat_map f (reverse ss) ++ l) (append-nil (f s)) in
    subst (λ (l : List RawCell). IsPermutation l (f s ++ flat_map f ss)) (sym back)
    (IsPermutation-trans (flat_map f (reverse ss) ++ f s) (f s ++ flat_map f (reverse ss)) (f s ++ flat_map f ss) (IsPermutation-append_comm (flat_map f (reverse ss)) (f s)) (IsPermutation-append (f s) (f s) (flat_map f (reverse ss)) (flat_map f ss) (IsPermutation-refl (f s)) (turned_all f ss)))

directed_all : (direction : Direction) (f : Segment → List RawCell) (ss : List Segment) → IsPermutation (flat_map f (in_direction direction ss)) (flat_map f ss)
directed_all Ascending f ss = IsPermutation-refl (flat_map f ss)
directed_all Descending f ss = turned_all f ss

-- what has enough of all segments gives the first of the rows' cells
pub first_given : (direction : Direction) (limit step : ℕ) (q : ℕ) (low high : ℤ) (ts : List SetRow) (gathered : List RawCell) → AreSetRows ts → length (set_of ts) ≤ step →
    HasEnough (ranked direction) limit (flat_map (segment_cells_in_range q low high) (take step (in_direction direction (set_of ts)))) gathered → GivesFirst direction (Some limit) gathered (raw_cells_in_range q low high ts)
first_given direction limit step q low high ts gathered are le has =
    let f = segment_cells_in_range q low high in
    let ss = in_direction direction (set_of ts) in
    let whole : take step ss ≡ ss = take_all step ss (subst (λ (n : ℕ). n ≤ step) (sym (directed_long direction (set_of ts))) le) in
    gives_first direction limit (flat_map f ss) (raw_cells_in_range q low high ts) gathered (subst (λ (l : List Segment). HasEnough (ranked direction) limit (flat_map f l) gathered) whole has)
    (IsPermutation-trans (flat_map f ss) (flat_map f (set_of ts)) (raw_cells_in_range q low high ts) (directed_all direction f (set_of ts)) (range_cells_same q low high ts are)) (range_cells_rise q low high ts are)
