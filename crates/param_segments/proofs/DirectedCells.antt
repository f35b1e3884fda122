-- Cells that rise in a direction, and what's first among them.
use Rattle.std.proofs.Common.{◌≡◌, ℕ, List, [], ◌∷◌, ◌++◌, length, map, reverse, Bool, true, false, Some, refl, sym, subst}
use Rattle.std.specs.List.{AllByRecursion, IsDistinct}
use Rattle.std.specs.List.Sorted.{IsPermutation, IsStrictlySortedBy}
use Rattle.std.specs.Ordering.{eq_by_cmp, is_lt}
use Rattle.std.specs.Cmp.{IsStrictWeakOrder}
use Rattle.std.proofs.lemmas.List.{length-reverse, map-append, reverse-append}
use Rattle.std.proofs.lemmas.List.Sorted.{IsPermutation-map, IsPermutation-refl, IsPermutation-reverse, IsPermutation-sym, IsPermutation-trans, IsStrictWeakOrder-flip}
use Rattle.std.proofs.lemmas.Map.Keys.{IsDistinct-from_sorted, IsDistinct-IsPermutation}
use Rattle.arch_types.specs.Directions.{in_direction}
use Rattle.arch_types.specs.Order.{key_cmp}
use Rattle.arch_types.specs.declared.direction.Direction.{Direction}
use Rattle.arch_types.specs.declared.direction.Direction.TheVariants.{Ascending, Descending}
use Rattle.arch_types.specs.declared.key.Key.{Key}
use Rattle.param_segments.specs.CellRange.{GivesFirst}
use Rattle.param_segments.specs.Cells.{is_cell_earlier}
use Rattle.param_segments.specs.declared.raw_cell.RawCell.{RawCell}
use Rattle.param_segments.proofs.AskedCells.{all_reverse}
use Rattle.param_segments.proofs.FirstItems.{HasEnough, first_of_enough}
use Rattle.param_segments.proofs.Ordering.{IsRising}
use Rattle.param_segments.proofs.SegmentCells.{no_cell}
use Rattle.param_segments.proofs.SetRuns.{front_of}
use Rattle.param_segments.proofs.Sorting.{flips, rank, rising, sorted_rises}

-- whether a key comes before another in a direction
abbrev pub is_first : Direction → Key → Key → Bool
is_first Ascending k l = is_lt (key_cmp k l)
is_first Descending k l = is_lt (key_cmp l k)

abbrev pub comes_first : Direction → RawCell → RawCell → Bool
comes_first direction a b = is_first direction a.key b.key

abbrev own_key : RawCell → Key
own_key c = c.key

pub ranked : (direction : Direction) → IsStrictWeakOrder (comes_first direction)
ranked Ascending = rank own_key
ranked Descending = IsStrictWeakOrder-flip is_cell_earlier (rank own_key)

-- ---- the last first

module _ {X : Type 0} where
  pub directed_same : (direction : Direction) (xs : List X) → IsPermutation xs (in_direction direction xs)
  directed_same Ascending xs = IsPermutation-refl xs
  directed_same Descending xs = IsPermutation-reverse xs

  pub directed_long : (direction : Direction) (xs : List X) → length (in_direction direction xs) ≡ length xs
  directed_long Ascending xs = refl
  directed_long Descending xs = length-reverse xs

abbrev is_cell_later : RawCell → RawCell → Bool
is_cell_later a b = is_cell_earlier b a

rises_to : (cells : List RawCell) (last : RawCell) → IsRising is_cell_later cells → AllByRecursion (λ c. is_cell_later c last ≡ true) cells → IsRising is_cell_later (cells ++ last ∷ [])
rises_to [] last all above = (tt, tt)
rises_to (c ∷ cells) last all above = (and_last c cells last all.0 above.0, rises_to cells last all.1 above.1)
  where
    and_last : (c : RawCell) (cells : List RawCell) (last : RawCell) → AllByRecursion (λ d. is_cell_later c d ≡ true) cells → is_cell_later c last ≡ true → AllByRecursion (λ d. is_cell_later c d ≡ true) (cells ++ last ∷ [])
    and_last c [] last all is = (is, tt)
    and_last c (d ∷ ds) last all is = (all.0, and_last c ds last all.1 is)

turned : (cells : List RawCell) → IsRising is_cell_earlier cells → IsRising is_cell_later (reverse cells)
turned [] all = tt
turned (c ∷ cells) all =
    subst (IsRising is_cell_later) (sym (reverse-append (c ∷ []) cells)) (rises_to (reverse cells) c (turned cells all.1) (all_reverse (λ d. is_cell_later d c ≡ true) cells all.0))

pub rises : (direction : Direction) (cells : List RawCell) → IsStrictlySortedBy key_cmp (map (λ c. c.key) cells) → IsRising (comes_first direction) (in_direction direction cells)
rises Ascending cells up = rising own_key cells up
rises Descending cells up = turned cells (rising own_key cells up)

-- ---- keys that differ

abbrev AreApart : List RawCell → Type 0
AreApart cells = IsDistinct (eq_by_cmp key_cmp) (map own_key cells)

apart_moved : (xs ys : List RawCell) → IsPermutation xs ys → AreApart xs → AreApart ys
apart_moved xs ys same apart = IsDistinct-IsPermutation (eq_by_cmp key_cmp) flips (map own_key xs) (map own_key ys) (IsPermutation-map own_key xs ys same) apart

front_apart : (xs ys : List Key) → IsDistinct (eq_by_cmp key_cmp) (xs ++ ys) → IsDistinct (eq_by_cmp key_cmp) xs
unfolding IsDistinct
front_apart [] ys apart = tt
front_apart (x ∷ xs) ys apart = (front_of (λ y. eq_by_cmp key_cmp x y ≡ false) xs ys apart.0, front_apart xs ys apart.1)

-- what has enough of cells whose keys differ, put in the order of keys, begins with the first of them
pub gives_first : (direction : Direction) (n : ℕ) (all whole gathered : List RawCell) → HasEnough (ranked direction) n all gathered → IsPermutation all whole → IsStrictlySortedBy key_cmp (map (λ c. c.key) whole) → GivesFirst direction (Some n) gathered whole
gives_first direction n all whole gathered has same strict = λ sorted to by_key.
    let both = gathered ++ has.0 in
    let whole_apart : AreApart both = apart_moved whole both (IsPermutation-sym both whole (IsPermutation-trans both all whole has.1 same)) (IsDistinct-from_sorted key_cmp (map own_key whole) strict) in
    let apart : AreApart gathered = front_apart (map own_key gathered) (map own_key has.0) (subst (IsDistinct (eq_by_cmp key_cmp)) (map-append own_key gathered has.0) whole_apart) in
    let strictly = sorted_rises own_key no_cell sorted by_key (apart_moved gathered sorted to apart) in
    first_of_enough (ranked direction) n all gathered (in_direction direction whole) (in_direction direction sorted) has
    (IsPermutation-trans all whole (in_direction direction whole) same (directed_same direction whole)) (rises direction whole strict)
    (IsPermutation-trans gathered sorted (in_direction direction sorted) to (directed_same direction sorted)) (rises direction sorted strictly)
