-- The first so many cells in a direction, made of the first so many keys and values.
use Rattle.std.proofs.Common.{◌≡◌, ◌∙◌, ℕ, zero, suc, ℤ, List, [], ◌∷◌, ◌++◌, length, take, reverse, Option, Some, None, refl, sym, ap, arith}
use Rattle.std.specs.Prelude.{min}
use Rattle.std.proofs.lemmas.List.{length-reverse, length-take, reverse-append}
use Rattle.arch_types.specs.Directions.{in_direction, truncated}
use Rattle.arch_types.specs.declared.direction.Direction.{Direction}
use Rattle.arch_types.specs.declared.direction.Direction.TheVariants.{Ascending, Descending}
use Rattle.arch_types.specs.declared.key.Key.{Key}
use Rattle.segment_codec.specs.RangeColumn.{first_in}
use Rattle.param_segments.specs.Cells.{cells_from}
use Rattle.param_segments.specs.declared.raw_cell.RawCell.{RawCell}

-- ---- lengths

module _ {X Y : Type 0} where
  directed_len : (direction : Direction) (xs : List X) (ys : List Y) → length xs ≡ length ys → length (in_direction direction xs) ≡ length (in_direction direction ys)
  directed_len Ascending xs ys e = e
  directed_len Descending xs ys e = length-reverse xs ∙ e ∙ sym (length-reverse ys)

  truncated_len : (limit : Option ℕ) (xs : List X) (ys : List Y) → length xs ≡ length ys → length (truncated limit xs) ≡ length (truncated limit ys)
  truncated_len None xs ys e = e
  truncated_len (Some n) xs ys e = length-take n xs ∙ ap (min n) e ∙ sym (length-take n ys)

  pub first_len : (direction : Direction) (limit : Option ℕ) (xs : List X) (ys : List Y) → length xs ≡ length ys → length (first_in direction limit xs) ≡ length (first_in direction limit ys)
  first_len direction limit xs ys e =
      directed_len direction (truncated limit (in_direction direction xs)) (truncated limit (in_direction direction ys)) (truncated_len limit (in_direction direction xs) (in_direction direction ys) (directed_len direction xs ys e))

none_truncated : {X : Type 0} (limit : Option ℕ) → truncated {X = X} limit [] ≡ []
none_truncated None = refl
none_truncated (Some zero) = refl
none_truncated (Some (suc n)) = refl

-- of nothing there's nothing first
pub first_of_none : {X : Type 0} (direction : Direction) (limit : Option ℕ) → first_in {X = X} direction limit [] ≡ []
first_of_none Ascending limit = none_truncated limit
first_of_none Descending limit = ap reverse (none_truncated limit)

-- ---- cells

cells_append : (ks ls : List Key) (vs ws : List ℤ) → length vs ≡ length ks → cells_from (ks ++ ls) (vs ++ ws) ≡ cells_from ks vs ++ cells_from ls ws
cells_append [] ls [] ws e = refl
cells_append [] ls (v ∷ vs) ws e = absurd (omega (arith, e))
cells_append (k ∷ ks) ls [] ws e = absurd (omega (arith, e))
cells_append (k ∷ ks) ls (v ∷ vs) ws e = ap (λ (cells : List RawCell). let cell : RawCell = record { key = k; raw = v } in cell ∷ cells) (cells_append ks ls vs ws (omega (arith, e)))

cells_reverse : (ks : List Key) (vs : List ℤ) → length vs ≡ length ks → cells_from (reverse ks) (reverse vs) ≡ reverse (cells_from ks vs)
cells_reverse [] [] e = refl
cells_reverse [] (v ∷ vs) e = absurd (omega (arith, e))
cells_reverse (k ∷ ks) [] e = absurd (omega (arith, e))
cells_reverse (k ∷ ks) (v ∷ vs) e =
    let cell : RawCell = record { key = k; raw = v } in
    let long : length vs ≡ length ks = omega (arith, e) in
    let behind : length (reverse vs) ≡ length (reverse ks) = length-reverse vs ∙ long ∙ sym (length-reverse ks) in
    ap (λ (xs : List Key). cells_from xs (reverse (v ∷ vs))) (reverse-append (k ∷ []) ks) ∙ ap (cells_from (reverse ks ++ k ∷ [])) (reverse-append (v ∷ []) vs)
    ∙ cells_append (reverse ks) (k ∷ []) (reverse vs) (v ∷ []) behind ∙ ap (λ (cells : List RawCell). cells ++ cell ∷ []) (cells_reverse ks vs long) ∙ sym (reverse-append (cell ∷ []) (cells_from ks vs))

cells_take : (n : ℕ) (ks : List Key) (vs : List ℤ) → cells_from (take n ks) (take n vs) ≡ take n (cells_from ks vs)
cells_take zero ks vs = refl
cells_take (suc n) [] vs = refl
cells_take (suc n) (k ∷ ks) [] = refl
cells_take (suc n) (k ∷ ks) (v ∷ vs) = ap (λ (cells : List RawCell). let cell : RawCell = record { key = k; raw = v } in cell ∷ cells) (cells_take n ks vs)

cells_directed : (direction : Direction) (ks : List Key) (vs : List ℤ) → length vs ≡ length ks → cells_from (in_direction direction ks) (in_direction direction vs) ≡ in_direction direction (cells_from ks vs)
cells_directed Ascending ks vs e = refl
cells_directed Descending ks vs e = cells_reverse ks vs e

cells_truncated : (limit : Option ℕ) (ks : List Key) (vs : List ℤ) → cells_from (truncated limit ks) (truncated limit vs) ≡ truncated limit (cells_from ks vs)
cells_truncated None ks vs = refl
cells_truncated (Some n) ks vs = cells_take n ks vs

-- the first so many keys beside the first so many values are the first so many cells
pub cells_first : (direction : Direction) (limit : Option ℕ) (ks : List Key) (vs : List ℤ) → length vs ≡ length ks → cells_from (first_in direction limit ks) (first_in direction limit vs) ≡ first_in direction limit (cells_from ks vs)
cells_first direction limit ks vs e =
    let inner_ks = in_direction direction ks in
    let inner_vs = in_direction direction vs in
    cells_directed direction (truncated limit inner_ks) (truncated limit inner_vs) (truncated_len limit inner_vs inner_ks (directed_len direction vs ks e))
    ∙ ap (in_direction direction) (cells_truncated limit inner_ks inner_vs ∙ ap (truncated limit) (cells_directed direction ks vs e))
