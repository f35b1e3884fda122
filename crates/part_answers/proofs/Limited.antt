-- Cells up to a limit.
use Rattle.std.proofs.Common.{◌≡◌, ◌∙◌, ◌<◌, ◌≤◌, ◌+◌, ◌-◌, ℕ, suc, zero, List, [], ◌∷◌, ◌++◌, length, get_or, drop, reverse, take, true, false, Option, Some, None, ap, sym, refl, arith, append-nil, append_assoc, length-append}
use Rattle.std.specs.Prelude.{flat_map}
use Rattle.std.specs.List.{cons_option, filter_map}
use Rattle.std.proofs.lemmas.Bool.Decides.{nat_tests}
use Rattle.std.proofs.lemmas.Grind.{flat_map-append}
use Rattle.std.proofs.lemmas.List.{drop_more, reverse-append, take-append-le}
use Rattle.std.proofs.lemmas.List.Elements.{filter_map-append}
use Rattle.arch_types.specs.declared.cell.Cell.{Cell}
use Rattle.arch_types.specs.Directions.{truncated}
use Rattle.part_answers.specs.PartCells.{cell_list, is_full, limit_left}

take_front : (n : ℕ) (xs ys : List Cell) → take n (take n xs ++ ys) ≡ take n (xs ++ ys)
take_front zero xs ys = refl
take_front (suc n) [] ys = refl
take_front (suc n) (x ∷ xs) ys = ap (λ (l : List Cell). x ∷ l) (take_front n xs ys)

-- what lies beyond the limit of a front is beyond the limit of the whole
pub at_most_front : (limit : Option ℕ) (xs ys : List Cell) → truncated limit (truncated limit xs ++ ys) ≡ truncated limit (xs ++ ys)
at_most_front None xs ys = refl
at_most_front (Some n) xs ys = take_front n xs ys

pub at_most_twice : (limit : Option ℕ) (xs : List Cell) → truncated limit (truncated limit xs) ≡ truncated limit xs
at_most_twice limit xs =
    ap (truncated limit) (sym (append-nil (truncated limit xs))) ∙ at_most_front limit xs [] ∙ ap (truncated limit) (append-nil xs)

pub none_yet : (limit : Option ℕ) → truncated {X = Cell} limit [] ≡ []
none_yet None = refl
none_yet (Some zero) = refl
none_yet (Some (suc n)) = refl

take_all : (n : ℕ) (xs : List Cell) → length xs ≤ n → take n xs ≡ xs
take_all zero [] h = refl
take_all zero (x ∷ xs) h = absurd (omega (arith, h))
take_all (suc n) [] h = refl
take_all (suc n) (x ∷ xs) h = ap (λ (l : List Cell). x ∷ l) (take_all n xs (omega (arith, h)))

full_is : (n : ℕ) (xs : List Cell) → is_full (Some n) xs ≡ true → n ≤ length xs
full_is n xs h = grind (arith, nat_tests)

room_is : (n : ℕ) (xs : List Cell) → is_full (Some n) xs ≡ false → length xs < n
room_is n xs h = grind (arith, nat_tests)

-- where there are as many as may be, no more are taken
pub full : (limit : Option ℕ) (xs ys : List Cell) → is_full limit xs ≡ true → truncated limit xs ≡ xs → truncated limit (xs ++ ys) ≡ xs
full None xs ys h within = absurd (cc (h))
full (Some n) xs ys h within = let few = full_is n xs h in take-append-le n xs ys few ∙ within

take_both : (n : ℕ) (xs ys : List Cell) → take n (xs ++ ys) ≡ take n xs ++ take (n - length xs) ys
take_both zero [] ys = refl
take_both (suc n) [] ys = ap (λ (k : ℕ). take k ys) (let same : suc n ≡ suc n - length {A = Cell} [] = omega arith in same)
take_both zero (x ∷ xs) ys = ap (λ (k : ℕ). take k ys) (let none : 0 ≡ 0 - length (x ∷ xs) = omega arith in none)
take_both (suc n) (x ∷ xs) ys = ap (λ (l : List Cell). x ∷ l) (take_both n xs ys ∙ ap (λ (k : ℕ). take n xs ++ take k ys) (let same : n - length xs ≡ suc n - length (x ∷ xs) = omega arith in same))

-- as many more as there's room for
pub within_room : (limit : Option ℕ) (xs ys : List Cell) → truncated limit xs ≡ xs → xs ++ truncated (limit_left limit xs) ys ≡ truncated limit (xs ++ ys)
within_room None xs ys within = refl
within_room (Some n) xs ys within = sym (take_both n xs ys ∙ ap (λ (l : List Cell). l ++ take (n - length xs) ys) within)

length_list : (o : Option Cell) → length (cell_list o) ≤ 1
length_list None = omega arith
length_list (Some cell) = omega arith

-- where there are fewer, there's room for one
pub room : (limit : Option ℕ) (xs : List Cell) (o : Option Cell) → is_full limit xs ≡ false → truncated limit (xs ++ cell_list o) ≡ xs ++ cell_list o
room None xs o h = refl
room (Some n) xs o h = take_all n (xs ++ cell_list o) (omega (arith, room_is n xs h, length-append xs (cell_list o), length_list o))

-- all are there, where none is left
pub done : (limit : Option ℕ) (cells all : List Cell) → truncated limit cells ≡ cells → truncated limit (cells ++ []) ≡ all → cells ≡ all
done limit cells all within h = sym within ∙ ap (truncated limit) (sym (append-nil cells)) ∙ h

list_option : (o : Option Cell) (ys : List Cell) → cell_list o ++ ys ≡ cons_option o ys
list_option None ys = refl
list_option (Some cell) ys = refl

last_option : (o : Option Cell) (xs : List Cell) → reverse xs ++ cons_option o [] ≡ reverse (cons_option o xs)
last_option None xs = append-nil (reverse xs)
last_option (Some cell) xs = sym (reverse-append (cell ∷ []) xs)

last_first : {A : Type 0} (rest left : List A) (x : A) → rest ≡ left ++ x ∷ [] → reverse rest ≡ x ∷ reverse left
last_first rest left x step = ap reverse step ∙ reverse-append left (x ∷ [])

-- ---- cells of items, one after the other: `f` gives an item's cell

module _ {X : Type 0} (f : X → Option Cell) where
  -- the cell of the first item, beside those that there are
  pub next_cell : (xs : List Cell) (item : X) (items : List X) → (xs ++ cell_list (f item)) ++ filter_map f items ≡ xs ++ filter_map f (item ∷ items)
  next_cell xs item items = append_assoc xs (cell_list (f item)) (filter_map f items) ∙ ap (λ (l : List Cell). xs ++ l) (list_option (f item) (filter_map f items))

  -- the same, where there's room for it
  pub next_first : (limit : Option ℕ) (cells new : List Cell) (rest left : List X) (item : X) (all : List Cell) → is_full limit cells ≡ false →
      new ≡ cells ++ cell_list (f item) → rest ≡ item ∷ left → truncated limit (cells ++ filter_map f rest) ≡ all →
      (truncated limit (new ++ filter_map f left) ≡ all) × (truncated limit new ≡ new)
  next_first limit cells new rest left item all space added step h = (
    ap (λ (l : List Cell). truncated limit (l ++ filter_map f left)) added
        ∙ ap (truncated limit) (next_cell cells item left ∙ ap (λ (items : List X). cells ++ filter_map f items) (sym step))
        ∙ h,
    ap (truncated limit) added ∙ room limit cells (f item) space ∙ sym added,
  )

  -- the same, for the item at a place
  pub next_indexed : (limit : Option ℕ) (cells new : List Cell) (items : List X) (i : ℕ) (d : X) (all : List Cell) → i < length items → is_full limit cells ≡ false →
      new ≡ cells ++ cell_list (f (get_or items i d)) → truncated limit (cells ++ filter_map f (drop i items)) ≡ all →
      (truncated limit (new ++ filter_map f (drop (i + 1) items)) ≡ all) × (truncated limit new ≡ new)
  next_indexed limit cells new items i d all within space added h =
      next_first limit cells new (drop i items) (drop (i + 1) items) (get_or items i d) all space added (drop_more items i d within) h

  -- the cells of items in the opposite order are their cells in the opposite order
  pub reversed_cells : (items : List X) → filter_map f (reverse items) ≡ reverse (filter_map f items)
  reversed_cells [] = refl
  reversed_cells (item ∷ items) =
      ap (filter_map f) (reverse-append (item ∷ []) items)
      ∙ filter_map-append f (reverse items) (item ∷ [])
      ∙ ap (λ (l : List Cell). l ++ filter_map f (item ∷ [])) (reversed_cells items)
      ∙ last_option (f item) (filter_map f items)

  -- the cell of the last item, where there's room for it
  pub next_last : (limit : Option ℕ) (cells new : List Cell) (rest left : List X) (item : X) (all : List Cell) → is_full limit cells ≡ false →
      new ≡ cells ++ cell_list (f item) → rest ≡ left ++ item ∷ [] → truncated limit (cells ++ filter_map f (reverse rest)) ≡ all →
      (truncated limit (new ++ filter_map f (reverse left)) ≡ all) × (truncated limit new ≡ new)
  next_last limit cells new rest left item all space added step h =
      next_first limit cells new (reverse rest) (reverse left) item all space added (last_first rest left item step) h

  -- all items were gone through
  pub items_done : (limit : Option ℕ) (cells : List Cell) (rest : List X) (all : List Cell) → length rest ≡ 0 → truncated limit cells ≡ cells →
      truncated limit (cells ++ filter_map f (reverse rest)) ≡ all → cells ≡ all
  items_done limit cells [] all none within h = done limit cells all within h
  items_done limit cells (item ∷ rest) all none within h = absurd (omega (arith, none))

-- ---- cells of parts, one after the other: `f` gives a part's cells

-- the cells of a part, and then of the rest
pub next_cells : (limit : Option ℕ) (cells new here behind all : List Cell) → new ≡ truncated limit (cells ++ here) →
    truncated limit (cells ++ (here ++ behind)) ≡ all → (truncated limit (new ++ behind) ≡ all) × (truncated limit new ≡ new)
next_cells limit cells new here behind all added h = (
  ap (λ (l : List Cell). truncated limit (l ++ behind)) added ∙ at_most_front limit (cells ++ here) behind ∙ ap (truncated limit) (append_assoc cells here behind) ∙ h,
  ap (truncated limit) added ∙ at_most_twice limit (cells ++ here) ∙ sym added,
)

module _ {X : Type 0} (f : X → List Cell) where
  -- those of the first part
  pub next_part : (limit : Option ℕ) (cells new : List Cell) (rest left : List X) (part : X) (all : List Cell) →
      new ≡ truncated limit (cells ++ f part) → rest ≡ part ∷ left → truncated limit (cells ++ flat_map f rest) ≡ all →
      (truncated limit (new ++ flat_map f left) ≡ all) × (truncated limit new ≡ new)
  next_part limit cells new rest left part all added step h =
      next_cells limit cells new (f part) (flat_map f left) all added (ap (λ (parts : List X). truncated limit (cells ++ flat_map f parts)) (sym step) ∙ h)

  -- those of the last part, the last first
  pub next_last_part : (limit : Option ℕ) (cells new : List Cell) (rest left : List X) (part : X) (all : List Cell) →
      new ≡ truncated limit (cells ++ reverse (f part)) → rest ≡ left ++ part ∷ [] → truncated limit (cells ++ reverse (flat_map f rest)) ≡ all →
      (truncated limit (new ++ reverse (flat_map f left)) ≡ all) × (truncated limit new ≡ new)
  next_last_part limit cells new rest left part all added step h =
      let turned : reverse (flat_map f rest) ≡ reverse (f part) ++ reverse (flat_map f left) =
      ap (λ (parts : List X). reverse (flat_map f parts)) step
      ∙ ap reverse (flat_map-append f left (part ∷ []) ∙ ap (λ (l : List Cell). flat_map f left ++ l) (append-nil (f part)))
      ∙ reverse-append (flat_map f left) (f part) in
      next_cells limit cells new (reverse (f part)) (reverse (flat_map f left)) all added (ap (λ (l : List Cell). truncated limit (cells ++ l)) (sym turned) ∙ h)

  -- all parts were gone through
  pub parts_done : (limit : Option ℕ) (cells : List Cell) (rest : List X) (all : List Cell) → length rest ≡ 0 → truncated limit cells ≡ cells →
      truncated limit (cells ++ reverse (flat_map f rest)) ≡ all → cells ≡ all
  parts_done limit cells [] all none within h = done limit cells all within h
  parts_done limit cells (part ∷ rest) all none within h = absurd (omega (arith, none))
