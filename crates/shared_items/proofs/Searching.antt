-- Steps of the searches: items that are reached by a map, as those behind counts are.
use Rattle.std.proofs.Common.{◌≡◌, ℕ, ◌+◌, ◌<◌, ℤ, List, [], ◌∷◌, ◌++◌, length, get_or, take, drop, refl, sym, ap, subst, ◌∙◌, arith, true, false}
use Rattle.std.specs.Prelude.{map, int_lt}
use Rattle.std.proofs.lemmas.Grind.{take_at_read}
use Rattle.std.proofs.lemmas.List.{drop-map, drop_more, map-append, take-append-drop, take-map}
use Rattle.shared_items.specs.Order.{AllAbove, AllBelow, AllFrom, RiseBy}
use Rattle.shared_items.specs.Blocks.{AreBlocks, HaveItems, items_of_blocks}
use Rattle.shared_items.proofs.Order.{at_or_above, below_from_test}
use Rattle.shared_items.proofs.Blocks.{above_from, below_before, below_upto, block_rises, from_here, have_second}

module _ {A X : Type 0} (f : A → X) where
  take_more : (xs : List A) (m : ℕ) (d : A) → m < length xs → take (m + 1) xs ≡ take m xs ++ get_or xs m d ∷ []
  take_more xs m d within = (take_at_read xs m d within).1

  -- a list by a place in it
  pub parted : (xs : List A) (m : ℕ) (d : A) → m < length xs → map f xs ≡ map f (take m xs) ++ f (get_or xs m d) ∷ map f (drop (m + 1) xs)
  parted xs m d within =
      ap (map f) (sym (take-append-drop m xs)) ∙ map-append f (take m xs) (drop m xs)
      ∙ ap (λ (l : List A). map f (take m xs) ++ map f l) (drop_more xs m d within)

  module _ (n : X → ℤ) (number : ℤ) where
    pub below_more_taken : (xs : List A) (m : ℕ) (d : A) → m < length xs → RiseBy n (map f xs) → int_lt (n (f (get_or xs m d))) number ≡ true → AllBelow n number (map f (take (m + 1) xs))
    below_more_taken xs m d within rise test =
        let taken : map f (take (m + 1) xs) ≡ map f (take m xs) ++ f (get_or xs m d) ∷ [] = ap (map f) (take_more xs m d within) ∙ map-append f (take m xs) (get_or xs m d ∷ []) in
        subst (AllBelow n number) (sym taken)
        (below_upto n (map f (take m xs)) (f (get_or xs m d)) (map f (drop (m + 1) xs)) number (subst (RiseBy n) (parted xs m d within) rise) (below_from_test (n (f (get_or xs m d))) number test))

    pub from_dropped : (xs : List A) (m : ℕ) (d : A) → m < length xs → RiseBy n (map f xs) → int_lt (n (f (get_or xs m d))) number ≡ false → AllFrom n number (map f (drop m xs))
    from_dropped xs m d within rise test =
        subst (λ (l : List A). AllFrom n number (map f l)) (sym (drop_more xs m d within))
        (from_here n (map f (take m xs)) (f (get_or xs m d)) (map f (drop (m + 1) xs)) number (subst (RiseBy n) (parted xs m d within) rise) (at_or_above (n (f (get_or xs m d))) number test))

-- ---- blocks

module _ {A X : Type 0} (f : A → List X) (n : X → ℤ) (number : ℤ) where
  pub has_items : (bs : List A) (m : ℕ) (d : A) → m < length bs → HaveItems (map f bs) → 0 < length (f (get_or bs m d))
  has_items bs m d within have =
      (have_second n (map f (take m bs)) (f (get_or bs m d) ∷ map f (drop (m + 1) bs)) (subst HaveItems (parted f bs m d within) have)).0

  pub rises_at : (bs : List A) (m : ℕ) (d : A) → m < length bs → AreBlocks n (map f bs) → RiseBy n (f (get_or bs m d))
  rises_at bs m d within blocks =
      (block_rises n (map f (take m bs)) (f (get_or bs m d)) (map f (drop (m + 1) bs)) (subst (AreBlocks n) (parted f bs m d within) blocks)).1

  dropped : (bs : List A) (m : ℕ) (d : A) → m < length bs → drop m (map f bs) ≡ f (get_or bs m d) ∷ map f (drop (m + 1) bs)
  dropped bs m d within = drop-map f m bs ∙ ap (map f) (drop_more bs m d within)

  -- a block that begins above a number, and those behind it
  pub behind_block : (bs : List A) (m : ℕ) (d : A) → m < length bs → AreBlocks n (map f bs) → ((x : X) (xs : List X) → f (get_or bs m d) ≡ x ∷ xs → int_lt number (n x) ≡ true)
      → AllAbove n number (items_of_blocks (drop m (map f bs)))
  behind_block bs m d within blocks test = go (f (get_or bs m d)) refl (has_items bs m d within blocks.0)
    where
      go : (b : List X) → f (get_or bs m d) ≡ b → 0 < length b → AllAbove n number (items_of_blocks (drop m (map f bs)))
      go [] is some = absurd (omega (arith, some))
      go (x ∷ b) is some =
          let here : drop m (map f bs) ≡ (x ∷ b) ∷ map f (drop (m + 1) bs) = dropped bs m d within ∙ ap (λ (y : List X). y ∷ map f (drop (m + 1) bs)) is in
          let all : map f bs ≡ map f (take m bs) ++ (x ∷ b) ∷ map f (drop (m + 1) bs) = parted f bs m d within ∙ ap (λ (y : List X). map f (take m bs) ++ y ∷ map f (drop (m + 1) bs)) is in
          subst (λ (l : List (List X)). AllAbove n number (items_of_blocks l)) (sym here)
          (above_from n (map f (take m bs)) x b (map f (drop (m + 1) bs)) number (subst (λ (l : List (List X)). RiseBy n (items_of_blocks l)) all blocks.1) (below_from_test number (n x) (test x b is)))

  -- the blocks before one that doesn't
  pub before_block : (bs : List A) (m : ℕ) (d : A) → m < length bs → AreBlocks n (map f bs) → ((x : X) (xs : List X) → f (get_or bs m d) ≡ x ∷ xs → int_lt number (n x) ≡ false)
      → AllBelow n number (items_of_blocks (take m (map f bs)))
  before_block bs m d within blocks test = go (f (get_or bs m d)) refl (has_items bs m d within blocks.0)
    where
      go : (b : List X) → f (get_or bs m d) ≡ b → 0 < length b → AllBelow n number (items_of_blocks (take m (map f bs)))
      go [] is some = absurd (omega (arith, some))
      go (x ∷ b) is some =
          let all : map f bs ≡ map f (take m bs) ++ (x ∷ b) ∷ map f (drop (m + 1) bs) = parted f bs m d within ∙ ap (λ (y : List X). map f (take m bs) ++ y ∷ map f (drop (m + 1) bs)) is in
          subst (λ (l : List (List X)). AllBelow n number (items_of_blocks l)) (sym (take-map f m bs))
          (below_before n (map f (take m bs)) x b (map f (drop (m + 1) bs)) number (subst (λ (l : List (List X)). RiseBy n (items_of_blocks l)) all blocks.1) (at_or_above number (n x) (test x b is)))
