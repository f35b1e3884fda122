-- An item put into a block, and a block put in place of another.
use Rattle.std.proofs.Common.{◌≡◌, ℕ, zero, suc, ◌+◌, ◌<◌, ℤ, Option, Some, None, Result, Ok, Err, List, [], ◌∷◌, ◌++◌, length, get_or, set, take, drop, refl, sym, ap, subst, ◌∙◌, arith, append_assoc}
use Rattle.std.specs.Prelude.{map, OnErr, OnOk}
use Rattle.std.specs.Option.{option_to_list}
use Rattle.std.proofs.lemmas.List.{append-nil, drop-map, length-map, map-append, set_split, take-append-drop, take-map}
use Rattle.shared_items.specs.Order.{AllAbove, AllBelow, AllFrom, with_item, without_first}
use Rattle.shared_items.specs.Blocks.{AreBlocks, HaveItems, IsBlockFor, items_of_blocks}
use Rattle.shared_items.proofs.Order.{with_behind, with_front}
use Rattle.shared_items.proofs.Blocks.{put_in_block, still_blocks}
use Rattle.shared_items.proofs.Searching.{parted}

module _ {A X : Type 0} (f : A → X) (n : X → ℤ) where
  -- between the items below it and the others
  pub with_parts : (new : X) (xs : List A) (p : ℕ) → AllBelow n (n new) (map f (take p xs)) → AllFrom n (n new) (map f (drop p xs))
      → with_item n new (map f xs) ≡ map f (take p xs) ++ new ∷ without_first n (n new) (map f (drop p xs))
  with_parts new xs p below from =
      ap (λ (l : List A). with_item n new (map f l)) (sym (take-append-drop p xs)) ∙ ap (with_item n new) (map-append f (take p xs) (drop p xs))
      ∙ with_behind n new (map f (take p xs)) (map f (drop p xs)) below ∙ ap (λ (l : List X). map f (take p xs) ++ l) (with_front n new (map f (drop p xs)) from)

  -- the same by parts that are known in other words
  pub with_found : (new : X) (xs slice slice2 before from behind : List A) (p : ℕ) (number : ℤ) → number ≡ n new → slice ≡ xs → slice2 ≡ xs → AllBelow n number (map f (take p slice)) → AllFrom n number (map f (drop p slice))
      → before ≡ take p slice2 → from ≡ drop p slice2 → map f behind ≡ without_first n number (map f from) → with_item n new (map f xs) ≡ map f before ++ new ∷ map f behind
  with_found new xs slice slice2 before from behind p number is same same2 below above front back left =
      let all_below = subst (λ (k : ℤ). AllBelow n k (map f (take p xs))) is (subst (λ (l : List A). AllBelow n number (map f (take p l))) same below) in
      let all_from = subst (λ (k : ℤ). AllFrom n k (map f (drop p xs))) is (subst (λ (l : List A). AllFrom n number (map f (drop p l))) same above) in
      let first : before ≡ take p xs = front ∙ ap (take p) same2 in
      let rest : map f behind ≡ without_first n (n new) (map f (drop p xs)) =
      left ∙ ap (λ (k : ℤ). without_first n k (map f from)) is ∙ ap (λ (l : List A). without_first n (n new) (map f l)) (back ∙ ap (drop p) same2) in
      with_parts new xs p all_below all_from ∙ ap (λ (l : List A). map f l ++ new ∷ without_first n (n new) (map f (drop p xs))) (sym first)
      ∙ ap (λ (l : List X). map f before ++ new ∷ l) (sym rest)

module _ {A X : Type 0} (f : A → X) where
  -- one in place of one
  set_one : (xs : List A) (i : ℕ) (y : A) → i < length xs → map f (set xs i y) ≡ map f (take i xs) ++ f y ∷ map f (drop (suc i) xs)
  set_one xs i y within = ap (map f) (set_split xs i y within) ∙ map-append f (take i xs) (y ∷ drop (suc i) xs)

  -- two in place of one
  set_two : (xs : List A) (i : ℕ) (y z : A) → i < length xs → map f (set (take (suc i) xs ++ z ∷ drop (suc i) xs) i y) ≡ map f (take i xs) ++ f y ∷ f z ∷ map f (drop (suc i) xs)
  set_two [] i y z within = absurd (omega (arith, within))
  set_two (x ∷ xs) zero y z within = refl
  set_two (x ∷ xs) (suc i) y z within = ap (λ (l : List X). f x ∷ l) (set_two xs i y z (omega (arith, within)))

  next_is : (i : ℕ) → suc i ≡ i + 1
  next_is i = omega arith

  pub replaced_one : (xs : List A) (i : ℕ) (y : A) → i < length xs → map f (set xs i y) ≡ map f (take i xs) ++ f y ∷ map f (drop (i + 1) xs)
  replaced_one xs i y within = set_one xs i y within ∙ ap (λ (k : ℕ). map f (take i xs) ++ f y ∷ map f (drop k xs)) (next_is i)

  pub replaced_two : (xs : List A) (i : ℕ) (y z : A) → i < length xs → map f (set (take (i + 1) xs ++ z ∷ drop (i + 1) xs) i y) ≡ map f (take i xs) ++ f y ∷ f z ∷ map f (drop (i + 1) xs)
  replaced_two xs i y z within =
      ap (λ (k : ℕ). map f (set (take k xs ++ z ∷ drop k xs) i y)) (sym (next_is i)) ∙ set_two xs i y z within
      ∙ ap (λ (k : ℕ). map f (take i xs) ++ f y ∷ f z ∷ map f (drop k xs)) (next_is i)

  pub one_for : (xs : List A) (i : ℕ) (y : A) (b : X) (more : Option X) → i < length xs → f y ≡ b → more ≡ None
      → map f (set xs i y) ≡ map f (take i xs) ++ b ∷ (option_to_list more ++ map f (drop (i + 1) xs))
  one_for xs i y b more within is none =
      replaced_one xs i y within ∙ ap (λ (x : X). map f (take i xs) ++ x ∷ map f (drop (i + 1) xs)) is
      ∙ ap (λ (o : Option X). map f (take i xs) ++ b ∷ (option_to_list o ++ map f (drop (i + 1) xs))) (sym none)

  pub two_for : (xs longer : List A) (i : ℕ) (y z : A) (b c : X) (more : Option X) → i < length xs → longer ≡ take (i + 1) xs ++ z ∷ drop (i + 1) xs → f y ≡ b → f z ≡ c → more ≡ Some c
      → map f (set longer i y) ≡ map f (take i xs) ++ b ∷ (option_to_list more ++ map f (drop (i + 1) xs))
  two_for xs longer i y z b c more within all is is2 some =
      ap (λ (l : List A). map f (set l i y)) all ∙ replaced_two xs i y z within ∙ ap (λ (x : X). map f (take i xs) ++ x ∷ f z ∷ map f (drop (i + 1) xs)) is
      ∙ ap (λ (x : X). map f (take i xs) ++ b ∷ x ∷ map f (drop (i + 1) xs)) is2
      ∙ ap (λ (o : Option X). map f (take i xs) ++ b ∷ (option_to_list o ++ map f (drop (i + 1) xs))) (sym some)

  pub is_within : (xs slice : List A) (i : ℕ) → slice ≡ xs → i < length (map f slice) → i < length xs
  is_within xs slice i same less = subst (λ (l : List A). i < length l) same (subst (λ (k : ℕ). i < k) (length-map slice f) less)

  pub none_left : (xs : List A) → length xs ≡ 0 → map f xs ≡ []
  none_left [] is = refl
  none_left (x ∷ xs) is = absurd (omega (arith, is))

-- ---- a block with an item, in one or two parts

module _ {X : Type 0} (new : X) (before behind made : List X) where
  pub one_part : (first : List X) → first ≡ before ++ new ∷ behind → made ≡ before ++ new ∷ behind → first ++ [] ≡ made
  one_part first is found = append-nil first ∙ is ∙ sym found

  pub parted_last : (first second : List X) → first ≡ before → second ≡ new ∷ [] → behind ≡ [] → made ≡ before ++ new ∷ behind → first ++ (second ++ []) ≡ made
  parted_last first second is is2 none found =
      ap (λ (l : List X). first ++ l) (append-nil second ∙ is2) ∙ ap (λ (l : List X). l ++ new ∷ []) is ∙ sym (ap (λ (l : List X). before ++ new ∷ l) none) ∙ sym found

  pub parted_here : (first second : List X) → first ≡ before ++ new ∷ [] → second ≡ behind → made ≡ before ++ new ∷ behind → first ++ (second ++ []) ≡ made
  parted_here first second is is2 found =
      ap (λ (l : List X). first ++ l) (append-nil second ∙ is2) ∙ ap (λ (l : List X). l ++ behind) is ∙ append_assoc before (new ∷ []) behind ∙ sym found

-- ---- blocks of which one was made anew

module _ {A X : Type 0} (f : A → List X) (n : X → ℤ) where
  pub put_at : (new : X) (blocks after : List A) (i : ℕ) (d : A) (made : List (List X)) → i < length blocks → AreBlocks n (map f blocks) → IsBlockFor n (n new) (map f blocks) i
      → items_of_blocks made ≡ with_item n new (f (get_or blocks i d)) → HaveItems made → map f after ≡ map f (take i blocks) ++ (made ++ map f (drop (i + 1) blocks))
      → AreBlocks n (map f after) × (items_of_blocks (map f after) ≡ with_item n new (items_of_blocks (map f blocks)))
  put_at new blocks after i d made within are place is some all =
      let us = map f (take i blocks) in
      let b = f (get_or blocks i d) in
      let cs = map f (drop (i + 1) blocks) in
      let parts : map f blocks ≡ us ++ b ∷ cs = parted f blocks i d within in
      let below = subst (λ (l : List (List X)). AllBelow n (n new) (items_of_blocks l)) (take-map f i blocks) place.before in
      let above = subst (λ (l : List (List X)). AllAbove n (n new) (items_of_blocks l)) (drop-map f (i + 1) blocks) place.behind in
      let put : items_of_blocks (us ++ (made ++ cs)) ≡ with_item n new (items_of_blocks (us ++ b ∷ cs)) = put_in_block n us b cs made new below above is in (
        subst (AreBlocks n) (sym all) (still_blocks n us b cs made new (subst (AreBlocks n) parts are) some put),
        ap items_of_blocks all ∙ put ∙ ap (λ (l : List (List X)). with_item n new (items_of_blocks l)) (sym parts),
      )

  -- the same by what a step knows in other words
  module _ (item value : X) (blocks slice after : List A) (i : ℕ) (d : A) (number : ℤ) (b first : List X) (second : Option (List X)) (same : slice ≡ blocks) (num : number ≡ n item) (val : value ≡ item)
      (at : f (get_or blocks i d) ≡ b) (within : i < length blocks) (are : AreBlocks n (map f blocks)) (place : IsBlockFor n number (map f slice) i)
      (is : items_of_blocks (first ∷ option_to_list second) ≡ with_item n value b) (some : HaveItems (first ∷ option_to_list second)) where
    abbrev IsReplaced : Type 0
    IsReplaced = map f after ≡ map f (take i blocks) ++ ((first ∷ option_to_list second) ++ map f (drop (i + 1) blocks))

    put_both : IsReplaced → AreBlocks n (map f after) × (items_of_blocks (map f after) ≡ with_item n item (items_of_blocks (map f blocks)))
    put_both all =
        let here = subst (λ (k : ℤ). IsBlockFor n k (map f blocks) i) num (subst (λ (l : List A). IsBlockFor n number (map f l) i) same place) in
        let put = is ∙ ap (λ (x : X). with_item n x b) val ∙ ap (λ (l : List X). with_item n item l) (sym at) in
        put_at item blocks after i d (first ∷ option_to_list second) within are here put some all

    module _ {U E : Type 0} where
      pub put_kept : (r : Result U E) → OnOk r (map f after ≡ map f (take i blocks) ++ ((first ∷ option_to_list second) ++ map f (drop (i + 1) blocks))) → OnErr r (after ≡ blocks) → AreBlocks n (map f after)
      put_kept (Ok u) replaced refused = (put_both replaced).0
      put_kept (Err e) replaced refused = subst (λ (l : List A). AreBlocks n (map f l)) (sym refused) are

      pub put_done : (now : List X) → items_of_blocks (map f blocks) ≡ now → (r : Result U E)
          → OnOk r (map f after ≡ map f (take i blocks) ++ ((first ∷ option_to_list second) ++ map f (drop (i + 1) blocks))) → OnOk r (items_of_blocks (map f after) ≡ with_item n item now)
      put_done now seen (Ok u) replaced = (put_both replaced).1 ∙ ap (with_item n item) seen
      put_done now seen (Err e) replaced = tt
