-- Items below and above a number, and an item put to its place.
use Rattle.std.proofs.Common.{◌≡◌, ℤ, ◌<ℤ◌, ◌≤ℤ◌, List, [], ◌∷◌, ◌++◌, Bool, true, false, true≢false, refl, sym, ap, ◌∙◌, arith}
use Rattle.std.specs.Prelude.{◌||◌, int_lt, if◌then◌else◌}
use Rattle.std.specs.List.{list_any, AllByRecursion}
use Rattle.std.specs.Ordering.{int_eq}
use Rattle.std.proofs.lemmas.Int.{ints}
use Rattle.std.proofs.lemmas.Bool.{false_from_ne_true}
use Rattle.std.proofs.lemmas.Bool.Decides.{Decides-int_eq}
use Rattle.shared_items.specs.Order.{AllAbove, AllBelow, AllFrom, RiseBy, with_item, without_first}

-- ---- numbers

is_lt : (a b : ℤ) → a <ℤ b → int_lt a b ≡ true
is_lt a b lt = grind (arith, ints, lt)

not_lt : (a b : ℤ) → b ≤ℤ a → int_lt a b ≡ false
not_lt a b le = grind (arith, ints, le)

not_eq : (a b : ℤ) → b <ℤ a → int_eq a b ≡ false
not_eq a b lt = false_from_ne_true _ (λ e. let is : a ≡ b = (Decides-int_eq a b).0 e in omega (arith, ints, lt, is))

pub below_from_test : (a b : ℤ) → int_lt a b ≡ true → a <ℤ b
below_from_test a b e = grind (arith, ints)

pub at_or_above : (a b : ℤ) → int_lt a b ≡ false → b ≤ℤ a
at_or_above a b e = grind (arith, ints)

less_other : (a b : ℤ) → int_lt a b ≡ false → int_eq a b ≡ false → b <ℤ a
less_other a b lt eq =
    let most : b ≤ℤ a = at_or_above a b lt in
    let other : a ≡ b → ⊥ = λ is. true≢false (sym ((Decides-int_eq a b).1 is) ∙ eq) in
    go (int_lt b a) refl most other
  where
    go : (test : Bool) → int_lt b a ≡ test → b ≤ℤ a → (a ≡ b → ⊥) → b <ℤ a
    go true is most other = grind (arith, ints)
    go false is most other =
        let less : a ≤ℤ b = at_or_above b a is in
        let same : a ≡ b = omega (arith, ints, most, less) in absurd (other same)

module _ {X : Type 0} (n : X → ℤ) where
  -- ---- below and above

  pub below_more : (low high : ℤ) (xs : List X) → low ≤ℤ high → AllBelow n low xs → AllBelow n high xs
  below_more low high [] le all = tt
  below_more low high (x ∷ xs) le all = (omega (arith, ints, le, all.0), below_more low high xs le all.1)

  pub above_more : (low high : ℤ) (xs : List X) → low ≤ℤ high → AllAbove n high xs → AllAbove n low xs
  above_more low high [] le all = tt
  above_more low high (x ∷ xs) le all = (omega (arith, ints, le, all.0), above_more low high xs le all.1)

  pub from_above : (low high : ℤ) (xs : List X) → low ≤ℤ high → AllAbove n high xs → AllFrom n low xs
  from_above low high [] le all = tt
  from_above low high (x ∷ xs) le all = (omega (arith, ints, le, all.0), from_above low high xs le all.1)

  -- ---- parts of items that rise

  pub all_first : (P : X → Type 0) (xs ys : List X) → AllByRecursion P (xs ++ ys) → AllByRecursion P xs
  all_first P [] ys all = tt
  all_first P (x ∷ xs) ys all = (all.0, all_first P xs ys all.1)

  pub all_second : (P : X → Type 0) (xs ys : List X) → AllByRecursion P (xs ++ ys) → AllByRecursion P ys
  all_second P [] ys all = all
  all_second P (x ∷ xs) ys all = all_second P xs ys all.1

  pub all_both : (P : X → Type 0) (xs ys : List X) → AllByRecursion P xs → AllByRecursion P ys → AllByRecursion P (xs ++ ys)
  all_both P [] ys left right = right
  all_both P (x ∷ xs) ys left right = (left.0, all_both P xs ys left.1 right)

  pub rise_second : (xs ys : List X) → RiseBy n (xs ++ ys) → RiseBy n ys
  rise_second [] ys rise = rise
  rise_second (x ∷ xs) ys rise = rise_second xs ys rise.1

  pub rise_first : (xs ys : List X) → RiseBy n (xs ++ ys) → RiseBy n xs
  rise_first [] ys rise = tt
  rise_first (x ∷ xs) ys rise = (all_first (λ y. n x <ℤ n y) xs ys rise.0, rise_first xs ys rise.1)

  -- those before an item are below it, those behind it above
  pub before_below : (xs : List X) (x : X) (ys : List X) → RiseBy n (xs ++ x ∷ ys) → AllBelow n (n x) xs
  before_below [] x ys rise = tt
  before_below (y ∷ xs) x ys rise = ((all_second (λ z. n y <ℤ n z) xs (x ∷ ys) rise.0).0, before_below xs x ys rise.1)

  pub behind_above : (xs : List X) (x : X) (ys : List X) → RiseBy n (xs ++ x ∷ ys) → AllAbove n (n x) ys
  behind_above xs x ys rise = (rise_second xs (x ∷ ys) rise).0

  -- ---- an item put to its place

  -- behind items that are all below it
  pub with_behind : (new : X) (xs ys : List X) → AllBelow n (n new) xs → with_item n new (xs ++ ys) ≡ xs ++ with_item n new ys
  with_behind new [] ys all = refl
  with_behind new (x ∷ xs) ys all =
      ap (λ (b : Bool). if b then x ∷ with_item n new (xs ++ ys) else new ∷ without_first n (n new) (x ∷ (xs ++ ys))) (is_lt (n x) (n new) all.0)
      ∙ ap (λ (l : List X). x ∷ l) (with_behind new xs ys all.1)

  -- at the front of items that are all at or above it
  pub with_front : (new : X) (xs : List X) → AllFrom n (n new) xs → with_item n new xs ≡ new ∷ without_first n (n new) xs
  with_front new [] all = refl
  with_front new (x ∷ xs) all =
      ap (λ (b : Bool). if b then x ∷ with_item n new xs else new ∷ without_first n (n new) (x ∷ xs)) (not_lt (n x) (n new) all.0)

  none_first : (new : X) (xs : List X) → AllAbove n (n new) xs → without_first n (n new) xs ≡ xs
  none_first new [] all = refl
  none_first new (x ∷ xs) all = ap (λ (b : Bool). if b then xs else x ∷ xs) (not_eq (n x) (n new) all.0)

  first_or : (new x : X) (b c : Bool) (xs ys : List X) (rest : with_item n new (xs ++ ys) ≡ with_item n new xs ++ ys)
      → (if b then x ∷ with_item n new (xs ++ ys) else new ∷ (if c then xs ++ ys else x ∷ (xs ++ ys)))
      ≡ (if b then x ∷ with_item n new xs else new ∷ (if c then xs else x ∷ xs)) ++ ys
  first_or new x true c xs ys rest = ap (λ (l : List X). x ∷ l) rest
  first_or new x false true xs ys rest = refl
  first_or new x false false xs ys rest = refl

  -- before items that are all above it
  pub with_before : (new : X) (xs ys : List X) → AllAbove n (n new) ys → with_item n new (xs ++ ys) ≡ with_item n new xs ++ ys
  with_before new [] [] all = refl
  with_before new [] (y ∷ ys) all =
      ap (λ (b : Bool). if b then y ∷ with_item n new ys else new ∷ without_first n (n new) (y ∷ ys)) (not_lt (n y) (n new) (omega (arith, ints, all.0)))
      ∙ ap (λ (l : List X). new ∷ l) (none_first new (y ∷ ys) all)
  with_before new (x ∷ xs) ys all = first_or new x (int_lt (n x) (n new)) (int_eq (n x) (n new)) xs ys (with_before new xs ys all)

  -- ---- and the numbers still rise

  with_all : (P : X → Type 0) (new : X) (xs : List X) → P new → AllByRecursion P xs → AllByRecursion P (with_item n new xs)
  with_all P new [] here all = (here, tt)
  with_all P new (x ∷ xs) here all = go (with_all P new xs here all.1) (int_lt (n x) (n new)) (int_eq (n x) (n new))
    where
      go : AllByRecursion P (with_item n new xs) → (b c : Bool) → AllByRecursion P (if b then x ∷ with_item n new xs else new ∷ (if c then xs else x ∷ xs))
      go rest true c = (all.0, rest)
      go rest false true = (here, all.1)
      go rest false false = (here, all)

  pub with_rises : (new : X) (xs : List X) → RiseBy n xs → RiseBy n (with_item n new xs)
  with_rises new [] rise = (tt, tt)
  with_rises new (x ∷ xs) rise = go (with_rises new xs rise.1) (int_lt (n x) (n new)) refl (int_eq (n x) (n new)) refl
    where
      go : RiseBy n (with_item n new xs) → (b : Bool) → int_lt (n x) (n new) ≡ b → (c : Bool) → int_eq (n x) (n new) ≡ c → RiseBy n (if b then x ∷ with_item n new xs else new ∷ (if c then xs else x ∷ xs))
      go rest true lt c eq = (with_all (λ y. n x <ℤ n y) new xs (grind (arith, ints, lt)) rise.0, rest)
      go rest false lt true eq =
          let same : n x ≡ n new = (Decides-int_eq (n x) (n new)).0 eq in
          (above_more (n new) (n x) xs (omega (arith, ints, same)) rise.0, rise.1)
      go rest false lt false eq =
          let less : n new <ℤ n x = less_other (n x) (n new) lt eq in
          ((less, above_more (n new) (n x) xs (omega (arith, ints, less)) rise.0), rise)

  -- ---- what a list with one more item has

  -- those above a number have another one
  others : (P : X → Type 0) (new : X) (low : ℤ) (xs : List X) → n new ≤ℤ low → AllAbove n low xs → AllByRecursion (λ x. (n x ≡ n new → ⊥) → P x) xs → AllByRecursion P xs
  others P new low [] le above all = tt
  others P new low (x ∷ xs) le above all = (all.0 (λ same. omega (arith, ints, le, above.0, same)), others P new low xs le above.1 all.1)

  pub with_each : (P : X → Type 0) (new : X) (xs : List X) → RiseBy n xs → P new → AllByRecursion (λ x. (n x ≡ n new → ⊥) → P x) xs → AllByRecursion P (with_item n new xs)
  with_each P new [] rise here all = (here, tt)
  with_each P new (x ∷ xs) rise here all = go (with_each P new xs rise.1 here all.1) (int_lt (n x) (n new)) refl (int_eq (n x) (n new)) refl
    where
      go : AllByRecursion P (with_item n new xs) → (b : Bool) → int_lt (n x) (n new) ≡ b → (c : Bool) → int_eq (n x) (n new) ≡ c → AllByRecursion P (if b then x ∷ with_item n new xs else new ∷ (if c then xs else x ∷ xs))
      go rest true lt c eq = let less = below_from_test (n x) (n new) lt in (all.0 (λ same. omega (arith, ints, less, same)), rest)
      go rest false lt true eq =
          let same : n x ≡ n new = (Decides-int_eq (n x) (n new)).0 eq in
          (here, others P new (n x) xs (omega (arith, ints, same)) rise.0 all.1)
      go rest false lt false eq =
          let less : n new <ℤ n x = less_other (n x) (n new) lt eq in
          (here, (all.0 (λ same. omega (arith, ints, less, same)), others P new (n x) xs (omega (arith, ints, less)) rise.0 all.1))

  either_first : (a b c : Bool) → (a || (b || c)) ≡ (b || (a || c))
  either_first true true c = refl
  either_first true false c = refl
  either_first false b c = refl

  once : (a b c : Bool) → a ≡ b → (b || c) ≡ (b || (a || c))
  once a true c same = refl
  once true false c same = absurd (true≢false same)
  once false false c same = refl

  pub with_has : (number : ℤ) (new : X) (xs : List X) → list_any (λ x. int_eq (n x) number) (with_item n new xs) ≡ (int_eq (n new) number || list_any (λ x. int_eq (n x) number) xs)
  with_has number new [] = refl
  with_has number new (x ∷ xs) = go (with_has number new xs) (int_lt (n x) (n new)) (int_eq (n x) (n new)) refl
    where
      go : list_any (λ y. int_eq (n y) number) (with_item n new xs) ≡ (int_eq (n new) number || list_any (λ y. int_eq (n y) number) xs) → (b : Bool) → (c : Bool) → int_eq (n x) (n new) ≡ c
          → list_any (λ y. int_eq (n y) number) (if b then x ∷ with_item n new xs else new ∷ (if c then xs else x ∷ xs)) ≡ (int_eq (n new) number || (int_eq (n x) number || list_any (λ y. int_eq (n y) number) xs))
      go rest true c eq = ap (λ (b : Bool). int_eq (n x) number || b) rest ∙ either_first (int_eq (n x) number) (int_eq (n new) number) (list_any (λ y. int_eq (n y) number) xs)
      go rest false true eq =
          once (int_eq (n x) number) (int_eq (n new) number) (list_any (λ y. int_eq (n y) number) xs) (ap (λ (k : ℤ). int_eq k number) ((Decides-int_eq (n x) (n new)).0 eq))
      go rest false false eq = refl
