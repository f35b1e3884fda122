-- The first so many items of rising lists together, where of each list no more are gathered than can be among them.
--
-- Of an item that is among the first n of all, fewer than n stand before it. So what was left behind n gathered items is
-- none of them, and what was gathered, in order, begins with those n.
use Rattle.std.proofs.Common.{◌≡◌, ◌∙◌, ℕ, zero, suc, ◌+◌, ◌<◌, ◌≤◌, List, [], ◌∷◌, ◌++◌, length, take, drop, get_or, Bool, true, false, cond, ◌⊎◌, inl, inr, refl, sym, ap, subst, arith}
use Rattle.std.specs.Prelude.{◌-◌}
use Rattle.std.specs.List.{AllByRecursion, Contains, count_by}
use Rattle.std.specs.List.Sorted.{IsPermutation}
use Rattle.std.specs.Cmp.{IsStrictWeakOrder}
use Rattle.std.proofs.lemmas.List.{append_assoc, length-take, take-append-drop}
use Rattle.std.proofs.lemmas.List.Sorted.{Contains-permutation, IsPermutation-append_comm, IsPermutation-append_left, IsPermutation-append_right, IsPermutation-refl, IsPermutation-sym, IsPermutation-trans, sum_by-IsPermutation}
use Rattle.std.proofs.lemmas.List.Sums.{sum_by-append, sum_by-cons}
use Rattle.param_segments.proofs.Ordering.{IsRising}

module _ {X : Type 0} {lt : X → X → Bool} (o : IsStrictWeakOrder lt) where
  abbrev pub IsItem : X → List X → Type 0
  IsItem z [] = ⊥
  IsItem z (x ∷ xs) = (z ≡ x) ⊎ IsItem z xs

  pub below : (P : X → Type 0) (z : X) (xs : List X) → AllByRecursion P xs → IsItem z xs → P z
  below P z [] all is = absurd is
  below P z (x ∷ xs) all (inl e) = subst P (sym e) all.0
  below P z (x ∷ xs) all (inr m) = below P z xs all.1 m

  clash : (x y : X) → lt x y ≡ true → lt y x ≡ true → ⊥
  clash x y h k = let f = o.one_way x y h in cc

  itself : (x : X) (b : Bool) → lt x x ≡ b → lt x x ≡ false
  itself x false e = e
  itself x true e = absurd (clash x x e e)

  in_append : (z : X) (xs ys : List X) → IsItem z (xs ++ ys) → IsItem z xs ⊎ IsItem z ys
  in_append z [] ys m = inr m
  in_append z (x ∷ xs) ys (inl e) = inl (inl e)
  in_append z (x ∷ xs) ys (inr m) = elim (in_append z xs ys m) [ inl h ↦ inl (inr h) | inr h ↦ inr h ]

  to_left : (z : X) (xs ys : List X) → IsItem z xs → IsItem z (xs ++ ys)
  to_left z [] ys m = absurd m
  to_left z (x ∷ xs) ys (inl e) = inl e
  to_left z (x ∷ xs) ys (inr m) = inr (to_left z xs ys m)

  from_take : (z : X) (n : ℕ) (xs : List X) → IsItem z (take n xs) → IsItem z xs
  from_take z zero xs m = absurd m
  from_take z (suc n) [] m = absurd m
  from_take z (suc n) (x ∷ xs) (inl e) = inl e
  from_take z (suc n) (x ∷ xs) (inr m) = inr (from_take z n xs m)

  from_drop : (z : X) (n : ℕ) (xs : List X) → IsItem z (drop n xs) → IsItem z xs
  from_drop z zero xs m = m
  from_drop z (suc n) [] m = absurd m
  from_drop z (suc n) (x ∷ xs) m = inr (from_drop z n xs m)

  -- ---- how many items are before one

  abbrev pub before : X → List X → ℕ
  before z xs = count_by (λ x. lt x z) xs

  before_more : (z x : X) (xs : List X) → before z (x ∷ xs) ≡ cond (lt x z) 1 0 + before z xs
  before_more z x xs = sum_by-cons (λ y. cond (lt y z) 1 0) x xs

  one_more : (z x : X) (xs : List X) → lt x z ≡ true → before z (x ∷ xs) ≡ 1 + before z xs
  one_more z x xs e = before_more z x xs ∙ ap (λ (b : Bool). cond b 1 0 + before z xs) e

  no_more : (z x : X) (xs : List X) → lt x z ≡ false → before z (x ∷ xs) ≡ before z xs
  no_more z x xs e = before_more z x xs ∙ ap (λ (b : Bool). cond b 1 0 + before z xs) e ∙ omega arith

  none_before : (z : X) (xs : List X) → AllByRecursion (λ x. lt z x ≡ true) xs → before z xs ≡ 0
  none_before z [] all = refl
  none_before z (x ∷ xs) all = no_more z x xs (o.one_way z x all.0) ∙ none_before z xs all.1

  -- before one of the first so many items are fewer
  few_before : (n : ℕ) (z : X) (xs : List X) → IsRising lt xs → IsItem z (take n xs) → before z xs < n
  few_before zero z xs up m = absurd m
  few_before (suc n) z [] up m = absurd m
  few_before (suc n) z (x ∷ xs) up (inl e) =
      let head : lt x z ≡ false = ap (lt x) e ∙ itself x (lt x x) refl in
      let rest : before z xs ≡ 0 = none_before z xs (subst (λ (y : X). AllByRecursion (λ w. lt y w ≡ true) xs) (sym e) up.0) in
      let whole : before z (x ∷ xs) ≡ 0 = no_more z x xs head ∙ rest in
      omega (arith, whole)
  few_before (suc n) z (x ∷ xs) up (inr m) =
      let head : lt x z ≡ true = below (λ w. lt x w ≡ true) z xs up.0 (from_take z n xs m) in
      let more = few_before n z xs up.1 m in
      let whole : before z (x ∷ xs) ≡ 1 + before z xs = one_more z x xs head in
      omega (arith, whole, more)

  both_before : (z : X) (xs ys : List X) → before z (xs ++ ys) ≡ before z xs + before z ys
  both_before z xs ys = sum_by-append (λ x. cond (lt x z) 1 0) xs ys

  pub same_before : (z : X) (xs ys : List X) → IsPermutation xs ys → before z ys ≡ before z xs
  same_before z xs ys same = sum_by-IsPermutation (λ x. cond (lt x z) 1 0) xs ys same

  -- before an item stand so many where all are before it
  all_before : (z : X) (xs : List X) → AllByRecursion (λ x. lt x z ≡ true) xs → before z xs ≡ length xs
  all_before z [] all = refl
  all_before z (x ∷ xs) all = let whole = one_more z x xs all.0 in let more = all_before z xs all.1 in omega (arith, whole, more)

  -- of a rising list the first so many are before each of the others
  front_before : (n : ℕ) (z : X) (xs : List X) → IsRising lt xs → IsItem z (drop n xs) → n ≤ before z (take n xs)
  front_before zero z xs up m = omega arith
  front_before (suc n) z [] up m = absurd m
  front_before (suc n) z (x ∷ xs) up m =
      let head : lt x z ≡ true = below (λ w. lt x w ≡ true) z xs up.0 (from_drop z n xs m) in
      let more = front_before n z xs up.1 m in
      let whole = one_more z x (take n xs) head in
      omega (arith, whole, more)

  through_cases : (x y z : X) (b : Bool) → lt x y ≡ true → lt y z ≡ true → lt x z ≡ b → lt x z ≡ true
  through_cases x y z true h k e = e
  through_cases x y z false h k e = absurd (let f = o.chain x z y e (o.one_way y z k) in cc)

  through : (x y z : X) → lt x y ≡ true → lt y z ≡ true → lt x z ≡ true
  through x y z h k = through_cases x y z (lt x z) h k refl

  test_cases : (x y z : X) (b : Bool) → lt y z ≡ true → lt x y ≡ b → cond (lt x y) 1 0 ≤ cond (lt x z) 1 0
  test_cases x y z true h e = rw (e, through x y z e h) (omega arith)
  test_cases x y z false h e = rw e (omega arith)

  -- before a later item stand no fewer
  before_later : (y z : X) (xs : List X) → lt y z ≡ true → before y xs ≤ before z xs
  before_later y z [] h = omega arith
  before_later y z (x ∷ xs) h =
      let own = before_more y x xs in
      let other = before_more z x xs in
      let one = test_cases x y z (lt x y) h refl in
      let more = before_later y z xs h in
      omega (arith, own, other, one, more)

  -- ---- rising lists of which one has the first so many items of the other

  heads : (x y : X) (xs ys : List X) → AllByRecursion (λ z. lt x z ≡ true) xs → AllByRecursion (λ z. lt y z ≡ true) ys → (x ≡ y) ⊎ IsItem x ys → (y ≡ x) ⊎ IsItem y xs → x ≡ y
  heads x y xs ys ux uy (inl e) back = e
  heads x y xs ys ux uy (inr m) (inl e) = sym e
  heads x y xs ys ux uy (inr m) (inr k) = absurd (clash x y (below (λ z. lt x z ≡ true) y xs ux k) (below (λ z. lt y z ≡ true) x ys uy m))

  later : (x z : X) (xs ys : List X) → AllByRecursion (λ w. lt x w ≡ true) xs → IsItem z xs → (z ≡ x) ⊎ IsItem z ys → IsItem z ys
  later x z xs ys ux m (inr k) = k
  later x z xs ys ux m (inl e) = absurd (let h = below (λ w. lt x w ≡ true) z xs ux m in let self : lt x x ≡ true = ap (lt x) (sym e) ∙ h in clash x x self self)

  -- a part of a rising list that has its first so many items begins with them
  pub first_same : (n : ℕ) (all part : List X) → IsRising lt all → IsRising lt part → ((z : X) → IsItem z part → IsItem z all) → ((z : X) → IsItem z (take n all) → IsItem z part) → take n part ≡ take n all
  first_same zero all part ua up there back = refl
  first_same (suc n) [] [] ua up there back = refl
  first_same (suc n) [] (y ∷ ys) ua up there back = absurd (there y (inl refl))
  first_same (suc n) (x ∷ xs) [] ua up there back = absurd (back x (inl refl))
  first_same (suc n) (x ∷ xs) (y ∷ ys) ua up there back =
      let same : y ≡ x = heads y x ys xs up.0 ua.0 (there y (inl refl)) (back x (inl refl)) in
      let on : (z : X) → IsItem z ys → IsItem z xs = λ z m. later y z ys xs up.0 m (subst (λ (w : X). (z ≡ w) ⊎ IsItem z xs) (sym same) (there z (inr m))) in
      let off : (z : X) → IsItem z (take n xs) → IsItem z ys = λ z m. later x z xs ys ua.0 (from_take z n xs m) (subst (λ (w : X). (z ≡ w) ⊎ IsItem z ys) same (back z (inr m))) in
      ap (λ (w : X). w ∷ take n ys) same ∙ ap (λ (ws : List X). x ∷ ws) (first_same n xs ys ua.1 up.1 on off)

  -- ---- items in another order

  item_from : (z : X) (xs : List X) (k : ℕ) → k < length xs → get_or xs k z ≡ z → IsItem z xs
  item_from z [] k less e = absurd (omega arith)
  item_from z (x ∷ xs) zero less e = inl (sym e)
  item_from z (x ∷ xs) (suc k) less e = inr (item_from z xs k (omega arith) e)

  contains_from : (z : X) (xs : List X) → IsItem z xs → Contains xs z
  contains_from z [] m = absurd m
  contains_from z (x ∷ xs) (inl e) = (0, omega arith, sym e)
  contains_from z (x ∷ xs) (inr m) = let h = contains_from z xs m in (suc h.0, omega (arith, h.1), h.2)

  moved : (z : X) (xs ys : List X) → IsPermutation xs ys → IsItem z xs → IsItem z ys
  moved z xs ys same m = let h = Contains-permutation xs ys z same (contains_from z xs m) in item_from z ys h.0 h.1 h.2

  -- ---- enough of all

  middle : (a b c d : List X) → IsPermutation ((a ++ b) ++ (c ++ d)) ((a ++ c) ++ (b ++ d))
  middle a b c d =
      let inner : IsPermutation (b ++ (c ++ d)) (c ++ (b ++ d)) =
      subst (λ (l : List X). IsPermutation l (c ++ (b ++ d))) (append_assoc b c d) (subst (IsPermutation ((b ++ c) ++ d)) (append_assoc c b d) (IsPermutation-append_left d (b ++ c) (c ++ b) (IsPermutation-append_comm b c))) in
      subst (λ (l : List X). IsPermutation l ((a ++ c) ++ (b ++ d))) (sym (append_assoc a b (c ++ d)))
      (subst (IsPermutation (a ++ (b ++ (c ++ d)))) (sym (append_assoc a c (b ++ d))) (IsPermutation-append_right a (b ++ (c ++ d)) (c ++ (b ++ d)) inner))

  -- some items were gathered of all, and before each that was left stand so many of them
  abbrev pub HasEnough : ℕ → List X → List X → Type 0
  HasEnough n all gathered = (left : List X) × IsPermutation (gathered ++ left) all × ((z : X) → IsItem z left → n ≤ before z gathered)

  pub enough_of_none : (n : ℕ) → HasEnough n [] []
  enough_of_none n = ([], IsPermutation-refl [], λ z m. absurd m)

  pub enough_moved : (n : ℕ) (all gathered whole moved_to : List X) → HasEnough n all gathered → IsPermutation all whole → IsPermutation gathered moved_to → HasEnough n whole moved_to
  enough_moved n all gathered whole moved_to has same to = (
    has.0,
    IsPermutation-trans (moved_to ++ has.0) (gathered ++ has.0) whole (IsPermutation-append_left has.0 moved_to gathered (IsPermutation-sym gathered moved_to to)) (IsPermutation-trans (gathered ++ has.0) all whole has.1 same),
    λ z m. let e = same_before z gathered moved_to to in let h = has.2 z m in omega (arith, e, h),
  )

  -- the first so many of a rising list more, where that many and those before each of its items are enough
  pub enough_more : (n w : ℕ) (all gathered piece : List X) → HasEnough n all gathered → IsRising lt piece → ((z : X) → IsItem z piece → n ≤ w + before z gathered) → HasEnough n (all ++ piece) (gathered ++ take w piece)
  enough_more n w all gathered piece has up wanted =
      let front = take w piece in
      let back = drop w piece in
      let joined : IsPermutation ((gathered ++ has.0) ++ (front ++ back)) (all ++ piece) = subst (λ (l : List X). IsPermutation ((gathered ++ has.0) ++ l) (all ++ piece)) (sym (take-append-drop w piece)) (IsPermutation-append_left piece (gathered ++ has.0) all has.1) in (
        has.0 ++ back,
        IsPermutation-trans ((gathered ++ front) ++ (has.0 ++ back)) ((gathered ++ has.0) ++ (front ++ back)) (all ++ piece) (middle gathered front has.0 back) joined,
        λ z m.
            let sum = both_before z gathered front in
            elim (in_append z has.0 back m) [
              | inl old ↦ let many = has.2 z old in omega (arith, sum, many)
              | inr new ↦ let own = wanted z (from_drop z w piece new) in let first = front_before w z piece up new in omega (arith, sum, own, first)
            ],
      )

  -- what is wanted behind an item is wanted less what was taken, behind a later one that all of it stands before
  pub wanted_less : (n w : ℕ) (gathered piece : List X) (y z : X) → lt y z ≡ true → AllByRecursion (λ x. lt x z ≡ true) (take w piece) → n ≤ w + before y gathered → n ≤ (w - length (take w piece)) + before z (gathered ++ take w piece)
  wanted_less n w gathered piece y z later all wanted =
      let front = take w piece in
      let sum = both_before z gathered front in
      let own = all_before z front all in
      let more = before_later y z gathered later in
      let short = length-take w piece in
      omega (arith, sum, own, more, short, wanted)

  -- what has enough of all, in order, begins with the first so many of all
  pub first_of_enough : (n : ℕ) (all gathered whole sorted : List X) → HasEnough n all gathered → IsPermutation all whole → IsRising lt whole → IsPermutation gathered sorted → IsRising lt sorted → take n sorted ≡ take n whole
  first_of_enough n all gathered whole sorted has same up to rises =
      let both = gathered ++ has.0 in
      first_same n whole sorted up rises
      (λ z m. moved z all whole same (moved z both all has.1 (to_left z gathered has.0 (moved z sorted gathered (IsPermutation-sym gathered sorted to) m))))
      (λ z m.
      let few : before z whole < n = few_before n z whole up m in
      let here : IsItem z both = moved z all both (IsPermutation-sym both all has.1) (moved z whole all (IsPermutation-sym all whole same) (from_take z n whole m)) in
      let count : before z whole ≡ before z all = same_before z all whole same in
      let count_both : before z all ≡ before z both = same_before z both all has.1 in
      let sum = both_before z gathered has.0 in
      elim (in_append z gathered has.0 here) [
        | inl there ↦ moved z gathered sorted to there
        | inr behind ↦ absurd (let many = has.2 z behind in omega (arith, few, count, count_both, sum, many))
      ])
