-- Lists and their ends.
use Rattle.std.proofs.Common.{◌≡◌, ◌∙◌, ◌+◌, ◌-◌, ◌<◌, ℕ, zero, suc, List, [], ◌∷◌, ◌++◌, length, map, set, take, get_or, Some, true, false, inl, inr, refl, ap, sym, arith}
use Rattle.std.specs.Prelude.{slice_get, ◌==◌, sum_by, nat_lt}
use Rattle.std.proofs.lemmas.List.{take_all, take_more}
use Rattle.std.proofs.lemmas.List.Sums.{sum_by_more_le}
use Rattle.std.proofs.lemmas.Bool.{cases_Bool, eqb-true, le-ltb, lt-ltb}
use Rattle.std.proofs.lemmas.Option.{get_or_from_slice_get, same_Some, slice_get_within}
use Rattle.mdb_items.specs.Lists.{at_last, is_empty, last_of}

-- a list that isn't empty ends in an item
pub snoc : {X : Type 0} (xs : List X) → 0 < length xs → (front : List X) × (x : X) × (xs ≡ front ++ x ∷ [])
snoc [] lt = absurd (omega arith)
snoc (x ∷ []) lt = ([], x, refl)
snoc (x ∷ y ∷ ys) lt = let r = snoc (y ∷ ys) (omega arith) in (x ∷ r.0, r.1, ap (λ zs. x ∷ zs) r.2)

pub slice_get-end : {X : Type 0} (xs : List X) (x : X) (ys : List X) → slice_get (xs ++ x ∷ ys) (length xs) ≡ Some x
slice_get-end [] x ys = refl
slice_get-end (y ∷ xs) x ys = slice_get-end xs x ys

pub slice_get-left : {X : Type 0} (xs ys : List X) (n : ℕ) → n < length xs → slice_get (xs ++ ys) n ≡ slice_get xs n
slice_get-left [] ys n lt = absurd (omega arith)
slice_get-left (x ∷ xs) ys zero lt = refl
slice_get-left (x ∷ xs) ys (suc n) lt = slice_get-left xs ys n (omega arith)

pub length-push : {X : Type 0} (xs : List X) (x : X) → length (xs ++ x ∷ []) ≡ suc (length xs)
length-push [] x = refl
length-push (y ∷ xs) x = ap suc (length-push xs x)

pub last_of-push : {X : Type 0} (xs : List X) (x : X) → last_of (xs ++ x ∷ []) ≡ Some x
last_of-push xs x =
    let n : length (xs ++ x ∷ []) - 1 ≡ length xs = omega (arith, length-push xs x) in
    ap (λ (k : ℕ). slice_get (xs ++ x ∷ []) k) n ∙ slice_get-end xs x []

pub at_last-push : {X : Type 0} (f : X → X) (xs : List X) (x : X) → at_last f (xs ++ x ∷ []) ≡ xs ++ f x ∷ []
at_last-push f [] x = refl
at_last-push f (y ∷ []) x = refl
at_last-push f (y ∷ z ∷ xs) x = ap (λ zs. y ∷ zs) (at_last-push f (z ∷ xs) x)

-- the last item written in place
pub set-last : {X : Type 0} (f : X → X) (xs : List X) (n : ℕ) (x : X) → suc n ≡ length xs → slice_get xs n ≡ Some x → set xs n (f x) ≡ at_last f xs
set-last f [] n x e is = absurd (omega arith)
set-last f (y ∷ []) zero x e is = let same = same_Some y x is in cc
set-last f (y ∷ []) (suc n) x e is = absurd (omega arith)
set-last f (y ∷ z ∷ xs) zero x e is = absurd (omega arith)
set-last f (y ∷ z ∷ xs) (suc n) x e is = ap (λ zs. y ∷ zs) (set-last f (z ∷ xs) n x (omega arith) is)

pub length-at_last : {X : Type 0} (f : X → X) (xs : List X) → length (at_last f xs) ≡ length xs
length-at_last f [] = refl
length-at_last f (x ∷ []) = refl
length-at_last f (x ∷ y ∷ xs) = ap suc (length-at_last f (y ∷ xs))

-- what a change of the last item leaves as it was
pub map-at_last : {X Y : Type 0} (g : X → Y) (f : X → X) (xs : List X) → ((x : X) → g (f x) ≡ g x) → map g (at_last f xs) ≡ map g xs
map-at_last g f [] same = refl
map-at_last g f (x ∷ []) same = let e = same x in cc
map-at_last g f (x ∷ y ∷ xs) same = let e = map-at_last g f (y ∷ xs) same in cc

-- each place below the length has an item
pub item_at : {X : Type 0} (xs : List X) (i : ℕ) → i < length xs → (x : X) × (slice_get xs i ≡ Some x)
item_at [] i lt = absurd (omega arith)
item_at (x ∷ xs) zero lt = (x, refl)
item_at (x ∷ xs) (suc i) lt = item_at xs i (omega arith)

pub take-front : {X : Type 0} (xs ys : List X) → take (length xs) (xs ++ ys) ≡ xs
take-front [] ys = refl
take-front (x ∷ xs) ys = ap (λ zs. x ∷ zs) (take-front xs ys)

pub is_empty-length : {X : Type 0} (xs : List X) → is_empty xs ≡ (length xs == 0)
is_empty-length [] = refl
is_empty-length (x ∷ xs) = elim (cases_Bool (suc (length xs) == 0)) [
  | inl is ↦ let bad = eqb-true (suc (length xs)) 0 is in absurd (omega arith)
  | inr isnt ↦ sym isnt
]

pub length-mapped : {X Y : Type 0} (f : X → Y) (xs : List X) → length (map f xs) ≡ length xs
length-mapped f [] = refl
length-mapped f (x ∷ xs) = ap suc (length-mapped f xs)

-- a sum that is more than what is left of a number
pub sum_passes : {X : Type 0} (f : X → ℕ) (xs : List X) (i : ℕ) (d : X) (most left : ℕ) → i < length xs → left + sum_by f (take i xs) ≡ most → left < f (get_or xs i d) → nat_lt most (sum_by f xs) ≡ true
sum_passes f xs i d most left lt same more = lt-ltb most (sum_by f xs) (omega (arith, sum_by_more_le f xs i d lt))

pub sum_within : {X : Type 0} (f : X → ℕ) (xs : List X) (most left : ℕ) → left + sum_by f (take (length xs) xs) ≡ most → nat_lt most (sum_by f xs) ≡ false
sum_within f xs most left same =
    let all : sum_by f (take (length xs) xs) ≡ sum_by f xs = ap (sum_by f) (take_all (length xs) xs (omega arith)) in
    le-ltb most (sum_by f xs) (omega arith)

-- one more item
pub take-next : {X : Type 0} (xs : List X) (i : ℕ) (x : X) → slice_get xs i ≡ Some x → take (i + 1) xs ≡ take i xs ++ x ∷ []
take-next xs i x is = take_more xs i x (slice_get_within xs i x is) ∙ ap (λ y. take i xs ++ y ∷ []) (get_or_from_slice_get xs i x x is)
