-- Where a key stands among rising entries.
use Rattle.std.proofs.Common.{◌≡◌, ℕ, ◌+◌, ◌<◌, List, [], ◌∷◌, ◌++◌, length, take, drop, get_or, sym, ◌∙◌, ap, subst, refl, add-one, drop-cons, arith}
use Rattle.std.specs.List.{AllByRecursion}
use Rattle.std.specs.Cmp.{IsTotalOrder}
use Rattle.std.specs.declared.cmp.Ordering.{Ordering}
use Rattle.std.specs.declared.cmp.Ordering.TheVariants.{Less, Equal, Greater}
use Rattle.std.specs.Ordering.{ordering_reverse}
use Rattle.std.proofs.lemmas.List.{take-append-drop, get_or_default}
use Rattle.std.proofs.Math.Seq.{take-suc}
use Rattle.block_map.specs.Rising.{IsRising, IsAbove, IsBelow}

module _ {X : Type 0} (P : X → Type 0) where
  pub all_append : (xs ys : List X) → AllByRecursion P xs → AllByRecursion P ys → AllByRecursion P (xs ++ ys)
  all_append [] ys a b = b
  all_append (x ∷ xs) ys a b = (a.0, all_append xs ys a.1 b)

  pub all_left : (xs ys : List X) → AllByRecursion P (xs ++ ys) → AllByRecursion P xs
  all_left [] ys a = tt
  all_left (x ∷ xs) ys a = (a.0, all_left xs ys a.1)

  pub all_right : (xs ys : List X) → AllByRecursion P (xs ++ ys) → AllByRecursion P ys
  all_right [] ys a = a
  all_right (x ∷ xs) ys a = all_right xs ys a.1

-- a list, parted at one of its items
pub parted : {X : Type 0} (xs : List X) (m : ℕ) (d : X) → m < length xs → xs ≡ take m xs ++ get_or xs m d ∷ drop (m + 1) xs
parted xs m d h = rw (add-one, ← drop-cons xs m d h) (sym (take-append-drop m xs))

pub drop_at : {X : Type 0} (xs : List X) (m : ℕ) (d : X) → m < length xs → drop m xs ≡ get_or xs m d ∷ drop (m + 1) xs
drop_at xs m d h = rw (add-one, drop-cons xs m d h)

module _ {K : Type 0} {cmp : K → K → Ordering} (o : IsTotalOrder cmp) where
  pub flip_less : (x y : K) → cmp x y ≡ Less → cmp y x ≡ Greater
  flip_less x y h = o.antisymm y x ∙ ap ordering_reverse h

  pub flip_greater : (x y : K) → cmp x y ≡ Greater → cmp y x ≡ Less
  flip_greater x y h = o.antisymm y x ∙ ap ordering_reverse h

  above_one : (k f x : K) (r : Ordering) → cmp k f ≡ r → (r ≡ Less → ⊥) → cmp x f ≡ Less → cmp k x ≡ Greater
  above_one k f x Less e not h = absurd (not refl)
  above_one k f x Equal e not h = o.congr k f x e ∙ flip_less x f h
  above_one k f x Greater e not h = flip_less x k (o.trans x f k h (flip_greater k f e))

module _ {K V : Type 0} {cmp : K → K → Ordering} (o : IsTotalOrder cmp) where
  -- a key that is not below an entry is above those before it
  pub above_left : (k : K) (f : K × V) (xs ys : List (K × V)) → IsRising cmp (xs ++ f ∷ ys) → (cmp k f.0 ≡ Less → ⊥) → IsAbove cmp k xs
  above_left k f [] ys up not = tt
  above_left k f (x ∷ xs) ys up not =
      (above_one o k f.0 x.0 (cmp k f.0) refl not (all_right (λ (e : K × V). cmp x.0 e.0 ≡ Less) xs (f ∷ ys) up.0).0, above_left k f xs ys up.1 not)

  pub below_all : (k f : K) (ys : List (K × V)) → cmp k f ≡ Less → IsBelow cmp f ys → IsBelow cmp k ys
  below_all k f [] h all = tt
  below_all k f (y ∷ ys) h all = (o.trans k f y.0 h all.0, below_all k f ys h all.1)

  -- a key that is equal to another is below what that one is below
  pub below_same : (k f : K) (ys : List (K × V)) → cmp k f ≡ Equal → IsBelow cmp f ys → IsBelow cmp k ys
  below_same k f [] same all = tt
  below_same k f (y ∷ ys) same all = (o.congr k f y.0 same ∙ all.0, below_same k f ys same all.1)

  -- a key that is below an entry is below those after it
  pub below_right : (k : K) (f : K × V) (xs ys : List (K × V)) → IsRising cmp (xs ++ f ∷ ys) → cmp k f.0 ≡ Less → IsBelow cmp k (f ∷ ys)
  below_right k f [] ys up h = (h, below_all k f.0 ys h up.0)
  below_right k f (x ∷ xs) ys up h = below_right k f xs ys up.1 h

  rising_at : (xs : List (K × V)) (m : ℕ) (d : K × V) → IsRising cmp xs → m < length xs → IsRising cmp (take m xs ++ get_or xs m d ∷ drop (m + 1) xs)
  rising_at xs m d up h = subst (IsRising cmp) (parted xs m d h) up

  pub above_place : (k : K) (xs : List (K × V)) (m : ℕ) (d : K × V) → IsRising cmp xs → m < length xs → (cmp k (get_or xs m d).0 ≡ Less → ⊥) → IsAbove cmp k (take m xs)
  above_place k xs m d up h not = above_left k (get_or xs m d) (take m xs) (drop (m + 1) xs) (rising_at xs m d up h) not

  pub above_next : (k : K) (xs : List (K × V)) (m : ℕ) (d : K × V) → IsRising cmp xs → m < length xs → cmp k (get_or xs m d).0 ≡ Greater → IsAbove cmp k (take (m + 1) xs)
  above_next k xs m d up h e =
      let not : cmp k (get_or xs m d).0 ≡ Less → ⊥ = λ less. cc in
      rw (add-one, take-suc xs m d h) (all_append (λ (e : K × V). cmp k e.0 ≡ Greater) (take m xs) (get_or xs m d ∷ []) (above_place k xs m d up h not) (e, tt))

  pub below_place : (k : K) (xs : List (K × V)) (m : ℕ) (d : K × V) → IsRising cmp xs → m < length xs → cmp k (get_or xs m d).0 ≡ Less → IsBelow cmp k (drop m xs)
  below_place k xs m d up h e = rw (drop_at xs m d h) (below_right k (get_or xs m d) (take m xs) (drop (m + 1) xs) (rising_at xs m d up h) e)

module _ {K V : Type 0} (cmp : K → K → Ordering) where
  pub rising_left : (xs ys : List (K × V)) → IsRising cmp (xs ++ ys) → IsRising cmp xs
  rising_left [] ys up = tt
  rising_left (x ∷ xs) ys up = (all_left (λ (e : K × V). cmp x.0 e.0 ≡ Less) xs ys up.0, rising_left xs ys up.1)

  pub rising_right : (xs ys : List (K × V)) → IsRising cmp (xs ++ ys) → IsRising cmp ys
  rising_right [] ys up = up
  rising_right (x ∷ xs) ys up = rising_right xs ys up.1

-- a list that has a place has an item
pub with_item : {X : Type 0} (P : Type 0) (xs : List X) (i : ℕ) → i < length xs → (X → P) → P
with_item P [] i h f = absurd (let none : i < 0 = h in omega arith)
with_item P (x ∷ xs) i h f = f x

-- what compares to an item does so whatever stands past the end
pub same_at : {K V : Type 0} (cmp : K → K → Ordering) (k : K) (xs : List (K × V)) (m : ℕ) (d e : K × V) → m < length xs → cmp k (get_or xs m d).0 ≡ Equal → cmp k (get_or xs m e).0 ≡ Equal
same_at {K = K} {V = V} cmp k xs m d e h same = ap (λ (x : K × V). cmp k x.0) (get_or_default xs m e d h) ∙ same
