-- A list put in order item by item, and the items of it that pass a test.
use Rattle.std.proofs.Common.{◌≡◌, List, [], ◌∷◌, Bool, true, false, cond, sym, refl}
use Rattle.std.specs.Prelude.{fold, filter, if◌then◌else◌}
use Rattle.std.specs.List.{AllByRecursion}
use Rattle.std.specs.Cmp.{IsStrictWeakOrder}
use Rattle.arch_types.specs.Order.{place_by, order_by}

module _ {X : Type 0} (lt : X → X → Bool) where
  -- no item is below one before it
  abbrev pub IsAscending : List X → Type 0
  IsAscending [] = Unit {0}
  IsAscending (y ∷ ys) = AllByRecursion (λ z. lt z y ≡ false) ys × IsAscending ys

module _ {X : Type 0} {lt : X → X → Bool} (o : IsStrictWeakOrder lt) where
  below_cases : (x y z : X) (b : Bool) → lt x z ≡ b → lt x y ≡ true → lt z y ≡ false → b ≡ true
  below_cases x y z true e h k = refl
  below_cases x y z false e h k = let f = o.chain x z y e k in cc

  below_all : (x y : X) (zs : List X) → lt x y ≡ true → AllByRecursion (λ z. lt z y ≡ false) zs → AllByRecursion (λ z. lt x z ≡ true) zs
  below_all x y [] h all = tt
  below_all x y (z ∷ zs) h all = (below_cases x y z (lt x z) refl h all.0, below_all x y zs h all.1)

  not_above_all : (x : X) (zs : List X) → AllByRecursion (λ z. lt x z ≡ true) zs → AllByRecursion (λ z. lt z x ≡ false) zs
  not_above_all x [] all = tt
  not_above_all x (z ∷ zs) all = (o.one_way x z all.0, not_above_all x zs all.1)

  place_first : (x : X) (zs : List X) → AllByRecursion (λ z. lt x z ≡ true) zs → place_by lt zs x ≡ x ∷ zs
  place_first x [] all = refl
  place_first x (z ∷ zs) all = rw all.0

  filter_keeps : (P : X → Type 0) (q : X → Bool) (zs : List X) → AllByRecursion P zs → AllByRecursion P (filter q zs)
  filter_keeps P q [] all = tt
  filter_keeps P q (z ∷ zs) all = kept_cases (q z) all.0 (filter_keeps P q zs all.1)
    where
      kept_cases : (b : Bool) → P z → AllByRecursion P (filter q zs) → AllByRecursion P (cond b (z ∷ filter q zs) (filter q zs))
      kept_cases true p r = (p, r)
      kept_cases false p r = r

  place_keeps : (P : X → Type 0) (zs : List X) (x : X) → P x → AllByRecursion P zs → AllByRecursion P (place_by lt zs x)
  place_keeps P [] x p all = (p, tt)
  place_keeps P (z ∷ zs) x p all = keep_cases (lt x z) (place_keeps P zs x p all.1)
    where
      keep_cases : (b : Bool) → AllByRecursion P (place_by lt zs x) → AllByRecursion P (if b then x ∷ z ∷ zs else z ∷ place_by lt zs x)
      keep_cases true r = (p, all)
      keep_cases false r = (all.0, r)

  ascending_cases : (x y : X) (ys : List X) (b : Bool) → lt x y ≡ b → IsAscending lt (y ∷ ys) → IsAscending lt (place_by lt ys x) → IsAscending lt (if b then x ∷ y ∷ ys else y ∷ place_by lt ys x)
  ascending_cases x y ys true h up more = ((o.one_way x y h, not_above_all x ys (below_all x y ys h up.0)), up)
  ascending_cases x y ys false h up more = (place_keeps (λ z. lt z y ≡ false) ys x h up.0, more)

  pub ascending-place : (ys : List X) (x : X) → IsAscending lt ys → IsAscending lt (place_by lt ys x)
  ascending-place [] x up = (tt, tt)
  ascending-place (y ∷ ys) x up = ascending_cases x y ys (lt x y) refl up (ascending-place ys x up.1)

  filter_cases : (q : X → Bool) (x y : X) (ys : List X) (b kx ky : Bool) → lt x y ≡ b → IsAscending lt (y ∷ ys) →
      filter q (place_by lt ys x) ≡ cond kx (place_by lt (filter q ys) x) (filter q ys) → q x ≡ kx → q y ≡ ky →
      filter q (if b then x ∷ y ∷ ys else y ∷ place_by lt ys x) ≡ cond kx (place_by lt (cond ky (y ∷ filter q ys) (filter q ys)) x) (cond ky (y ∷ filter q ys) (filter q ys))
  filter_cases q x y ys true true true h up more hx hy = rw (hx, hy, h)
  filter_cases q x y ys true true false h up more hx hy =
      rw (hx, hy) (sym (place_first x (filter q ys) (filter_keeps (λ z. lt x z ≡ true) q ys (below_all x y ys h up.0))))
  filter_cases q x y ys true false true h up more hx hy = rw (hx, hy)
  filter_cases q x y ys true false false h up more hx hy = rw (hx, hy)
  filter_cases q x y ys false true true h up more hx hy = rw (hy, h, more)
  filter_cases q x y ys false true false h up more hx hy = rw (hy) more
  filter_cases q x y ys false false true h up more hx hy = rw (hy, more)
  filter_cases q x y ys false false false h up more hx hy = rw (hy) more

  filter-place : (q : X → Bool) (ys : List X) (x : X) → IsAscending lt ys → filter q (place_by lt ys x) ≡ cond (q x) (place_by lt (filter q ys) x) (filter q ys)
  filter-place q [] x up = filter_one (q x)
    where
      filter_one : (b : Bool) → cond b (x ∷ []) [] ≡ cond b (x ∷ []) []
      filter_one b = refl
  filter-place q (y ∷ ys) x up = filter_cases q x y ys (lt x y) (q x) (q y) refl up (filter-place q ys x up.1) refl refl

  fold_cases : (q : X → Bool) (acc : List X) (x : X) (xs : List X) (b : Bool) →
      fold (place_by lt) (cond b (place_by lt (filter q acc) x) (filter q acc)) (filter q xs) ≡ fold (place_by lt) (filter q acc) (cond b (x ∷ filter q xs) (filter q xs))
  fold_cases q acc x xs true = refl
  fold_cases q acc x xs false = refl

  filter-fold : (q : X → Bool) (acc xs : List X) → IsAscending lt acc → filter q (fold (place_by lt) acc xs) ≡ fold (place_by lt) (filter q acc) (filter q xs)
  filter-fold q acc [] up = refl
  filter-fold q acc (x ∷ xs) up = rw (filter-fold q (place_by lt acc x) xs (ascending-place acc x up), filter-place q acc x up) (fold_cases q acc x xs (q x))

  -- to filter an ordered list is to order what passes
  pub filter-order : (q : X → Bool) (xs : List X) → filter q (order_by lt xs) ≡ order_by lt (filter q xs)
  filter-order q xs = filter-fold q [] xs tt
