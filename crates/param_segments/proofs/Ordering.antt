-- Putting rows of rising keys back in order, group by group.
use Rattle.std.proofs.Common.{◌≡◌, List, [], ◌∷◌, Bool, true, false, cond, refl, ap, ◌∙◌}
use Rattle.std.specs.Prelude.{fold, filter, ◌||◌}
use Rattle.std.specs.List.{AllByRecursion}
use Rattle.std.specs.Cmp.{IsStrictWeakOrder}
use Rattle.arch_types.specs.Order.{place_by}

module _ {X : Type 0} (lt : X → X → Bool) where
  -- each item is below those after it
  abbrev pub IsRising : List X → Type 0
  IsRising [] = Unit {0}
  IsRising (y ∷ ys) = AllByRecursion (λ z. lt y z ≡ true) ys × IsRising ys

module _ {X : Type 0} {lt : X → X → Bool} (o : IsStrictWeakOrder lt) where
  keeps_cases : (P : X → Type 0) (z : X) (zs : List X) (b : Bool) → P z → AllByRecursion P zs → AllByRecursion P (cond b (z ∷ zs) zs)
  keeps_cases P z zs true p all = (p, all)
  keeps_cases P z zs false p all = all

  filter_keeps : (P : X → Type 0) (q : X → Bool) (zs : List X) → AllByRecursion P zs → AllByRecursion P (filter q zs)
  filter_keeps P q [] all = tt
  filter_keeps P q (z ∷ zs) all = keeps_cases P z (filter q zs) (q z) all.0 (filter_keeps P q zs all.1)

  -- an item above the first goes behind it
  place_behind : (t x : X) (zs : List X) → lt t x ≡ true → place_by lt (t ∷ zs) x ≡ t ∷ place_by lt zs x
  place_behind t x zs h = let f = o.one_way t x h in rw f refl

  pub fold_behind : (t : X) (acc xs : List X) → AllByRecursion (λ x. lt t x ≡ true) xs → fold (place_by lt) (t ∷ acc) xs ≡ t ∷ fold (place_by lt) acc xs
  fold_behind t acc [] all = refl
  fold_behind t acc (x ∷ xs) all = ap (λ (zs : List X). fold (place_by lt) zs xs) (place_behind t x acc all.0) ∙ fold_behind t (place_by lt acc x) xs all.1

  -- an item below all goes to the front
  pub place_first : (t : X) (zs : List X) → AllByRecursion (λ z. lt t z ≡ true) zs → place_by lt zs t ≡ t ∷ zs
  place_first t [] all = refl
  place_first t (z ∷ zs) all = rw all.0 refl

  fold_cases : (t : X) (a b : List X) (bp bq : Bool) (total : List X) → (bq ≡ true → bp ≡ false) → AllByRecursion (λ x. lt t x ≡ true) a → AllByRecursion (λ x. lt t x ≡ true) b →
      fold (place_by lt) a b ≡ total → fold (place_by lt) (cond bp (t ∷ a) a) (cond bq (t ∷ b) b) ≡ cond (bp || bq) (t ∷ total) total
  fold_cases t a b true true total apart la lb e = absurd (let f = apart refl in cc)
  fold_cases t a b true false total apart la lb e = fold_behind t a b lb ∙ ap (λ (zs : List X). t ∷ zs) e
  fold_cases t a b false true total apart la lb e = ap (λ (zs : List X). fold (place_by lt) zs b) (place_first t a la) ∙ fold_behind t a b lb ∙ ap (λ (zs : List X). t ∷ zs) e
  fold_cases t a b false false total apart la lb e = e

  -- rows that pass one test put among those that pass another are those that pass either
  pub fold_filter : (p q : X → Bool) (ts : List X) → ((t : X) → q t ≡ true → p t ≡ false) → IsRising lt ts → fold (place_by lt) (filter p ts) (filter q ts) ≡ filter (λ t. p t || q t) ts
  fold_filter p q [] apart up = refl
  fold_filter p q (t ∷ ts) apart up =
      fold_cases t (filter p ts) (filter q ts) (p t) (q t) (filter (λ t. p t || q t) ts) (apart t) (filter_keeps (λ x. lt t x ≡ true) p ts up.0) (filter_keeps (λ x. lt t x ≡ true) q ts up.0) (fold_filter p q ts apart up.1)

  pub filter_same : (p q : X → Bool) (ts : List X) → ((t : X) → p t ≡ q t) → filter p ts ≡ filter q ts
  filter_same p q [] h = refl
  filter_same p q (t ∷ ts) h = ap (λ (zs : List X). cond (p t) (t ∷ zs) zs) (filter_same p q ts h) ∙ ap (λ (b : Bool). cond b (t ∷ filter q ts) (filter q ts)) (h t)

  pub filter_all : (p : X → Bool) (ts : List X) → AllByRecursion (λ t. p t ≡ true) ts → filter p ts ≡ ts
  filter_all p [] all = refl
  filter_all p (t ∷ ts) all = ap (λ (b : Bool). cond b (t ∷ filter p ts) (filter p ts)) all.0 ∙ ap (λ (zs : List X). t ∷ zs) (filter_all p ts all.1)

  pub filter_none : (p : X → Bool) (ts : List X) → ((t : X) → p t ≡ false) → filter p ts ≡ []
  filter_none p [] h = refl
  filter_none p (t ∷ ts) h = ap (λ (b : Bool). cond b (t ∷ filter p ts) (filter p ts)) (h t) ∙ filter_none p ts h
