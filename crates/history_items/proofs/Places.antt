-- First and last places in a list.
use Rattle.std.proofs.Common.{◌≡◌, ℕ, suc, ◌+◌, List, [], ◌∷◌, ◌++◌, length, Bool, true, false, Option, Some, None, option_map, refl, sym, ap, ◌∙◌, arith}
use Rattle.std.specs.Prelude.{slice_get, if◌then◌else◌, ◌||◌}
use Rattle.std.specs.List.{list_any}
use Rattle.history_items.specs.Places.{first_place, last_place, last_with}

module _ {X : Type 0} (test : X → Bool) where
  -- none passes, so there is no first place
  none_cases : (b any : Bool) (o : Option ℕ) → (if b then Some 0 else option_map (λ place. place + 1) o) ≡ None → (o ≡ None → any ≡ false) → (b || any) ≡ false
  none_cases true any o e deep = absurd cc
  none_cases false any None e deep = deep refl
  none_cases false any (Some place) e deep = absurd cc

  pub first_none : (xs : List X) → first_place test xs ≡ None → list_any test xs ≡ false
  first_none [] e = refl
  first_none (x ∷ xs) e = none_cases (test x) (list_any test xs) (first_place test xs) e (first_none xs)

  some_cases : (b any : Bool) (o : Option ℕ) (place : ℕ) → (if b then Some 0 else option_map (λ place. place + 1) o) ≡ Some place → ((p : ℕ) → o ≡ Some p → any ≡ true) → (b || any) ≡ true
  some_cases true any o place e deep = refl
  some_cases false any None place e deep = absurd cc
  some_cases false any (Some p) place e deep = deep p refl

  pub first_some : (xs : List X) (place : ℕ) → first_place test xs ≡ Some place → list_any test xs ≡ true
  first_some [] place e = absurd cc
  first_some (x ∷ xs) place e = some_cases (test x) (list_any test xs) (first_place test xs) place e (first_some xs)

  -- the item at the first place passes
  abbrev pub Passes : List X → ℕ → Type 0
  Passes xs place = (x : X) × (slice_get xs place ≡ Some x) × (test x ≡ true)

  pub first_there : (xs : List X) (place : ℕ) → first_place test xs ≡ Some place → Passes xs place
  first_there [] place e = absurd cc
  first_there (x ∷ xs) place e = go (test x) refl (first_place test xs) (first_there xs) e
    where
      go : (b : Bool) → test x ≡ b → (o : Option ℕ) → ((p : ℕ) → o ≡ Some p → Passes xs p) → (if b then Some 0 else option_map (λ p. p + 1) o) ≡ Some place → Passes (x ∷ xs) place
      go true is o deep e =
          let zeroth : 0 ≡ place = cc in
          (x, ap (λ (p : ℕ). slice_get (x ∷ xs) p) (sym zeroth), is)
      go false is None deep e = absurd cc
      go false is (Some p) deep e =
          let next : p + 1 ≡ place = cc in
          let behind = deep p refl in
          let same : place ≡ suc p = omega (arith, next) in
          (behind.0, ap (λ (q : ℕ). slice_get (x ∷ xs) q) same ∙ behind.1, behind.2)

  -- one item more
  pub last_push : (xs : List X) (x : X) → last_place test (xs ++ x ∷ []) ≡ (if test x then Some (length xs) else last_place test xs)
  last_push [] x = alone (test x)
    where
      alone : (b : Bool) → last_with b None ≡ (if b then Some 0 else None)
      alone true = refl
      alone false = refl
  last_push (y ∷ xs) x = ap (last_with (test y)) (last_push xs x) ∙ behind (test x)
    where
      behind : (b : Bool) → last_with (test y) (if b then Some (length xs) else last_place test xs) ≡ (if b then Some (length (y ∷ xs)) else last_with (test y) (last_place test xs))
      behind true = ap Some (omega arith)
      behind false = refl
