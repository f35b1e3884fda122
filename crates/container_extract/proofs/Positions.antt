-- The first place at which a test passes.
use Rattle.std.proofs.Common.{◌≡◌, ◌∙◌, ◌+◌, ◌<◌, ◌≤◌, ℕ, suc, List, ◌∷◌, length, Some, None, Bool, inl, inr, refl, ap, sym, arith, cond, lt-ltb}
use Rattle.std.specs.Prelude.{nat_lt, option_map}
use Rattle.std.specs.List.{position, position_or_len}
use Rattle.std.proofs.lemmas.Bool.{cases_Bool, le-ltb, ltb-true, ltb-false}

place_within : (a b : ℕ) → a < b → cond (nat_lt a b) (Some a) None ≡ Some a
place_within a b less = rw (lt-ltb a b less) refl

place_past : (a b : ℕ) → b ≤ a → cond (nat_lt a b) (Some a) None ≡ None
place_past a b most = rw (le-ltb a b most) refl

one_further : (a b : ℕ) → cond (nat_lt (suc a) (suc b)) (Some (suc a)) None ≡ option_map suc (cond (nat_lt a b) (Some a) None)
one_further a b = elim (cases_Bool (nat_lt a b)) [
  | inl is ↦ let less = ltb-true a b is in place_within (suc a) (suc b) (omega arith) ∙ ap (option_map suc) (sym (place_within a b less))
  | inr isnt ↦ let most = ltb-false a b isnt in place_past (suc a) (suc b) (omega arith) ∙ ap (option_map suc) (sym (place_past a b (omega arith)))
]

further_from : (c a b : ℕ) → c ≡ suc a → cond (nat_lt c (suc b)) (Some c) None ≡ option_map suc (cond (nat_lt a b) (Some a) None)
further_from c a b e = ap (λ (d : ℕ). cond (nat_lt d (suc b)) (Some d) None) e ∙ one_further a b

pub position_cons : {X : Type 0} (p : X → Bool) (x : X) (xs : List X) → position p (x ∷ xs) ≡ cond (p x) (Some 0) (option_map suc (position p xs))
position_cons p x xs = elim (cases_Bool (p x)) [
  | inl is ↦ rw is (place_within 0 (suc (length xs)) (omega arith))
  | inr isnt ↦ rw isnt (further_from (1 + position_or_len p xs) (position_or_len p xs) (length xs) (omega arith))
]
