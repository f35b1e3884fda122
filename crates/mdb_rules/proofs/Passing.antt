-- Rules that all pass, and the first row that breaks one.
use Rattle.std.proofs.Common.{◌≡◌, ◌∙◌, ◌<◌, ℕ, zero, suc, [], ◌∷◌, Option, Some, None, Bool, true, false, inl, inr, refl, ap, sym, arith}
use Rattle.std.specs.Prelude.{not, ◌==◌, option_map}
use Rattle.std.proofs.lemmas.Bool.{cases_lt, eqb-true}
use Rattle.mdb_items.specs.Checks.{Checks, first_at, first_broken, or_else}

-- no rule is broken
abbrev pub AllPass : Checks → Type 0
AllPass [] = Unit {0}
AllPass ((rule, broken) ∷ rest) = (broken ≡ false) × AllPass rest

pub all_pass : (checks : Checks) → first_broken checks ≡ None → AllPass checks
all_pass [] e = tt
all_pass ((rule, true) ∷ rest) e = cc
all_pass ((rule, false) ∷ rest) e = (refl, all_pass rest e)

pub none_broken : (checks : Checks) → AllPass checks → first_broken checks ≡ None
none_broken [] p = refl
none_broken ((rule, broken) ∷ rest) p = rw p.0 (none_broken rest p.1)

pub is_true : (b : Bool) → not b ≡ false → b ≡ true
is_true true e = refl
is_true false e = cc

pub is_same : (a b : ℕ) → not (a == b) ≡ false → a ≡ b
is_same a b e = eqb-true a b (is_true (a == b) e)

pub or_else-none : {X : Type 0} (a b : Option X) → or_else a b ≡ None → (a ≡ None) × (b ≡ None)
or_else-none None b e = (refl, e)
or_else-none (Some x) b e = cc

pub first_none : (fault : ℕ → Option ℕ) (n : ℕ) → ((j : ℕ) → j < n → fault j ≡ None) → first_at fault n ≡ None
unfolding first_at
first_none fault zero h = refl
first_none fault (suc n) h = rw (first_none fault n (λ j lt. h j (omega arith)), h n (omega arith)) refl

pub first_some : (fault : ℕ → Option ℕ) (n i rule : ℕ) → i < n → ((j : ℕ) → j < i → fault j ≡ None) → fault i ≡ Some rule → first_at fault n ≡ Some (i, rule)
unfolding first_at
first_some fault zero i rule lt h is = absurd (omega arith)
first_some fault (suc n) i rule lt h is = elim (cases_lt i n) [
  | inl less ↦ rw (first_some fault n i rule less h is) refl
  | inr more ↦
      let same : i ≡ n = omega arith in
      let none = first_none fault n (λ j less. h j (omega arith)) in
      let here : fault n ≡ Some rule = ap fault (sym same) ∙ is in
      rw (none, here) (ap (λ k. Some (k, rule)) (sym same))
]

-- a place with a fault
abbrev at_place : ℕ → Option ℕ → Option (ℕ × ℕ)
at_place n o = option_map (λ rule. (n, rule)) o

option_none : (n : ℕ) (o : Option ℕ) → at_place n o ≡ None → o ≡ None
option_none n None e = refl
option_none n (Some rule) e = cc

-- where no row is at fault each row is sound
pub each_none : (fault : ℕ → Option ℕ) (n : ℕ) → first_at fault n ≡ None → (j : ℕ) → j < n → fault j ≡ None
unfolding first_at
each_none fault zero e j lt = absurd (omega arith)
each_none fault (suc n) e j lt =
    let p = or_else-none (first_at fault n) (at_place n (fault n)) e in
    elim (cases_lt j n) [
      | inl less ↦ each_none fault n p.0 j less
      | inr more ↦ let same : j ≡ n = omega arith in ap fault same ∙ option_none n (fault n) p.1
    ]
