-- What a call does is one of the things that it may leave.
use Rattle.std.proofs.Common.{◌≡◌, ◌≢◌, ◌⊎◌, inl, inr, ℕ, ◌+◌, ◌-◌, ◌<◌, ◌≤◌, min, List, ◌++◌, length, take, drop, refl, sym, ◌∙◌, ap, subst, arith, append_assoc, length-append, length-drop}
use Rattle.std.specs.Prelude.{if◌then◌else◌, ◌==◌}
use Rattle.std.proofs.lemmas.List.{length-take, take_at, drop_at, take_all, drop_all, take_min}
use Rattle.std.proofs.lemmas.Bool.{cases_lt}
use Rattle.std.proofs.lemmas.Bool.Decides.{nat_tests}
use Rattle.arch_disk.specs.Image.{Image, Torn, Shortened, InFile, overwritten}

-- a choice by a number at that number, and at another
pub at_itself : (file : ℕ) (a b : List ℕ) → (if file == file then a else b) ≡ a
at_itself file a b = grind (arith, nat_tests)

pub elsewhere : (file g : ℕ) (a b : List ℕ) → g ≢ file → (if g == file then a else b) ≡ b
elsewhere file g a b other = grind (arith, nat_tests)

cases_le : (m n : ℕ) → (m ≤ n) ⊎ (n < m)
cases_le m n = elim (cases_lt n m) [ inl lt ↦ inr lt | inr le ↦ inl le ]

module _ (at : ℕ) (octets old : List ℕ) where
  front_len : length (take at old ++ octets) ≡ min at (length old) + length octets
  front_len = omega (arith, length-append (take at old) octets, length-take at old)

  pub length-overwritten : length (overwritten at octets old) ≡ min at (length old) + length octets + (length old - (at + length octets))
  length-overwritten = omega (arith, front_len, length-append (take at old ++ octets) (drop (at + length octets) old), length-drop (at + length octets) old)

  kept_front : take (min at (length old)) (overwritten at octets old) ≡ take at old
  kept_front = ap (take (min at (length old))) (append_assoc (take at old) octets (drop (at + length octets) old)) ∙ take_at (take at old) (octets ++ drop (at + length octets) old) (min at (length old)) (length-take at old)

  kept_back : (at ≤ length old) ⊎ (length old < at) → drop (at + length octets) (overwritten at octets old) ≡ drop (at + length octets) old
  kept_back (inl le) = drop_at (take at old ++ octets) (drop (at + length octets) old) (at + length octets) (omega (arith, front_len))
  kept_back (inr lt) = drop_all (at + length octets) (overwritten at octets old) (omega (arith, length-overwritten)) ∙ sym (drop_all (at + length octets) old (omega arith))

  -- the write is done whole
  pub torn_done : Torn at (length octets) old (overwritten at octets old)
  torn_done = record {
    no_shorter = omega (arith, length-overwritten);
    no_longer = omega (arith, length-overwritten);
    before = kept_front;
    after = kept_back (cases_le at (length old));
  }

-- the cut is done whole
pub cut_done : (n : ℕ) (old : List ℕ) → Shortened n old (take n old)
cut_done n old = record {
  no_shorter = omega (arith, length-take n old);
  no_longer = omega (arith, length-take n old);
  front = take_all (min n (length old)) (take n old) (omega (arith, length-take n old));
}

-- nothing of it is done
pub torn_same : (at n : ℕ) (old : List ℕ) → Torn at n old old
torn_same at n old = record { no_shorter = omega arith; no_longer = omega arith; before = take_min at old; after = refl }

pub cut_same : (n : ℕ) (old : List ℕ) → Shortened n old old
cut_same n old = record { no_shorter = omega arith; no_longer = omega arith; front = take_min n old }

pub torn_still : (at n file : ℕ) (c : Image) → InFile (Torn at n) file c c
torn_still at n file c = record { here = torn_same at n (c file); others = λ g other. refl }

pub cut_still : (n file : ℕ) (c : Image) → InFile (Shortened n) file c c
cut_still n file c = record { here = cut_same n (c file); others = λ g other. refl }

-- a change of one file alone
pub in_file : (step : List ℕ → List ℕ → Type 0) (file : ℕ) (f : List ℕ → List ℕ) (old : Image) → step (old file) (f (old file)) → InFile step file old (λ g. if g == file then f (old g) else old g)
in_file step file f old done = record {
  here = subst (step (old file)) (sym (at_itself file (f (old file)) (old file))) done;
  others = λ g other. elsewhere file g (f (old g)) (old g) other;
}
