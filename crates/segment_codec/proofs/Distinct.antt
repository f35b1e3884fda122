-- No number comes twice just where a sorted copy has no two neighbours that are the same.
use Rattle.std.proofs.Common.{◌≡◌, ℕ, suc, ◌<◌, ◌≤◌, Bool, true, false, eqb, leb, ◌&&◌, List, [], ◌∷◌, length, refl, sym, ap, subst, ◌∙◌, ◌⊎◌, inl, inr, arith}
use Rattle.std.specs.Prelude.{nat_eq}
use Rattle.std.specs.List.{IsDistinct, dedup}
use Rattle.std.specs.List.Sorted.{IsPermutation, IsSorted, IsStrictlyIncreasing}
use Rattle.std.specs.Ordering.{nat_cmp}
use Rattle.std.proofs.lemmas.Bool.{eqb-true, eq-eqb, leb-true, le-leb}
use Rattle.std.proofs.lemmas.Cmp.{nat_eq_equiv}
use Rattle.std.proofs.lemmas.List.Sorted.{IsPermutation-sym, length_permutation}
use Rattle.std.proofs.lemmas.Map.Keys.{IsDistinct-IsPermutation, IsDistinct-from_apart, IsStrictlyIncreasing-dedup, below_from_sorted, sorted_from_strictly_increasing}
use Rattle.std.proofs.lemmas.Map.Made.{IsDistinct-from_count, distinct_count-from_IsDistinct}
use Rattle.segment_codec.specs.Segment.{are_distinct, are_parameters}

bool_cases : (b : Bool) → (b ≡ true) ⊎ (b ≡ false)
bool_cases true = inl refl
bool_cases false = inr refl

same_bool : (a b : Bool) → (a ≡ true → b ≡ true) → (b ≡ true → a ≡ true) → a ≡ b
same_bool true b there here = sym (there refl)
same_bool false true there here = here refl
same_bool false false there here = refl

-- ---- what the test on lists says

pub distinct_true : (numbers : List ℕ) → are_distinct numbers ≡ true → IsDistinct nat_eq numbers
distinct_true numbers e = IsDistinct-from_count nat_eq_equiv numbers (eqb-true _ _ e)

pub true_distinct : (numbers : List ℕ) → IsDistinct nat_eq numbers → are_distinct numbers ≡ true
true_distinct numbers distinct = eq-eqb _ _ (distinct_count-from_IsDistinct nat_eq_equiv numbers distinct)

and_true : (a b : Bool) → (a && b) ≡ true → (a ≡ true) × (b ≡ true)
and_true true b e = (refl, e)
and_true false b e = absurd cc

pub parameters_true : (parameters : List ℕ) → are_parameters parameters ≡ true → (1 ≤ length parameters) × IsDistinct nat_eq parameters
parameters_true parameters e =
    let a = and_true (leb 1 (length parameters)) (are_distinct parameters) e in
    (leb-true _ _ a.0, distinct_true parameters a.1)

pub true_parameters : (parameters : List ℕ) → 1 ≤ length parameters → IsDistinct nat_eq parameters → are_parameters parameters ≡ true
true_parameters parameters some distinct = ap (λ (b : Bool). b && are_distinct parameters) (le-leb 1 (length parameters) some) ∙ true_distinct parameters distinct

-- ---- a sorted copy

shorter : (k : ℕ) (xs : List ℕ) → length (dedup eqb (k ∷ xs)) ≤ suc (length xs)
shorter k [] = omega arith
shorter k (x ∷ xs) =
    elim (bool_cases (eqb x k)) [
      | inl same ↦ rw same (omega (arith, shorter k xs))
      | inr other ↦ rw other (omega (arith, shorter x xs))
    ]

kept_whole : (k : ℕ) (xs : List ℕ) → length (dedup eqb (k ∷ xs)) ≡ suc (length xs) → dedup eqb (k ∷ xs) ≡ k ∷ xs
kept_whole k [] e = refl
kept_whole k (x ∷ xs) e =
    elim (bool_cases (eqb x k)) [
      | inl same ↦ absurd (let f = rw same at e in let le = shorter k xs in omega arith)
      | inr other ↦ (let f = rw other at e in rw other (ap (λ (l : List ℕ). k ∷ l) (kept_whole x xs (omega arith))))
    ]

flip : (x k : ℕ) → eqb k x ≡ false → eqb x k ≡ false
flip x k e = grind arith

distinct_whole : (k : ℕ) (xs : List ℕ) → IsDistinct nat_eq (k ∷ xs) → dedup eqb (k ∷ xs) ≡ k ∷ xs
unfolding IsDistinct
distinct_whole k [] distinct = refl
distinct_whole k (x ∷ xs) distinct = rw (flip x k distinct.0.0) (ap (λ (l : List ℕ). k ∷ l) (distinct_whole x xs distinct.1))

whole : (xs : List ℕ) → length (dedup eqb xs) ≡ length xs → dedup eqb xs ≡ xs
whole [] e = refl
whole (x ∷ xs) e = kept_whole x xs e

whole_too : (xs : List ℕ) → IsDistinct nat_eq xs → dedup eqb xs ≡ xs
whole_too [] distinct = refl
whole_too (x ∷ xs) distinct = distinct_whole x xs distinct

apart : (x y : ℕ) → x < y → eqb x y ≡ false
apart x y lt = grind arith

rising_apart : (xs : List ℕ) → IsStrictlyIncreasing xs → IsDistinct nat_eq xs
rising_apart xs rises = IsDistinct-from_apart nat_eq xs (λ i j d lt in_xs. apart _ _ (below_from_sorted xs i j d (sorted_from_strictly_increasing xs rises) lt in_xs))

-- as many are kept as there are, just where none comes twice
pub sorted_tells : (numbers sorted kept : List ℕ) → IsPermutation numbers sorted → IsSorted nat_cmp sorted → kept ≡ dedup eqb sorted → eqb (length kept) (length numbers) ≡ are_distinct numbers
sorted_tells numbers sorted kept same up is = same_bool _ _ there here
  where
    len : length sorted ≡ length numbers
    len = length_permutation numbers sorted same

    there : eqb (length kept) (length numbers) ≡ true → are_distinct numbers ≡ true
    there e =
        let all : dedup eqb sorted ≡ sorted = whole sorted (sym (ap length is) ∙ eqb-true _ _ e ∙ sym len) in
        let rises = subst (λ (l : List ℕ). IsStrictlyIncreasing l) all (IsStrictlyIncreasing-dedup sorted up) in
        true_distinct numbers (IsDistinct-IsPermutation nat_eq nat_eq_equiv.symm sorted numbers (IsPermutation-sym numbers sorted same) (rising_apart sorted rises))

    here : are_distinct numbers ≡ true → eqb (length kept) (length numbers) ≡ true
    here e =
        let distinct = IsDistinct-IsPermutation nat_eq nat_eq_equiv.symm numbers sorted same (distinct_true numbers e) in
        eq-eqb _ _ (ap length is ∙ ap length (whole_too sorted distinct) ∙ len)
