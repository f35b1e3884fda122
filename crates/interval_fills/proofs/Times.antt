-- The times of an interval, of which it has n.
use Rattle.std.proofs.Common.{◌≡◌, ℕ, zero, suc, ℤ, pos, negsuc, ◌≤ℤ◌, ◌<ℤ◌, ◌+◌, ◌*◌, ◌/◌, ◌<◌, ◌≤◌, sym, ◌∙◌, ap, subst, arith, add-one}
use Rattle.std.specs.Prelude.{◌+ℤ◌, ◌*ℤ◌, neg_ℤ}
use Rattle.std.specs.Int.{int_div_euclid}
use Rattle.std.proofs.lemmas.Int.{ints}
use Rattle.std.proofs.Math.Nat.{div-mul-le_self, div-lt_iff_lt-mul, div-eq_of_lt-le, zero-mul}
use Rattle.std.proofs.Math.IntN.{pos-*ℤ-pos, negsuc-*ℤ-pos}

-- ---- signs

le_from_pos : (p a : ℕ) → pos p ≤ℤ pos a → p ≤ a
le_from_pos p a h = omega (arith, ints, h)

lt_from_pos : (a p : ℕ) → pos a <ℤ pos p → a < p
lt_from_pos a p h = omega (arith, ints, h)

lt_from_neg : (p a : ℕ) → neg_ℤ (pos p) ≤ℤ negsuc a → a < p
lt_from_neg p a h = omega (arith, ints, h)

le_from_neg : (a p : ℕ) → negsuc a <ℤ neg_ℤ (pos p) → p ≤ a
le_from_neg a p h = omega (arith, ints, h)

not_above_neg : (p a : ℕ) → pos p ≤ℤ negsuc a → ⊥
not_above_neg p a h = omega (arith, ints, h)

not_below_neg : (a p : ℕ) → pos a <ℤ neg_ℤ (pos p) → ⊥
not_below_neg a p h = omega (arith, ints, h)

pos_le : (p a : ℕ) → p ≤ a → pos p ≤ℤ pos a
pos_le p a h = omega (arith, ints, h)

pos_lt : (a p : ℕ) → a < p → pos a <ℤ pos p
pos_lt a p h = omega (arith, ints, h)

neg_le : (p a : ℕ) → a < p → neg_ℤ (pos p) ≤ℤ negsuc a
neg_le p a h = omega (arith, ints, h)

neg_lt : (a p : ℕ) → p ≤ a → negsuc a <ℤ neg_ℤ (pos p)
neg_lt a p h = omega (arith, ints, h)

below_next : (m : ℕ) → m < m + 1
below_next m = omega arith

below_suc : (m : ℕ) → m < suc m
below_suc m = omega arith

-- ---- first times

module _ (n : ℕ) where
  start_pos : (q : ℕ) → pos q *ℤ pos n ≡ pos (q * n)
  start_pos q = pos-*ℤ-pos q n

  start_neg : (q : ℕ) → negsuc q *ℤ pos n ≡ neg_ℤ (pos (suc q * n))
  start_neg q = negsuc-*ℤ-pos q n

  end_pos : (q : ℕ) → (pos q +ℤ pos 1) *ℤ pos n ≡ pos ((q + 1) * n)
  end_pos q =
      let e : pos q +ℤ pos 1 ≡ pos (q + 1) = omega (arith, ints) in
      ap (λ (z : ℤ). z *ℤ pos n) e ∙ start_pos (q + 1)

  end_neg : (q : ℕ) → (negsuc q +ℤ pos 1) *ℤ pos n ≡ neg_ℤ (pos (q * n))
  end_neg zero =
      let e : negsuc 0 +ℤ pos 1 ≡ pos 0 = omega (arith, ints) in
      let f : pos 0 ≡ neg_ℤ (pos 0) = omega (arith, ints) in
      ap (λ (z : ℤ). z *ℤ pos n) e ∙ start_pos 0 ∙ ap pos (zero-mul n) ∙ f ∙ ap (λ (m : ℕ). neg_ℤ (pos m)) (sym (zero-mul n))
  end_neg (suc q) =
      let e : negsuc (suc q) +ℤ pos 1 ≡ negsuc q = omega (arith, ints) in
      ap (λ (z : ℤ). z *ℤ pos n) e ∙ start_neg q

  quotient : (a q : ℕ) → q * n ≤ a → a < (q + 1) * n → a / n ≡ q
  quotient a q low high = div-eq_of_lt-le {k = q} n {m = a} low high

  -- a time between the first time of an interval and that of the next is in the interval
  pub in_interval : (t i : ℤ) → (i *ℤ pos n) ≤ℤ t → t <ℤ ((i +ℤ pos 1) *ℤ pos n) → int_div_euclid t (pos n) ≡ i
  in_interval (pos a) (pos q) low high =
      ap pos (quotient a q
      (le_from_pos (q * n) a (subst (λ (z : ℤ). z ≤ℤ pos a) (start_pos q) low))
      (lt_from_pos a ((q + 1) * n) (subst (λ (z : ℤ). pos a <ℤ z) (end_pos q) high)))
  in_interval (negsuc a) (pos q) low high = absurd (not_above_neg (q * n) a (subst (λ (z : ℤ). z ≤ℤ negsuc a) (start_pos q) low))
  in_interval (pos a) (negsuc q) low high = absurd (not_below_neg a (q * n) (subst (λ (z : ℤ). pos a <ℤ z) (end_neg q) high))
  in_interval (negsuc a) (negsuc q) low high =
      let under : a < suc q * n = lt_from_neg (suc q * n) a (subst (λ (z : ℤ). z ≤ℤ negsuc a) (start_neg q) low) in
      ap negsuc (quotient a q
      (le_from_neg a (q * n) (subst (λ (z : ℤ). negsuc a <ℤ z) (end_neg q) high))
      (subst (λ (m : ℕ). a < m * n) (sym (add-one q)) under))

  -- and back
  pub around : 0 < n → (t : ℤ) → ((int_div_euclid t (pos n) *ℤ pos n) ≤ℤ t) × (t <ℤ ((int_div_euclid t (pos n) +ℤ pos 1) *ℤ pos n))
  around some (pos a) =
      let below : a / n * n ≤ a = div-mul-le_self a n in
      let above : a < (a / n + 1) * n = (div-lt_iff_lt-mul {k = n} {x = a} {y = a / n + 1} some).0 (below_next (a / n)) in (
        subst (λ (z : ℤ). z ≤ℤ pos a) (sym (start_pos (a / n))) (pos_le (a / n * n) a below),
        subst (λ (z : ℤ). pos a <ℤ z) (sym (end_pos (a / n))) (pos_lt a ((a / n + 1) * n) above),
      )
  around some (negsuc a) =
      let below : a / n * n ≤ a = div-mul-le_self a n in
      let above : a < suc (a / n) * n = (div-lt_iff_lt-mul {k = n} {x = a} {y = suc (a / n)} some).0 (below_suc (a / n)) in (
        subst (λ (z : ℤ). z ≤ℤ negsuc a) (sym (start_neg (a / n))) (neg_le (suc (a / n) * n) a above),
        subst (λ (z : ℤ). negsuc a <ℤ z) (sym (end_neg (a / n))) (neg_lt a (a / n * n) below),
      )
