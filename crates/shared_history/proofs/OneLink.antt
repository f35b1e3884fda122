-- Where one caller put all, the history is the old one followed by what arrived.
use Rattle.std.proofs.Common.{◌≡◌, ◌⊎◌, inl, inr, ◌≤◌, List, [], ◌∷◌, ◌++◌, length, Bool, true, false, refl, sym, ap, subst, ◌∙◌, arith, true≢false, append_assoc}
use Rattle.std.specs.Prelude.{if◌then◌else◌}
use Rattle.std.specs.List.{list_any}
use Rattle.shared_history.specs.Sent.{AreSomeOf}
use Rattle.shared_history.proofs.Fresh.{fresh_of, Covers, IsLikeness, covers_skip, covers_both, any_append, any_left, any_right, itself, or_cases, or_left, or_right}

module _ {I : Type 0} (same : I → I → Bool) (like : IsLikeness same) where
  length_fresh : (h xs : List I) → length (fresh_of same h xs) ≤ length xs
  length_fresh h [] = omega arith
  length_fresh h (x ∷ xs) = go (list_any (same x) h) (length_fresh h xs) (length_fresh (h ++ x ∷ []) xs)
    where
      go : (b : Bool) → length (fresh_of same h xs) ≤ length xs → length (fresh_of same (h ++ x ∷ []) xs) ≤ length xs → length (if b then fresh_of same h xs else x ∷ fresh_of same (h ++ x ∷ []) xs) ≤ length (x ∷ xs)
      go true p q = omega (arith, p)
      go false p q = omega (arith, q)

  any_some : (z : I) (xs ys : List I) → AreSomeOf xs ys → list_any (same z) xs ≡ true → list_any (same z) ys ≡ true
  any_some z xs [] s e = subst (λ (l : List I). list_any (same z) l ≡ true) s e
  any_some z xs (y ∷ ys) (inl s) e = or_right (same z y) (list_any (same z) ys) (any_some z xs ys s e)
  any_some z xs (y ∷ ys) (inr s) e = go (or_cases (same z y) (list_any (same z) s.0) (subst (λ (l : List I). list_any (same z) l ≡ true) s.1 e)) (any_some z s.0 ys s.2)
    where
      go : (same z y ≡ true) ⊎ (list_any (same z) s.0 ≡ true) → (list_any (same z) s.0 ≡ true → list_any (same z) ys ≡ true) → list_any (same z) (y ∷ ys) ≡ true
      go (inl h) deep = or_left (same z y) (list_any (same z) ys) h
      go (inr h) deep = or_right (same z y) (list_any (same z) ys) (deep h)

  -- what is new is unlike what is there
  unlike : (z : I) (k xs : List I) → list_any (same z) k ≡ true → list_any (same z) (fresh_of same k xs) ≡ true → ⊥
  unlike z k [] there e = absurd cc
  unlike z k (x ∷ xs) there e = go (list_any (same x) k) refl (unlike z k xs there) (unlike z (k ++ x ∷ []) xs (any_left same like z k (x ∷ []) there)) e
    where
      like_x : (xs' : List I) → same z x ≡ true → list_any (same z) xs' ≡ true → list_any (same x) xs' ≡ true
      like_x [] s h = absurd cc
      like_x (y ∷ ys) s h = step (or_cases (same z y) (list_any (same z) ys) h) (like_x ys s)
        where
          step : (same z y ≡ true) ⊎ (list_any (same z) ys ≡ true) → (list_any (same z) ys ≡ true → list_any (same x) ys ≡ true) → list_any (same x) (y ∷ ys) ≡ true
          step (inl a) deep = or_left (same x y) (list_any (same x) ys) (like.each_other z x y s a)
          step (inr a) deep = or_right (same x y) (list_any (same x) ys) (deep a)

      go : (b : Bool) → list_any (same x) k ≡ b → (list_any (same z) (fresh_of same k xs) ≡ true → ⊥) → (list_any (same z) (fresh_of same (k ++ x ∷ []) xs) ≡ true → ⊥) →
          list_any (same z) (if b then fresh_of same k xs else x ∷ fresh_of same (k ++ x ∷ []) xs) ≡ true → ⊥
      go true p one two h = one h
      go false p one two h = cases (or_cases (same z x) (list_any (same z) (fresh_of same (k ++ x ∷ []) xs)) h)
        where
          cases : (same z x ≡ true) ⊎ (list_any (same z) (fresh_of same (k ++ x ∷ []) xs) ≡ true) → ⊥
          cases (inl s) = absurd (true≢false (sym (like_x k s there) ∙ p))
          cases (inr m) = two m

  -- what is new of the arrivals is what was put, where that is new in turn and covers the arrivals
  pub all_put : (xs h k own : List I) → Covers same h k → AreSomeOf own (fresh_of same k xs) → Covers same (h ++ own) xs → fresh_of same h own ≡ own → ((x : I) → same x x ≡ true) → fresh_of same h xs ≡ own
  all_put [] h k own c s cover new itself_like = sym s
  all_put (x ∷ xs) h k own c s cover new itself_like = go (list_any (same x) k) (list_any (same x) h) refl refl s (λ h' k' own' c' s' cover' new'. all_put xs h' k' own' c' s' cover' new' itself_like)
    where
      rest_covered : Covers same (h ++ own) xs
      rest_covered z e = cover z (or_right (same z x) (list_any (same z) xs) e)

      Deep : Type 0
      Deep = (h' k' own' : List I) → Covers same h' k' → AreSomeOf own' (fresh_of same k' xs) → Covers same (h' ++ own') xs → fresh_of same h' own' ≡ own' → fresh_of same h' xs ≡ own'

      -- the head of what was put is new
      head_new : (rest : List I) → own ≡ x ∷ rest → (b : Bool) → list_any (same x) h ≡ b → (if b then fresh_of same h rest else x ∷ fresh_of same (h ++ x ∷ []) rest) ≡ x ∷ rest → (list_any (same x) h ≡ true → ⊥) × (fresh_of same (h ++ x ∷ []) rest ≡ rest)
      head_new rest is true p e = absurd (let l = length_fresh h rest in let m = ap length e in omega (arith, l, m))
      head_new rest is false p e = ((λ t. absurd (true≢false (sym t ∙ p))), cc)

      taken : (rest : List I) → own ≡ x ∷ rest → (list_any (same x) h ≡ true → ⊥) × (fresh_of same (h ++ x ∷ []) rest ≡ rest)
      taken rest is = head_new rest is (list_any (same x) h) refl (subst (λ (l : List I). fresh_of same h l ≡ l) is new)

      more : (rest : List I) → own ≡ x ∷ rest → Covers same ((h ++ x ∷ []) ++ rest) xs
      more rest is z e = subst (λ (l : List I). list_any (same z) l ≡ true) (ap (λ (l : List I). h ++ l) is ∙ sym (append_assoc h (x ∷ []) rest)) (rest_covered z e)

      go : (a b : Bool) → list_any (same x) k ≡ a → list_any (same x) h ≡ b → AreSomeOf own (if a then fresh_of same k xs else x ∷ fresh_of same (k ++ x ∷ []) xs) → Deep →
          (if b then fresh_of same h xs else x ∷ fresh_of same (h ++ x ∷ []) xs) ≡ own
      go true true p q s' deep = deep h k own c s' rest_covered new
      go true false p q s' deep = absurd (true≢false (sym (c x p) ∙ q))
      go false true p q (inl s') deep = deep h (k ++ x ∷ []) own (covers_skip same like h k x c q) s' rest_covered new
      go false true p q (inr s') deep = absurd ((taken s'.0 s'.1).0 q)
      go false false p q (inl s') deep = absurd (cases (any_append same like x h own (cover x (or_left (same x x) (list_any (same x) xs) (itself_like x)))))
        where
          cases : (list_any (same x) h ≡ true) ⊎ (list_any (same x) own ≡ true) → ⊥
          cases (inl t) = absurd (true≢false (sym t ∙ q))
          cases (inr t) = unlike x (k ++ x ∷ []) xs (any_right same like x k (x ∷ []) (itself same like x x (itself_like x))) (any_some x own (fresh_of same (k ++ x ∷ []) xs) s' t)
      go false false p q (inr s') deep =
          ap (λ (l : List I). x ∷ l) (deep (h ++ x ∷ []) (k ++ x ∷ []) s'.0 (covers_both same like h k x c) s'.2 (more s'.0 s'.1) (taken s'.0 s'.1).1) ∙ sym s'.1
