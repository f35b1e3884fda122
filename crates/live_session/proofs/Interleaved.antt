-- Lists of which each has every fourth of one list, interleaved one by one.
use Rattle.std.proofs.Common.{◌≡◌, ℕ, zero, suc, ◌+◌, ◌<◌, ◌≤◌, List, [], ◌∷◌, ◌++◌, length, drop, refl, sym, ap, ◌∙◌, subst, arith, append_assoc, append-nil}
use Rattle.std.proofs.lemmas.List.{drop_all}
use Rattle.live_session.specs.Interleaving.{AreEveryFourth, HaveAnswersFor}

-- one answer more, of the list whose turn it is
pub interleaved_more : {Y : Type 0} (y : Y) (tail a b c d : List Y) → AreEveryFourth tail b c d a → AreEveryFourth (y ∷ tail) (y ∷ a) b c d
interleaved_more {Y = Y} y tail a b c d every = record { of_first = ap (λ (l : List Y). y ∷ l) every.of_fourth; of_second = every.of_first; of_third = every.of_second; of_fourth = every.of_third }

-- as many as the asks that are left
pub as_many_left : {X Y : Type 0} (x : X) (asks : List X) (y : Y) (a b c d : List Y) → HaveAnswersFor (x ∷ asks) (y ∷ a) b c d → HaveAnswersFor asks b c d a
as_many_left x asks y a b c d many = let first = many.of_first in record { of_first = many.of_second; of_second = many.of_third; of_third = many.of_fourth; of_fourth = omega (arith, first) }

none_long : {X : Type 0} (xs : List X) → length xs ≡ 0 → xs ≡ []
none_long [] is = refl
none_long (x ∷ xs) is = absurd (omega (arith, is))

-- where no ask is left, no answer is
pub none_more : {X Y : Type 0} (a b c d : List Y) → HaveAnswersFor {X = X} [] a b c d → AreEveryFourth [] a b c d
none_more a b c d many = record { of_first = sym (none_long a many.of_first); of_second = sym (none_long b many.of_second); of_third = sym (none_long c many.of_third); of_fourth = sym (none_long d many.of_fourth) }

-- where an ask is left, there's an answer to it
pub some_left : {X Y : Type 0} (x : X) (asks : List X) (b c d : List Y) → HaveAnswersFor (x ∷ asks) [] b c d → ⊥
some_left x asks b c d many = let first = many.of_first in absurd (omega (arith, first))

-- ---- for each ask in turn

drop_step : {X : Type 0} (xs : List X) (i : ℕ) → i < length xs → (x : X) × (drop i xs ≡ x ∷ drop (i + 1) xs)
drop_step [] i low = absurd (omega (arith, low))
drop_step (x ∷ xs) zero low = (x, refl)
drop_step {X = X} (x ∷ xs) (suc i) low =
    let deep = drop_step xs i (omega (arith, low)) in
    let next : suc (i + 1) ≡ suc i + 1 = omega arith in
    (deep.0, deep.1 ∙ ap (λ (n : ℕ). deep.0 ∷ drop n (x ∷ xs)) next)

module _ {X Y : Type 0} (asks : List X) (i : ℕ) (a b c d : List Y) where
  -- while an ask is left there's an answer
  pub none_wants : i < length asks → a ≡ [] → HaveAnswersFor (drop i asks) a b c d → ⊥
  none_wants low none many =
      let step = drop_step asks i low in
      some_left step.0 (drop (i + 1) asks) b c d (subst (λ (l : List Y). HaveAnswersFor (step.0 ∷ drop (i + 1) asks) l b c d) none (subst (λ (l : List X). HaveAnswersFor l a b c d) step.1 many))

  pub one_interleaved : (y : Y) (rest : List Y) → i < length asks → a ≡ y ∷ rest → HaveAnswersFor (drop i asks) a b c d → HaveAnswersFor (drop (i + 1) asks) b c d rest
  one_interleaved y rest low is many =
      let step = drop_step asks i low in
      as_many_left step.0 (drop (i + 1) asks) y rest b c d (subst (λ (l : List Y). HaveAnswersFor (step.0 ∷ drop (i + 1) asks) l b c d) is (subst (λ (l : List X). HaveAnswersFor l a b c d) step.1 many))

  -- with one more, which is pushed
  pub pushed : (answers answers' : List Y) (y : Y) (rest : List Y) (p q r s : List Y) → a ≡ y ∷ rest → answers' ≡ answers ++ y ∷ [] → ((tail : List Y) → AreEveryFourth tail a b c d → AreEveryFourth (answers ++ tail) p q r s)
      → (tail : List Y) → AreEveryFourth tail b c d rest → AreEveryFourth (answers' ++ tail) p q r s
  pushed answers answers' y rest p q r s is push before tail every =
      let whole : answers ++ y ∷ tail ≡ answers' ++ tail = sym (append_assoc answers (y ∷ []) tail) ∙ ap (λ (l : List Y). l ++ tail) (sym push) in
      subst (λ (l : List Y). AreEveryFourth l p q r s) whole (before (y ∷ tail) (subst (λ (l : List Y). AreEveryFourth (y ∷ tail) l b c d) (sym is) (interleaved_more y tail rest b c d every)))

  -- once no ask is left all are interleaved
  pub all_interleaved : (answers : List Y) (p q r s : List Y) → length asks ≤ i → HaveAnswersFor (drop i asks) a b c d → ((tail : List Y) → AreEveryFourth tail a b c d → AreEveryFourth (answers ++ tail) p q r s) → AreEveryFourth answers p q r s
  all_interleaved answers p q r s low many before =
      let none : drop i asks ≡ [] = drop_all i asks low in
      subst (λ (l : List Y). AreEveryFourth l p q r s) (append-nil answers) (before [] (none_more a b c d (subst (λ (l : List X). HaveAnswersFor l a b c d) none many)))
