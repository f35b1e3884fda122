-- The answers of readers, in the order of the asks.
use Rattle.std.proofs.Common.{◌≡◌, ℕ, zero, suc, ◌<◌, ◌≤◌, List, [], ◌∷◌, length, min, Bool, true, false, Option, None, refl, sym, ap, subst, arith, ltb}
use Rattle.std.specs.Prelude.{slice_get, unwrap_or}
use Rattle.std.proofs.lemmas.Bool.{ltb-true, ltb-false}
use Rattle.history_items.specs.declared.items.Item.{Item}
use Rattle.archive_store.specs.Entries.{FilledArchive}
use Rattle.retrieval.specs.declared.found_asks.FoundAsk.{FoundAsk}
use Rattle.live_asks.specs.declared.answered.AskAnswer.{AskAnswer}
use Rattle.live_asks.specs.LiveAsks.{AreAnswered, DiskFacts, every_fourth}
use Rattle.live_session.specs.Interleaving.{AreEveryFourth, HaveAnswersFor, answers_at}

-- ---- readers

beyond : {X : Type 0} (xs : List X) (place : ℕ) → length xs ≤ place → slice_get xs place ≡ None
beyond [] place low = refl
beyond (x ∷ xs) zero low = absurd (omega (arith, low))
beyond (x ∷ xs) (suc place) low = beyond xs place (omega (arith, low))

-- who begins behind the last ask has none
no_asks : {X : Type 0} (before : ℕ) (asks : List X) → length asks ≤ before → every_fourth before asks ≡ []
no_asks before [] low = refl
no_asks zero (ask ∷ asks) low = absurd (omega (arith, low))
no_asks (suc before) (ask ∷ asks) low = no_asks before asks (omega (arith, low))

module _ (facts : DiskFacts) (opened : FilledArchive) (old seen : List Item) where
  as_many : (before : List Item) (asks : List FoundAsk) (answers : List AskAnswer) → AreAnswered facts opened before seen asks answers None → length answers ≡ length asks
  as_many before [] [] are = refl
  as_many before [] (answer ∷ answers) are = absurd are
  as_many before (ask ∷ asks) [] are = absurd are
  as_many before (ask ∷ asks) (answer ∷ answers) are = ap suc (as_many are.0.over asks answers are.1)

  module _ (asks : List FoundAsk) (readers : List (List AskAnswer)) (many : length readers ≡ min 4 (length asks))
      (each : (k : ℕ) → k < min 4 (length asks) → AreAnswered facts opened old seen (every_fourth k asks) (answers_at k readers) None) where
    of_four : (k : ℕ) → k < 4 → AreAnswered facts opened old seen (every_fourth k asks) (answers_at k readers) None
    of_four k low = go (ltb k (length asks)) refl
      where
        go : (b : Bool) → ltb k (length asks) ≡ b → AreAnswered facts opened old seen (every_fourth k asks) (answers_at k readers) None
        go true is = let less = ltb-true k (length asks) is in each k (omega (arith, low, less))
        go false is =
            let most = ltb-false k (length asks) is in
            let none : answers_at k readers ≡ [] = ap (λ (o : Option (List AskAnswer)). unwrap_or o []) (beyond readers k (omega (arith, many, most))) in
            subst (λ (l : List FoundAsk). AreAnswered facts opened old seen l (answers_at k readers) None) (sym (no_asks k asks (omega (arith, most))))
            (subst (λ (l : List AskAnswer). AreAnswered facts opened old seen [] l None) (sym none) tt)

    pub have_as_many : HaveAnswersFor asks (answers_at 0 readers) (answers_at 1 readers) (answers_at 2 readers) (answers_at 3 readers)
    have_as_many = record {
      of_first = as_many old (every_fourth 0 asks) (answers_at 0 readers) (of_four 0 (omega arith));
      of_second = as_many old (every_fourth 1 asks) (answers_at 1 readers) (of_four 1 (omega arith));
      of_third = as_many old (every_fourth 2 asks) (answers_at 2 readers) (of_four 2 (omega arith));
      of_fourth = as_many old (every_fourth 3 asks) (answers_at 3 readers) (of_four 3 (omega arith));
    }

    -- so each ask is answered
    pub all_answered : (answers : List AskAnswer) → AreEveryFourth answers (answers_at 0 readers) (answers_at 1 readers) (answers_at 2 readers) (answers_at 3 readers)
        → (before : ℕ) → before < 4 → AreAnswered facts opened old seen (every_fourth before asks) (every_fourth before answers) None
    all_answered answers every zero low = subst (λ (l : List AskAnswer). AreAnswered facts opened old seen (every_fourth 0 asks) l None) (sym every.of_first) (of_four 0 (omega arith))
    all_answered answers every (suc zero) low = subst (λ (l : List AskAnswer). AreAnswered facts opened old seen (every_fourth 1 asks) l None) (sym every.of_second) (of_four 1 (omega arith))
    all_answered answers every (suc (suc zero)) low = subst (λ (l : List AskAnswer). AreAnswered facts opened old seen (every_fourth 2 asks) l None) (sym every.of_third) (of_four 2 (omega arith))
    all_answered answers every (suc (suc (suc zero))) low = subst (λ (l : List AskAnswer). AreAnswered facts opened old seen (every_fourth 3 asks) l None) (sym every.of_fourth) (of_four 3 (omega arith))
    all_answered answers every (suc (suc (suc (suc more)))) low = absurd (omega (arith, low))
