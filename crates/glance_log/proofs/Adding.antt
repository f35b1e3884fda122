-- The exchange that adds a publication keeps the rule.
use Rattle.std.proofs.Common.{◌≡◌, ℕ, ◌+◌, ◌<◌, ◌==◌, MatchBool, Bool, true, false, List, [], ◌∷◌, ◌++◌, length, refl, ap, sym, ◌∙◌, subst, arith, inl, length-append, None}
use Rattle.std.proofs.lemmas.List.{append-nil}
use Rattle.std.proofs.lemmas.Bool.Decides.{nat_tests}
use mathlib.Core.List.{IsPrefix}
use prog.Atomic.{either}
use Rattle.logbook.specs.Pages.{Book, Cell, cell, keeps, no_nib, step, Moves, Goes}
use Rattle.glance_log.specs.declared.publication.Publication.{Publication}
use Rattle.glance_log.specs.Rules.{IsLogOf, ArePublished, IsSight, IsPublished}
use Rattle.glance_log.specs.Sightings.{MayFollow, sighting, sighting_of}
use Rattle.glance_log.proofs.Prefixes.{prefix_whole}
use Rattle.glance_log.proofs.Chains.{chain_more, sighting_more}

module _ {X : Type 0} where
  abbrev pub shown : List (Publication X) → List (Publication X)
  shown log = []

  abbrev pub moved : List (Publication X) → List (Publication X) → ℕ → Type 0
  moved xs ys n = Unit {0}

  pub adds_goes : (book : Book) (log v : List (Publication X)) (e : Publication X) (number old : ℕ) → length v ≡ old + 1 → length log ≡ number + 1 → MayFollow (sighting_of book v) e → ArePublished log → IsPrefix v log
      → (b : Bool) → (number == old) ≡ b
      → Goes IsLogOf shown moved 0 (v, (no_nib, None)) (λ n. either (n == old) (old + 1) n) (IsPublished (step 0 old (old + 1) e) (v, (no_nib, None))) ((number, true) ∷ []) log
  adds_goes book log v e number old len count may chain pre true is =
      let here : number ≡ old = grind (arith, nat_tests) in
      let same : v ≡ log = prefix_whole v log pre (omega arith) in
      let follows : MayFollow (sighting_of book log) e = subst (λ (l : List (Publication X)). MayFollow (sighting_of book l) e) same may in
      let more : ArePublished (log ++ e ∷ []) = chain_more book log e (omega arith) chain follows in
      let n : either (number == old) (old + 1) number ≡ old + 1 = rw is refl in (
        keeps,
        e ∷ [],
        None,
        tt,
        record { number = old + 1; words = ap (λ (k : ℕ). (k, true) ∷ []) n; count = omega (arith, length-append log (e ∷ [])); chain = more },
        inl (refl, refl),
        rw is (ap (λ w. w ++ e ∷ []) (sym same)),
      )
  adds_goes book log v e number old len count may chain pre false is =
      let all : log ++ [] ≡ log = append-nil log in
      let same : ArePublished (log ++ []) = subst ArePublished (sym all) chain in
      let n : either (number == old) (old + 1) number ≡ number = rw is refl in (
        keeps,
        [],
        None,
        tt,
        record { number = number; words = ap (λ (k : ℕ). (k, true) ∷ []) n; count = omega (arith, ap length all); chain = same },
        inl (refl, refl),
        rw is tt,
      )

  -- whatever the book is, the exchange adds the publication to all that was seen, or finds another number
  pub adds_moves : (book : Book) (v : List (Publication X)) (e : Publication X) (old : ℕ) → length v ≡ old + 1 → MayFollow (sighting_of book v) e
      → Moves IsLogOf shown moved 0 (v, (no_nib, None)) (λ n. either (n == old) (old + 1) n) (IsPublished (step 0 old (old + 1) e) (v, (no_nib, None)))
  adds_moves book v e old len may cs log kept pre away =
      let P : List Cell → Type 0 = λ c. (0 < length c) × ((cell c 0).1 ≡ true) × Goes IsLogOf shown moved 0 (v, (no_nib, None)) (λ n. either (n == old) (old + 1) n) (IsPublished (step 0 old (old + 1) e) (v, (no_nib, None))) c log in
      subst P (sym kept.words) (omega arith, refl, adds_goes book log v e kept.number old len kept.count may kept.chain pre (kept.number == old) refl)

  -- the list that is seen then ends with it
  pub added_sight : (book : Book) (v w : List (Publication X)) (p : Publication X) (number found : ℕ) → IsSight number v → MayFollow (sighting_of book v) p → found ≡ number
      → MatchBool (found == number) (w ≡ v ++ p ∷ []) (Unit {0}) → IsSight (number + 1) w × (sighting_of book w ≡ sighting book p)
  added_sight book v w p number found sight may same told =
      let here : (found == number) ≡ true = grind (arith, nat_tests, same) in
      let is : w ≡ v ++ p ∷ [] = subst (λ (b : Bool). MatchBool b (w ≡ v ++ p ∷ []) (Unit {0})) here told in
      let chain : ArePublished (v ++ p ∷ []) = chain_more book v p (omega (arith, sight.count)) sight.chain may in (
        record { count = omega (arith, ap length is, length-append v (p ∷ []), sight.count); chain = subst ArePublished (sym is) chain },
        ap (sighting_of book) is ∙ sighting_more book v p,
      )
