-- What is of the log of an archive with glances.
use Rattle.std.proofs.Common.{◌≡◌, ℕ, zero, suc, ◌++◌, List, [], ◌∷◌, Option, Some, None, MatchOption, refl, sym, ◌∙◌, subst}
use Rattle.std.specs.List.{AllByRecursion}
use Rattle.std.specs.Prelude.{IsSomeAnd, IfSome, replicate}
use Rattle.glance_board.specs.Shelves.{ShelfView}
use Rattle.glance_log.specs.Sightings.{Sighting}
use Rattle.store_shelf.specs.declared.kept.Kept.{Kept}
use Rattle.live_archive.specs.declared.held.HeldStore.{HeldStore}
use Rattle.live_archive.specs.Shelving.{AreShownFirst, IsOfLog}

-- it stays so, as its log stays
pub of_log_stays : {D : Type 0} (first : HeldStore D) (old new : Sighting (Kept D)) → IsOfLog first old → new.book ≡ old.book → IsOfLog first new
of_log_stays {D = D} first old new = go first.shelf
  where
    go : (shelf : Option (ShelfView (Kept D))) → IsSomeAnd shelf (λ s. old.book ≡ s.made.book) → new.book ≡ old.book → IsSomeAnd shelf (λ s. new.book ≡ s.made.book)
    go None none same = none
    go (Some s) is same = same ∙ is

-- two of it are of one log
pub of_one_log : {D : Type 0} (first : HeldStore D) (a b : Sighting (Kept D)) → IsOfLog first a → IsOfLog first b → a.book ≡ b.book
of_one_log {D = D} first a b = go first.shelf
  where
    go : (shelf : Option (ShelfView (Kept D))) → IsSomeAnd shelf (λ s. a.book ≡ s.made.book) → IsSomeAnd shelf (λ s. b.book ≡ s.made.book) → a.book ≡ b.book
    go None p q = absurd p
    go (Some s) p q = p ∙ sym q

last_of : {X : Type 0} (P : X → Type 0) (xs : List X) (x : X) → AllByRecursion P (xs ++ x ∷ []) → P x
last_of P [] x all = all.0
last_of P (y ∷ ys) x all = last_of P ys x all.1

-- what holds of each holds of one that is taken
pub taken_is : {X : Type 0} (P : X → Type 0) (old new : List X) (taken : Option X) → MatchOption taken ((old ≡ []) × (new ≡ [])) (λ x. old ≡ new ++ x ∷ []) → AllByRecursion P old → IfSome taken P
taken_is P old new None none all = tt
taken_is P old new (Some x) is all = last_of P new x (subst (AllByRecursion P) is all)

-- the glances that an archive begins with are of its log
pub shown_are_of_log : {D : Type 0} (first : HeldStore D) (readers : ℕ) (glances : List (Sighting (Kept D))) → AreShownFirst first readers glances → AllByRecursion (IsOfLog first) glances
shown_are_of_log {D = D} first readers glances shown = subst (AllByRecursion (IsOfLog first)) (sym shown.seen) (all_of readers)
  where
    at_is : IsOfLog first shown.at
    at_is = subst (λ (o : Option (ShelfView (Kept D))). IsSomeAnd o (λ s. shown.at.book ≡ s.made.book)) (sym shown.shelf) refl

    all_of : (n : ℕ) → AllByRecursion (IsOfLog first) (replicate n shown.at)
    all_of zero = tt
    all_of (suc n) = (at_is, all_of n)
