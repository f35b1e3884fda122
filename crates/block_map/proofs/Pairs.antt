-- Keys of two parts, ordered by the first and then by the second.
use Rattle.std.proofs.Common.{◌≡◌, ◌⊎◌, inl, inr, sym, subst}
use Rattle.std.specs.Ordering.{ordering_then, MatchOrdering}
use Rattle.std.specs.declared.cmp.Ordering.{Ordering}
use Rattle.std.specs.declared.cmp.Ordering.TheVariants.{Less, Equal, Greater}

module _ {A B : Type 0} (L : A → A → Type 0) (M : B → B → Type 0) where
  -- the first part is below the other's, or they are equal and the second is
  abbrev pub IsPairBelow : A → B → A → B → Type 0
  IsPairBelow a b c d = L a c ⊎ ((a ≡ c) × M b d)

  module _ (a : A) (b : B) (c : A) (d : B) where
    both_ranks : (r s : Ordering) → MatchOrdering r (L a c) (a ≡ c) (L c a) → MatchOrdering s (M b d) (b ≡ d) (M d b) →
        MatchOrdering (ordering_then r s) (IsPairBelow a b c d) ((a ≡ c) × (b ≡ d)) (IsPairBelow c d a b)
    both_ranks Less s first second = inl first
    both_ranks Greater s first second = inl first
    both_ranks Equal Less first second = inr (first, second)
    both_ranks Equal Equal first second = (first, second)
    both_ranks Equal Greater first second = inr (sym first, second)

    -- what the orders of the parts say of them, said of both by an answer of the order
    pub pair_ranks : (r s : Ordering) → MatchOrdering r (L a c) (a ≡ c) (L c a) → MatchOrdering s (M b d) (b ≡ d) (M d b) → (k : Ordering) → ordering_then r s ≡ k →
        MatchOrdering k (IsPairBelow a b c d) ((a ≡ c) × (b ≡ d)) (IsPairBelow c d a b)
    pair_ranks r s first second k e = subst (λ (o : Ordering). MatchOrdering o (IsPairBelow a b c d) ((a ≡ c) × (b ≡ d)) (IsPairBelow c d a b)) e (both_ranks r s first second)
