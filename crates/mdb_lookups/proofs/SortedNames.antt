-- Names with the numbers of their items, once they are sorted, and their numbers alone.
use Rattle.std.proofs.Common.{◌≡◌, ◌∙◌, ◌<◌, ◌+◌, ℕ, List, [], ◌∷◌, length, map, refl, ap, sym, subst, arith}
use Rattle.std.specs.Prelude.{Bool}
use Rattle.std.specs.Cmp.Lexicographic.{slice_cmp}
use Rattle.std.specs.List.Sorted.{IsPermutation, IsSorted, IsSortedBy}
use Rattle.std.specs.Ordering.{is_lt, nat_cmp, ordering_then}
use Rattle.std.proofs.lemmas.List.{get_or-map, length-map}
use Rattle.std.proofs.lemmas.List.Elements.{All-get_or, All-map}
use Rattle.std.proofs.lemmas.List.Sorted.{IsPermutation-map}
use Rattle.mdb_lookups.specs.NameOrder.{AreNamesSorted, IsNameOrder, name_numbered, name_cmp}
use Rattle.mdb_items.specs.Texts.{Text}
use Rattle.mdb_lookups.proofs.SortedKeys.{AreNumbered, keys_sorted}

-- sorted by what f gives is, of what f gives, sorted
sorted-map : {X Y : Type 0} (f : X → Y) (lt : Y → Y → Bool) (xs : List X) → IsSortedBy (λ a b. lt (f a) (f b)) xs → IsSortedBy lt (map f xs)
sorted-map f lt [] up k d low high = absurd (omega arith)
sorted-map f lt (x ∷ xs) up k d low high =
    let size = length-map (x ∷ xs) f in
    let next : k + 1 < length (x ∷ xs) = subst (λ n. k + 1 < n) size high in
    rw (get_or-map f (x ∷ xs) (k + 1) x d next, get_or-map f (x ∷ xs) k x d (omega (arith, next))) (up k x low next)

module _ {X : Type 0} (names : List Text) (view : X → Text × ℕ) (old new : List X) (numbered : AreNumbered [] names (length names) (map view old)) (moved : IsPermutation old new) where
  pub names_sorted : IsSorted (λ a b. ordering_then (slice_cmp nat_cmp (view a).0 (view b).0) (nat_cmp (view a).1 (view b).1)) new → AreNamesSorted names (map view new)
  names_sorted up = keys_sorted (slice_cmp nat_cmp) [] names (map view old) (map view new) numbered (IsPermutation-map view old new moved)
      (sorted-map view (λ a b. is_lt (ordering_then (slice_cmp nat_cmp a.0 b.0) (nat_cmp a.1 b.1))) new up)

-- the numbers of sorted names
pub numbers_sorted : (names : List Text) (named : List (Text × ℕ)) → AreNamesSorted names named → IsNameOrder names (map (λ p. p.1) named)
numbers_sorted names named a = record {
  sorted = sorted-map (λ (p : Text × ℕ). p.1) (λ m n. is_lt (name_cmp names m n)) named (λ k d low high.
      let next = (All-get_or (λ p. (p.1 < length names) × (p.0 ≡ name_numbered names p.1)) named (k + 1) d high a.known).1 in
      let this = (All-get_or (λ p. (p.1 < length names) × (p.0 ≡ name_numbered names p.1)) named k d (omega (arith, high)) a.known).1 in
      rw (sym next, sym this) (a.sorted k d low high));
  known = All-map (λ n. n < length names) (λ (p : Text × ℕ). p.1) named (λ k d lt. (a.known k d lt).0);
  each = λ n lt. let at = a.each n lt in
      (at.0, rw (length-map named (λ (p : Text × ℕ). p.1)) at.1, get_or-map (λ (p : Text × ℕ). p.1) named at.0 (name_numbered names n, n) n at.1 ∙ ap (λ (p : Text × ℕ). p.1) at.2);
}

pub seconds : {A : Type 0} (now : A → Text) (xs : List (A × ℕ)) → map (λ (p : Text × ℕ). p.1) (map (λ (p : A × ℕ). (now p.0, p.1)) xs) ≡ map (λ (p : A × ℕ). p.1) xs
seconds now [] = refl
seconds now (x ∷ xs) = ap (λ ns. x.1 ∷ ns) (seconds now xs)
