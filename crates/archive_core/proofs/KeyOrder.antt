-- A stable sort by key puts rows in their order.
use Rattle.std.proofs.Common.{◌≡◌, List, [], ◌∷◌, ◌++◌, Bool, true, false, refl, sym, ◌∙◌, ap, append-nil, append_assoc}
use Rattle.std.specs.Prelude.{filter, fold, not}
use Rattle.std.specs.List.{AllByRecursion}
use Rattle.std.specs.List.Sorted.{IsSortedBy, ties}
use Rattle.std.specs.Cmp.{IsStrictWeakOrder}
use Rattle.std.proofs.lemmas.Bool.{and_parts}
use Rattle.std.proofs.lemmas.List.Elements.{filter_passes, recursion_from_All}
use Rattle.arch_types.specs.declared.row.Row.{Row}
use Rattle.arch_types.specs.Order.{is_before, place_by, order_by}
use Rattle.arch_types.proofs.InOrder.{order_sorted}
use Rattle.arch_types.proofs.Ordered.{filter-order}
use Rattle.arch_types.proofs.Ranks.{rows_rank}
use Rattle.replay_merge.proofs.Sorting.{ascending, same_sorted}

not_true : (b : Bool) → not b ≡ true → b ≡ false
not_true true e = absurd cc
not_true false e = refl

module _ {X : Type 0} {lt : X → X → Bool} (o : IsStrictWeakOrder lt) where
  -- neither of two that tie is below the other
  tied_parts : (z x : X) → ties lt z x ≡ true → (lt z x ≡ false) × (lt x z ≡ false)
  tied_parts z x tied =
      let p = and_parts (not (lt z x)) (not (lt x z)) tied in
      (not_true (lt z x) p.0, not_true (lt x z) p.1)

  -- an item that is below none is put last
  put_last : (ys : List X) (x : X) → AllByRecursion (λ y. lt x y ≡ false) ys → place_by lt ys x ≡ ys ++ x ∷ []
  put_last [] x all = refl
  put_last (y ∷ ys) x all = rw all.0 (ap (λ (l : List X). y ∷ l) (put_last ys x all.1))

  not_below : (z x : X) → ties lt z x ≡ true → (ys : List X) → AllByRecursion (λ y. ties lt z y ≡ true) ys → AllByRecursion (λ y. lt x y ≡ false) ys
  not_below z x tied [] all = tt
  not_below z x tied (y ∷ ys) all = (o.chain x z y (tied_parts z x tied).1 (tied_parts z y all.0).0, not_below z x tied ys all.1)

  all_push : (P : X → Type 0) (ys : List X) (x : X) → AllByRecursion P ys → P x → AllByRecursion P (ys ++ x ∷ [])
  all_push P [] x all p = (p, tt)
  all_push P (y ∷ ys) x all p = (all.0, all_push P ys x all.1 p)

  tied_fold : (z : X) (acc xs : List X) → AllByRecursion (λ y. ties lt z y ≡ true) acc → AllByRecursion (λ y. ties lt z y ≡ true) xs → fold (place_by lt) acc xs ≡ acc ++ xs
  tied_fold z acc [] before all = sym (append-nil acc)
  tied_fold z acc (x ∷ xs) before all =
      ap (λ (l : List X). fold (place_by lt) l xs) (put_last acc x (not_below z x all.0 acc before))
      ∙ tied_fold z (acc ++ x ∷ []) xs (all_push (λ y. ties lt z y ≡ true) acc x before all.0) all.1
      ∙ append_assoc acc (x ∷ []) xs

  -- items that all tie with one stay as they stand
  ordered_tied : (z : X) (xs : List X) → AllByRecursion (λ y. ties lt z y ≡ true) xs → order_by lt xs ≡ xs
  ordered_tied z xs all = tied_fold z [] xs tt all

-- sorted, and those that tie with any row as they stood: that is the rows' order
pub only_order : (rows sorted : List Row) → IsSortedBy is_before sorted → ((z : Row) → filter (ties is_before z) sorted ≡ filter (ties is_before z) rows) → sorted ≡ order_by is_before rows
only_order rows sorted up stable =
    same_sorted rows_rank sorted (order_by is_before rows) (ascending rows_rank sorted up) (ascending rows_rank (order_by is_before rows) (order_sorted rows))
    (λ z. stable z
    ∙ sym (filter-order rows_rank (ties is_before z) rows
    ∙ ordered_tied rows_rank z (filter (ties is_before z) rows)
    (recursion_from_All (λ y. ties is_before z y ≡ true) (filter (ties is_before z) rows) (filter_passes (ties is_before z) rows))))
