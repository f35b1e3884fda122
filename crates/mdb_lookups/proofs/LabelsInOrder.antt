-- Where a raw number stands among labels that are in the order of their raw numbers.
use Rattle.std.proofs.Common.{◌≡◌, ◌∙◌, ◌<◌, ℕ, List, length, map, get_or, Bool, true, false, Option, Some, None, refl, ap, sym, arith, ltb-true, ltb-false, inl, inr}
use Rattle.std.specs.Prelude.{ℤ, pos, cond, int_lt, nat_lt}
use Rattle.std.specs.Cmp.{Equal-is}
use Rattle.std.specs.List.{AllWithin, position}
use Rattle.std.specs.List.Sorted.{IsPartitionPoint, IsPartitionedBy}
use Rattle.std.specs.Ordering.{int_cmp, int_eq, is_lt}
use Rattle.std.specs.declared.cmp.Ordering.TheVariants.{Less, Equal, Greater}
use Rattle.std.proofs.lemmas.Bool.{cases_Bool}
use Rattle.std.proofs.lemmas.Bool.Decides.{Decides-int_eq}
use Rattle.std.proofs.lemmas.Cmp.{int_cmp_total, int_eq_equiv}
use Rattle.std.proofs.lemmas.List.Elements.{at_read}
use Rattle.mdb_items.specs.declared.calibration.EnumRow.{EnumRow}
use Rattle.mdb_items.proofs.Places.{position-map}
use Rattle.mdb_lookups.specs.LabelOrder.{AreLabelsSorted, label_row}
use Rattle.mdb_lookups.proofs.FirstOfKey.{first_here, none_here, none_past, parted}

is_first : (s t : Bool) → is_lt (cond s Less (cond t Greater Equal)) ≡ s
is_first true t = refl
is_first false true = refl
is_first false false = refl

below_is : (a b : ℤ) → is_lt (int_cmp a b) ≡ int_lt a b
below_is a b = is_first (int_lt a b) (int_lt b a)

module _ (labels : List EnumRow) (order : List (ℤ × ℕ)) (raw : ℤ) (o : AreLabelsSorted labels order) where
  -- where a later number is below the raw number, an earlier one is
  pub parted_below : IsPartitionedBy (λ (p : ℤ × ℕ). int_lt p.0 raw) order
  parted_below i j d le lt is = sym (below_is _ raw) ∙ parted int_cmp_total (λ (p : ℤ × ℕ). p.0) (λ p. p.1) order o.sorted raw i j d le lt (below_is _ raw ∙ is)

module _ (labels : List EnumRow) (order : List (ℤ × ℕ)) (raw : ℤ) (o : AreLabelsSorted labels order) (k : ℕ)
    (part : IsPartitionPoint (λ (p : ℤ × ℕ). int_lt p.0 raw ≡ true) (λ (p : ℤ × ℕ). int_lt p.0 raw ≡ false) order k) where
  abbrev zero : ℤ × ℕ
  zero = (pos 0, 0)

  abbrev numbers : List ℤ
  numbers = map (λ (row : EnumRow). row.x) labels

  by_numbers : (r : Option ℕ) → position (λ y. int_eq y raw) numbers ≡ r → label_row labels raw ≡ r
  by_numbers r is = position-map (λ y. int_eq y raw) (λ (row : EnumRow). row.x) labels ∙ is

  below : AllWithin (λ (p : ℤ × ℕ). is_lt (int_cmp p.0 raw) ≡ true) order 0 k
  below i d low high = below_is _ raw ∙ part.0 i d low high

  own : (j : ℕ) → j < length order → (get_or order j zero).0 ≡ get_or numbers (get_or order j zero).1 (pos 0)
  own j lt = (o.known j zero lt).1

  each : (m : ℕ) → m < length numbers → (j : ℕ) × (j < length order) × ((get_or order j zero).1 ≡ m)
  each m lt = let at = o.each m lt in (at.0, at.1, at_read order (λ p. p.1 ≡ m) at.0 (get_or numbers m (pos 0), m) at.1 (sym at.2) refl zero)

  pub none_past_all : false ≡ nat_lt k (length order) → label_row labels raw ≡ None
  none_past_all past = by_numbers None
      (none_past int_cmp_total (λ (p : ℤ × ℕ). p.0) (λ p. p.1) order o.sorted raw numbers (pos 0) zero own each (λ y. int_eq y raw) (λ y. int_eq_equiv.symm y raw) k below (ltb-false k (length order) (sym past)))

  module _ (e : ℤ × ℕ) (there : true ≡ nat_lt k (length order)) (is : e ≡ get_or order k e) where
    lt : k < length order
    lt = ltb-true k (length order) (sym there)

    at_zero : get_or order k zero ≡ e
    at_zero = at_read order (λ p. p ≡ e) k e lt is refl zero

    pub stands_there : e.0 ≡ raw → label_row labels raw ≡ Some e.1
    stands_there same =
        let level : int_cmp (get_or order k zero).0 raw ≡ Equal = ap (λ (p : ℤ × ℕ). int_cmp p.0 raw) at_zero ∙ (Equal-is (int_cmp e.0 raw)).0 ((Decides-int_eq e.0 raw).1 same) in
        by_numbers (Some e.1)
        (first_here int_cmp_total (λ (p : ℤ × ℕ). p.0) (λ p. p.1) order o.sorted raw numbers (pos 0) zero own each (λ y. int_eq y raw) (λ y. int_eq_equiv.symm y raw) k below lt level (o.known k zero lt).0
        ∙ ap (λ (p : ℤ × ℕ). Some p.1) at_zero)

    differs : (e.0 ≡ raw → ⊥) → int_eq e.0 raw ≡ false
    differs other = elim (cases_Bool (int_eq e.0 raw)) [
      | inl is ↦ absurd (other ((Decides-int_eq e.0 raw).0 is))
      | inr isnt ↦ isnt
    ]

    pub none_there : (e.0 ≡ raw → ⊥) → label_row labels raw ≡ None
    none_there other = by_numbers None
        (none_here int_cmp_total (λ (p : ℤ × ℕ). p.0) (λ p. p.1) order o.sorted raw numbers (pos 0) zero own each (λ y. int_eq y raw) (λ y. int_eq_equiv.symm y raw) k below lt (below_is _ raw ∙ part.1 k zero (omega arith) lt)
        (ap (λ (p : ℤ × ℕ). int_eq p.0 raw) at_zero ∙ differs other))
