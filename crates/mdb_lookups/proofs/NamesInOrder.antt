-- Where a name stands among the numbers that are in the order of their names.
use Rattle.std.proofs.Common.{◌≡◌, ◌∙◌, ◌<◌, ◌+◌, ℕ, List, [], length, get_or, true, false, Some, None, refl, ap, sym, subst, arith, ltb-true, ltb-false}
use Rattle.std.specs.Cmp.{tied_itself}
use Rattle.std.specs.Cmp.Lexicographic.{nat_list_cmp_total, slice_cmp, texts_ties}
use Rattle.std.specs.List.{AllWithin}
use Rattle.std.specs.List.Sorted.{IsPartitionPoint}
use Rattle.std.specs.Ordering.{is_eq, nat_cmp}
use Rattle.std.specs.Prelude.{nat_lt}
use Rattle.std.specs.Str.{bytes_eq}
use Rattle.std.proofs.lemmas.List.Elements.{All-get_or, at_read}
use Rattle.mdb_lookups.specs.NameOrder.{IsNameOrder, is_below, name_numbered}
use Rattle.mdb_items.specs.Texts.{Text, place_of}
use Rattle.mdb_lookups.proofs.FirstOfKey.{first_here, more_above, more_below, none_here, none_past}

module _ (names : List Text) (order : List ℕ) (name : Text) (o : IsNameOrder names order) where
  pub below_too : (k : ℕ) → k < length order → is_below names name (get_or order k 0) ≡ true → AllWithin (λ n. is_below names name n ≡ true) order 0 (k + 1)
  below_too k = more_below nat_list_cmp_total (name_numbered names) (λ n. n) order o.sorted name k 0

  pub above_too : (k : ℕ) → k < length order → is_below names name (get_or order k 0) ≡ false → AllWithin (λ n. is_below names name n ≡ false) order k (length order)
  above_too k = more_above nat_list_cmp_total (name_numbered names) (λ n. n) order o.sorted name k 0

module _ (names : List Text) (order : List ℕ) (name : Text) (k : ℕ) (o : IsNameOrder names order)
    (part : IsPartitionPoint (λ n. is_below names name n ≡ true) (λ n. is_below names name n ≡ false) order k) where
  each : (m : ℕ) → m < length names → (j : ℕ) × (j < length order) × (get_or order j 0 ≡ m)
  each m lt = let at = o.each m lt in (at.0, at.1, at_read order (λ n. n ≡ m) at.0 m at.1 (sym at.2) refl 0)

  pub none_past_all : false ≡ nat_lt k (length order) → place_of name names ≡ None
  none_past_all past = none_past nat_list_cmp_total (name_numbered names) (λ n. n) order o.sorted name names [] 0 (λ j lt. refl) each (bytes_eq name) (texts_ties name) k part.0 (ltb-false k (length order) (sym past))

  module _ (n : ℕ) (there : true ≡ nat_lt k (length order)) (is : n ≡ get_or order k n) where
    lt : k < length order
    lt = ltb-true k (length order) (sym there)

    at_zero : get_or order k 0 ≡ n
    at_zero = at_read order (λ m. m ≡ n) k n lt is refl 0

    pub stands_there : name_numbered names n ≡ name → place_of name names ≡ Some n
    stands_there same =
        let level : slice_cmp nat_cmp (name_numbered names (get_or order k 0)) name ≡ _ = ap (λ m. slice_cmp nat_cmp (name_numbered names m) name) at_zero ∙ ap (λ t. slice_cmp nat_cmp t name) same ∙ tied_itself nat_list_cmp_total name in
        first_here nat_list_cmp_total (name_numbered names) (λ m. m) order o.sorted name names [] 0 (λ j l. refl) each (bytes_eq name) (texts_ties name) k part.0 lt level (All-get_or (λ m. m < length names) order k 0 lt o.known)
        ∙ ap (λ (m : ℕ). Some m) at_zero

    pub known_there : n < length names
    known_there = subst (λ (m : ℕ). m < length names) at_zero (All-get_or (λ m. m < length names) order k 0 lt o.known)

    pub none_there : bytes_eq (name_numbered names n) name ≡ false → place_of name names ≡ None
    none_there other =
        none_here nat_list_cmp_total (name_numbered names) (λ m. m) order o.sorted name names [] 0 (λ j l. refl) each (bytes_eq name) (texts_ties name) k part.0 lt (part.1 k 0 (omega arith) lt)
        (ap (λ m. is_eq (slice_cmp nat_cmp (name_numbered names m) name)) at_zero ∙ sym (texts_ties (name_numbered names n) name) ∙ other)
