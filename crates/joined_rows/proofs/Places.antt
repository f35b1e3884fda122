-- The position of a key in two sources of one history.
use Rattle.std.proofs.Common.{◌≡◌, ℕ, ◌+◌, List, [], ◌∷◌, ◌++◌, Option, Some, None, Bool, true, false, refl, sym, ap, ◌∙◌, arith}
use Rattle.std.specs.Prelude.{◌&&◌, ◌||◌, ◌==◌, IfSome}
use Rattle.std.specs.List.{AllByRecursion}
use Rattle.std.specs.Ordering.{is_eq}
use Rattle.std.proofs.lemmas.Bool.Decides.{nat_tests}
use Rattle.std.proofs.lemmas.Cmp.{tied_itself}
use Rattle.std.proofs.lemmas.List.Folds.{list_any-append}
use Rattle.std.proofs.lemmas.Map.Views.{tells_apart}
use Rattle.arch_types.specs.declared.row.Row.{Row}
use Rattle.arch_types.specs.declared.key.Key.{Key}
use Rattle.arch_types.specs.History.{IsHistory, has_key, is_duplicate_of, is_in_table}
use Rattle.arch_types.specs.Order.{key_cmp}
use Rattle.arch_types.proofs.Ranks.{key_cmp_total}
use Rattle.replay_merge.specs.RowSource.{IsPositionOf, has_row_at}
use Rattle.joined_rows.specs.Joined.{AreHistoriesTogether, told_by_both}
use Rattle.joined_rows.proofs.SameRows.{exact_keys}

both_true : (a b : Bool) → (a && b) ≡ true → (a ≡ true) × (b ≡ true)
both_true true b e = (refl, e)
both_true false b e = absurd cc

same_number : (t a b : ℕ) → (t == a) ≡ true → (t == b) ≡ true → (b == a) ≡ true
same_number t a b ea eb = grind (arith, nat_tests)

module _ (table : ℕ) (key : Key) where
  abbrev is_at : Row → Bool
  is_at row = is_in_table table row && has_key key row

  duplicates : (x y : Row) → is_at x ≡ true → is_at y ≡ true → is_duplicate_of y x ≡ true
  duplicates x y first second =
      let of_x = both_true (is_in_table table x) (has_key key x) first in
      let of_y = both_true (is_in_table table y) (has_key key y) second in
      let same : y.key ≡ x.key = sym (tells_apart exact_keys key y.key of_y.1) ∙ tells_apart exact_keys key x.key of_x.1 in
      let number : (y.table == x.table) ≡ true = same_number table x.table y.table of_x.0 of_y.0 in
      let one : is_eq (key_cmp y.key x.key) ≡ true = rw same (ap is_eq (tied_itself key_cmp_total x.key)) in
      rw (number, one) refl

  none_more : (x : Row) (b : List Row) → is_at x ≡ true → AllByRecursion (λ later. is_duplicate_of later x ≡ false) b → has_row_at table key b ≡ false
  none_more x [] has apart = refl
  none_more x (y ∷ b) has apart = by (is_at y) refl (none_more x b has apart.1)
    where
      by : (r : Bool) → is_at y ≡ r → has_row_at table key b ≡ false → has_row_at table key (y ∷ b) ≡ false
      by true e later = let same = duplicates x y has e in let other = apart.0 in absurd cc
      by false e later = rw (e, later) refl

  -- a key that the last rows of a history have isn't one of the first rows
  pub apart : (a b : List Row) → IsHistory (a ++ b) → has_row_at table key b ≡ true → has_row_at table key a ≡ false
  apart [] b is has = refl
  apart (x ∷ a) b is has = by (is_at x) refl (apart a b is.1 has)
    where
      of_last : (a : List Row) → AllByRecursion (λ later. is_duplicate_of later x ≡ false) (a ++ b) → AllByRecursion (λ later. is_duplicate_of later x ≡ false) b
      of_last [] all = all
      of_last (y ∷ a) all = of_last a all.1

      by : (r : Bool) → is_at x ≡ r → has_row_at table key a ≡ false → has_row_at table key (x ∷ a) ≡ false
      by true e later = let none = none_more x b e (of_last a is.0) in absurd cc
      by false e later = rw (e, later) refl

  in_both : (a b : List Row) → has_row_at table key (a ++ b) ≡ (has_row_at table key a || has_row_at table key b)
  in_both a b = list_any-append is_at a b

  -- found in the second
  pub second_told : (first second : Option (ℕ → List Row)) (position : ℕ) → AreHistoriesTogether first second → IfSome second (λ history. IsPositionOf history table key (Some position)) →
      IfSome (told_by_both first second) (λ history. IsPositionOf history table key (Some position))
  second_told None second position together found = tt
  second_told (Some a) None position together found = tt
  second_told (Some a) (Some b) position together found = (
    in_both (a position) (b position) ∙ not_one,
    in_both (a (position + 1)) (b (position + 1)) ∙ is_one,
  )
    where
      not_one : (has_row_at table key (a position) || has_row_at table key (b position)) ≡ false
      not_one = rw (apart (a position) (b (position + 1)) (together position (position + 1)).once found.1, found.0) refl

      either : (x y : Bool) → y ≡ true → (x || y) ≡ true
      either true y e = refl
      either false y e = e

      is_one : (has_row_at table key (a (position + 1)) || has_row_at table key (b (position + 1))) ≡ true
      is_one = either (has_row_at table key (a (position + 1))) (has_row_at table key (b (position + 1))) found.1

  -- not in the second, and so where the first has it
  pub first_told : (first second : Option (ℕ → List Row)) (found : Option ℕ) → IfSome second (λ history. IsPositionOf history table key None) → IfSome first (λ history. IsPositionOf history table key found) →
      IfSome (told_by_both first second) (λ history. IsPositionOf history table key found)
  first_told None second found none is = tt
  first_told (Some a) None found none is = tt
  first_told (Some a) (Some b) None none is = λ front. in_both (a front) (b front) ∙ (rw (is front, none front) refl)
  first_told (Some a) (Some b) (Some position) none is = (
    in_both (a position) (b position) ∙ (rw (is.0, none position) refl),
    in_both (a (position + 1)) (b (position + 1)) ∙ (rw (is.1) refl),
  )
