-- The rows with a position below a front.
use Rattle.std.proofs.Common.{◌≡◌, ◌⊎◌, inl, inr, ℕ, ◌+◌, ◌<◌, Bool, true, List, [], ◌∷◌, ◌++◌, sym, ap, ◌∙◌, subst, arith}
use Rattle.std.specs.Prelude.{◌||◌, ◌==◌, filter, fold, nat_lt}
use Rattle.std.specs.Cmp.{IsStrictWeakOrder, nat_cmp_total}
use Rattle.std.specs.List.{Contains, flat_map}
use Rattle.std.proofs.lemmas.Bool.Decides.{nat_tests}
use Rattle.std.proofs.lemmas.List.Elements.{Contains-append_cases, Contains-append_left, Contains-append_right, filter_agree}
use Rattle.std.proofs.lemmas.List.Sorted.{Contains-permutation, IsPermutation-sym, ranks_by}
use Rattle.arch_types.specs.declared.row.Row.{Row}
use Rattle.arch_types.specs.Order.{order_by, place_by}
use Rattle.arch_types.proofs.InOrder.{order_same}
use Rattle.arch_types.proofs.Ordered.{IsAscending, ascending-place, filter-order}
use Rattle.partitions.proofs.Members.{filter_has}
use Rattle.replay_merge.proofs.Splits.{split}
use Rattle.run_pages.specs.Placed.{Placed, rows_of_placed}
use Rattle.run_pages.proofs.FoundPages.{rows_append}
use Rattle.joined_rows.proofs.SameRows.{has_cases, has_first, has_later, has_none}
use Rattle.sealed_rows.specs.Rows.{is_earlier, rows_below}

-- ---- what lists contain

-- the row of one of them is one of the rows
pub row_has : (placed : List Placed) (at : Placed) → Contains placed at → Contains (rows_of_placed placed) at.row
row_has [] at has = absurd (has_none at has)
row_has (x ∷ placed) at has = by (has_cases x placed at has) (row_has placed at)
  where
    by : (x ≡ at) ⊎ Contains placed at → (Contains placed at → Contains (rows_of_placed placed) at.row) → Contains (rows_of_placed (x ∷ placed)) at.row
    by (inl is) later = subst (λ (p : Placed). Contains (rows_of_placed (x ∷ placed)) p.row) is (has_first x.row (rows_of_placed placed))
    by (inr in_rest) later = has_later x.row (rows_of_placed placed) at.row (later in_rest)

-- and each row is that of one
pub row_from : (placed : List Placed) (row : Row) → Contains (rows_of_placed placed) row → (at : Placed) × Contains placed at × (at.row ≡ row)
row_from [] row has = absurd (has_none row has)
row_from (x ∷ placed) row has = by (has_cases x.row (rows_of_placed placed) row has) (row_from placed row)
  where
    by : (x.row ≡ row) ⊎ Contains (rows_of_placed placed) row → (Contains (rows_of_placed placed) row → (at : Placed) × Contains placed at × (at.row ≡ row)) → (at : Placed) × Contains (x ∷ placed) at × (at.row ≡ row)
    by (inl is) later = (x, has_first x placed, is)
    by (inr in_rest) later = let found = later in_rest in (found.0, has_later x placed found.0 found.1, found.2)

module _ {X Y : Type 0} (f : X → List Y) where
  pub flat_has : (xs : List X) (x : X) (y : Y) → Contains xs x → Contains (f x) y → Contains (flat_map f xs) y
  flat_has [] x y has of = absurd (has_none x has)
  flat_has (z ∷ xs) x y has of = by (has_cases z xs x has) (λ in_rest. flat_has xs x y in_rest of)
    where
      by : (z ≡ x) ⊎ Contains xs x → (Contains xs x → Contains (flat_map f xs) y) → Contains (flat_map f (z ∷ xs)) y
      by (inl is) later = Contains-append_left (f z) (flat_map f xs) y (subst (λ (w : X). Contains (f w) y) (sym is) of)
      by (inr in_rest) later = Contains-append_right (f z) (flat_map f xs) y (later in_rest)

  pub flat_from : (xs : List X) (y : Y) → Contains (flat_map f xs) y → (x : X) × Contains xs x × Contains (f x) y
  flat_from [] y has = absurd (has_none y has)
  flat_from (z ∷ xs) y has = by (Contains-append_cases (f z) (flat_map f xs) y has) (flat_from xs y)
    where
      by : Contains (f z) y ⊎ Contains (flat_map f xs) y → (Contains (flat_map f xs) y → (x : X) × Contains xs x × Contains (f x) y) → (x : X) × Contains (z ∷ xs) x × Contains (f x) y
      by (inl first) later = (z, has_first z xs, first)
      by (inr in_rest) later = let found = later in_rest in (found.0, has_later z xs found.0 found.1, found.2)

-- ---- below a front

is_true_lt : (a b : ℕ) → nat_lt a b ≡ true → a < b
is_true_lt a b e = grind (arith, nat_tests, e)

lt_is_true : (a b : ℕ) → a < b → nat_lt a b ≡ true
lt_is_true a b lt = grind (arith, nat_tests, lt)

abbrev below_front : ℕ → Placed → Bool
below_front front at = nat_lt at.position front

module _ (placed : List Placed) (front : ℕ) where
  pub below_has : (at : Placed) → Contains placed at → at.position < front → Contains (rows_below placed front) at.row
  below_has at has lt =
      let kept = filter (below_front front) placed in
      row_has (order_by is_earlier kept) at (Contains-permutation kept (order_by is_earlier kept) at (order_same is_earlier kept) ((filter_has (below_front front) placed at).1 (has, lt_is_true at.position front lt)))

  pub below_from : (row : Row) → Contains (rows_below placed front) row → (at : Placed) × Contains placed at × (at.position < front) × (at.row ≡ row)
  below_from row has =
      let kept = filter (below_front front) placed in
      let found = row_from (order_by is_earlier kept) row has in
      let passed = (filter_has (below_front front) placed found.0).0 (Contains-permutation (order_by is_earlier kept) kept found.0 (IsPermutation-sym kept (order_by is_earlier kept) (order_same is_earlier kept)) found.1) in
      (found.0, passed.0, is_true_lt found.0.position front passed.1, found.2)

-- ---- one position more

earlier_ranks : IsStrictWeakOrder is_earlier
earlier_ranks = ranks_by nat_cmp_total (λ (at : Placed). at.position)

ascending_fold : (acc xs : List Placed) → IsAscending is_earlier acc → IsAscending is_earlier (fold (place_by is_earlier) acc xs)
ascending_fold acc [] up = up
ascending_fold acc (x ∷ xs) up = ascending_fold (place_by is_earlier acc x) xs (ascending-place earlier_ranks acc x up)

abbrev at_position : ℕ → Placed → Bool
at_position position at = at.position == position

earlier_than : (position : ℕ) (x y : Placed) → below_front position x ≡ true → at_position position y ≡ true → is_earlier x y ≡ true
earlier_than position x y below here = grind (arith, nat_tests, below, here)

one_more : (position : ℕ) (at : Placed) → below_front (position + 1) at ≡ (below_front position at || at_position position at)
one_more position at = grind (arith, nat_tests)

-- the rows with a position below the next front are those below this one, and behind them those at it
module _ (placed : List Placed) (position : ℕ) where
  abbrev pub rows_at : List Row
  rows_at = rows_of_placed (order_by is_earlier (filter (at_position position) placed))

  pub next_front : rows_below placed (position + 1) ≡ rows_below placed position ++ rows_at
  next_front =
      let all = order_by is_earlier placed in
      let either = λ (at : Placed). below_front position at || at_position position at in
      let parts : order_by is_earlier (filter (below_front (position + 1)) placed) ≡ order_by is_earlier (filter (below_front position) placed) ++ order_by is_earlier (filter (at_position position) placed) =
      ap (order_by is_earlier) (filter_agree (below_front (position + 1)) either (one_more position) placed)
      ∙ sym (filter-order earlier_ranks either placed)
      ∙ split earlier_ranks (below_front position) (at_position position) (earlier_than position) all (ascending_fold [] placed tt)
      ∙ ap (λ (l : List Placed). l ++ filter (at_position position) all) (filter-order earlier_ranks (below_front position) placed)
      ∙ ap (λ (l : List Placed). order_by is_earlier (filter (below_front position) placed) ++ l) (filter-order earlier_ranks (at_position position) placed) in
      ap rows_of_placed parts ∙ rows_append (order_by is_earlier (filter (below_front position) placed)) (order_by is_earlier (filter (at_position position) placed))

  pub at_has : (at : Placed) → Contains placed at → at.position ≡ position → Contains rows_at at.row
  at_has at has is =
      let kept = filter (at_position position) placed in
      let here : at_position position at ≡ true = grind (arith, nat_tests, is) in
      row_has (order_by is_earlier kept) at (Contains-permutation kept (order_by is_earlier kept) at (order_same is_earlier kept) ((filter_has (at_position position) placed at).1 (has, here)))
