-- The rows of a page that are wanted, row after row.
use Rattle.std.proofs.Common.{◌≡◌, ℕ, ◌+◌, ◌<◌, ◌≤◌, true, false, List, [], ◌∷◌, ◌++◌, length, get_or, take, refl, sym, ap, ◌∙◌, append-nil, add-one, append_assoc, arith}
use Rattle.std.specs.Prelude.{filter}
use Rattle.std.specs.List.{AllByRecursion}
use Rattle.std.proofs.Math.Seq.{take-suc}
use Rattle.std.proofs.lemmas.List.{take_all}
use Rattle.std.proofs.lemmas.List.Elements.{filter-append}
use Rattle.arch_types.specs.declared.row.Row.{Row}
use Rattle.run_pages.specs.Placed.{Placed, placed_rows, row_placed, rows_of_placed}
use Rattle.run_pages.proofs.Beside.{placed_get, placed_rows_len}
use Rattle.run_pages.proofs.FoundPages.{rows_append}
use Rattle.sealed_rows.specs.Wanted.{is_wanted, rows_wanted}
use Rattle.sealed_rows.specs.declared.wanted.Wanted.{Wanted}

module _ (wanted : Wanted) where
  pub wanted_append : (a b : List Placed) → rows_wanted wanted (a ++ b) ≡ rows_wanted wanted a ++ rows_wanted wanted b
  wanted_append a b = ap rows_of_placed (filter-append (is_wanted wanted) a b) ∙ rows_append (filter (is_wanted wanted) a) (filter (is_wanted wanted) b)

  -- where none is wanted
  pub none_wanted : (placed : List Placed) → AllByRecursion (λ at. is_wanted wanted at ≡ false) placed → rows_wanted wanted placed ≡ []
  none_wanted [] none = refl
  none_wanted (at ∷ placed) none = rw none.0 (none_wanted placed none.1)

  one_more : (positions : List ℕ) (rows : List Row) (i : ℕ) (row : Row) → length positions ≡ length rows → i < length rows → row ≡ get_or rows i row →
      take (i + 1) (placed_rows positions rows) ≡ take i (placed_rows positions rows) ++ row_placed (get_or positions i 0) row ∷ []
  one_more positions rows i row beside lt is =
      let d = row_placed (get_or positions i 0) row in
      let here = placed_get positions rows i (get_or positions i 0) row d beside lt refl is in
      ap (λ (n : ℕ). take n (placed_rows positions rows)) (add-one i) ∙ take-suc (placed_rows positions rows) i d (omega (arith, lt, placed_rows_len positions rows beside))
      ∙ ap (λ (at : Placed). take i (placed_rows positions rows) ++ at ∷ []) here

  -- one row more
  pub row_more : (positions : List ℕ) (page before so_far all : List Row) (i : ℕ) (row : Row) → length positions ≡ length page → i < length page → row ≡ get_or page i row →
      so_far ≡ before ++ rows_wanted wanted (take i (placed_rows positions page)) → all ≡ so_far ++ rows_wanted wanted (row_placed (get_or positions i 0) row ∷ []) →
      all ≡ before ++ rows_wanted wanted (take (i + 1) (placed_rows positions page))
  row_more positions page before so_far all i row beside lt is got more =
      let one : List Placed = row_placed (get_or positions i 0) row ∷ [] in
      let first = take i (placed_rows positions page) in
      more ∙ ap (λ (l : List Row). l ++ rows_wanted wanted one) got ∙ append_assoc before (rows_wanted wanted first) (rows_wanted wanted one)
      ∙ ap (λ (l : List Row). before ++ l) (sym (wanted_append first one) ∙ ap (rows_wanted wanted) (sym (one_more positions page i row beside lt is)))

  -- a row that isn't wanted, and one that is
  pub none_added : (at : Placed) (rows : List Row) → is_wanted wanted at ≡ false → rows ≡ rows ++ rows_wanted wanted (at ∷ [])
  none_added at rows isnt = let none : rows_wanted wanted (at ∷ []) ≡ [] = rw isnt refl in sym (ap (λ (l : List Row). rows ++ l) none ∙ append-nil rows)

  pub one_added : (at : Placed) (rows all : List Row) → is_wanted wanted at ≡ true → all ≡ rows ++ at.row ∷ [] → all ≡ rows ++ rows_wanted wanted (at ∷ [])
  one_added at rows all passes is = let one : rows_wanted wanted (at ∷ []) ≡ at.row ∷ [] = rw passes refl in is ∙ ap (λ (l : List Row). rows ++ l) (sym one)

  -- all of them
  pub all_taken : (positions : List ℕ) (page before so_far : List Row) (i : ℕ) → length positions ≡ length page → length page ≤ i → so_far ≡ before ++ rows_wanted wanted (take i (placed_rows positions page)) →
      so_far ≡ before ++ rows_wanted wanted (placed_rows positions page)
  all_taken positions page before so_far i beside le got = got ∙ ap (λ (l : List Placed). before ++ rows_wanted wanted l) (take_all i (placed_rows positions page) (omega (arith, le, placed_rows_len positions page beside)))
