use Rattle.std.proofs.Common.{◌≡◌, ℕ, zero, suc, ◌<◌, List, [], ◌∷◌, ◌++◌, length, get_or, sym, ap, ◌∙◌, subst, arith}
use Rattle.std.specs.List.{AllByRecursion}
use Rattle.arch_types.specs.declared.row.Row.{Row}
use Rattle.run_pages.specs.Placed.{Placed, placed_rows, row_placed}
use Rattle.run_pages.specs.Pages.{FitsPage}
use Rattle.run_pages.proofs.Beside.{placed_rows-push}
use Rattle.sealed_tests.proofs.sealed_rows_tests.add_row.Goals as goal

-- one row more
each_push : (rows : List Placed) (at : Placed) → AllByRecursion FitsPage rows → FitsPage at → AllByRecursion FitsPage (rows ++ at ∷ [])
each_push [] at each fits = (fits, tt)
each_push (row ∷ rows) at each fits = (each.0, each_push rows at each.1 fits)

-- the row at a place of a page, at its position
row_fits : (positions : List ℕ) (rows : List Row) (place : ℕ) (row : Row) → length positions ≡ length rows → place < length rows → AllByRecursion FitsPage (placed_rows positions rows) → row ≡ get_or rows place row
    → FitsPage (row_placed (get_or positions place 0) row)
row_fits [] [] place row beside there each is = absurd (omega (arith, there))
row_fits [] (r ∷ rows) place row beside there each is = absurd (omega (arith, beside))
row_fits (p ∷ positions) [] place row beside there each is = absurd (omega (arith, beside))
row_fits (p ∷ positions) (r ∷ rows) zero row beside there each is = subst (λ (x : Row). FitsPage (row_placed p x)) (sym is) each.0
row_fits (p ∷ positions) (r ∷ rows) (suc place) row beside there each is = row_fits positions rows place row (omega (arith, beside)) (omega (arith, there)) each.1 is

pub returns-clause-each : goal.returns-clause-each
returns-clause-each c =
    let page = c.args.page.now in
    let positions = c.args.positions.now in
    let rows = c.args.rows.now in
    let row = c.index-as_slice-place.result in
    let place = c.args.place in
    let position = get_or page.positions place 0 in
    let row_is : row ≡ get_or page.rows place row = c.index-as_slice-place.is ∙ ap (λ (l : List Row). get_or l place row) c.as_slice.ensures in
    let fits : FitsPage (row_placed position row) = row_fits page.positions page.rows place row page.beside c.requires.place c.requires.page row_is in
    let rows_are : c.push.new.self.items ≡ rows.items ++ row ∷ [] = c.in_ok-push.ensures.items ∙ ap (λ (r : Row). rows.items ++ r ∷ []) c.in_ok-copy.ensures in
    let positions_are : c.push-2.new.self.items ≡ positions.items ++ position ∷ [] = c.in_ok-push-2.ensures.items ∙ ap (λ (l : List ℕ). positions.items ++ get_or l place 0 ∷ []) c.as_slice-2.ensures in
    let all : AllByRecursion FitsPage (placed_rows (positions.items ++ position ∷ []) (rows.items ++ row ∷ [])) =
    subst (AllByRecursion FitsPage) (sym (placed_rows-push positions.items rows.items position row c.requires.beside))
    (each_push (placed_rows positions.items rows.items) (row_placed position row) c.requires.each fits) in
    subst (λ (l : List ℕ). AllByRecursion FitsPage (placed_rows l c.push.new.self.items)) (sym positions_are)
    (subst (λ (l : List Row). AllByRecursion FitsPage (placed_rows (positions.items ++ position ∷ []) l)) (sym rows_are) all)
