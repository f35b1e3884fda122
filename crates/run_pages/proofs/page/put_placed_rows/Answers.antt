use Rattle.std.proofs.Common.{ℕ, ◌<◌, ◌≤◌, List, ◌++◌, length, get_or, take, refl, sym, ap, ◌∙◌, subst, append_assoc, arith}
use Rattle.std.specs.List.{flat_map}
use Rattle.std.proofs.lemmas.List.{take_all}
use Rattle.run_pages.specs.Placed.{Placed, row_placed, placed_rows}
use Rattle.run_pages.specs.Pages.{FitsPage, placed_octets}
use Rattle.run_pages.proofs.Beside.{all_at, flat_more, placed_rows_len, placed_get}
use Rattle.run_pages.proofs.page.put_placed_rows.Goals as goal

pub put_placed-requires : goal.put_placed-requires
put_placed-requires c =
    let positions = c.args.positions.now in
    let rows = c.args.rows.now in
    let i = c.loop-i.i in
    let row = c.index-rows-i.result in
    let all = placed_rows positions rows in
    let here : Placed = row_placed (get_or positions i 0) row in
    let lt : i < length all = omega (arith, c.loop-i-test.true, placed_rows_len positions rows c.requires.beside) in
    subst FitsPage (placed_get positions rows i (get_or positions i 0) row here c.requires.beside c.loop-i-test.true refl c.index-rows-i.is) (all_at FitsPage all i here c.requires.each lt)

pub loop-i-preserved : goal.loop-i-preserved
loop-i-preserved c =
    let positions = c.args.positions.now in
    let rows = c.args.rows.now in
    let i = c.loop-i.i in
    let row = c.index-rows-i.result in
    let all = placed_rows positions rows in
    let here : Placed = row_placed (get_or positions i 0) row in
    let lt : i < length all = omega (arith, c.loop-i-test.true, placed_rows_len positions rows c.requires.beside) in
    let is = placed_get positions rows i (get_or positions i 0) row here c.requires.beside c.loop-i-test.true refl c.index-rows-i.is in
    c.in_ok-put_placed.ensures ∙ ap (λ (l : List ℕ). l ++ placed_octets here) c.loop-i.invariant ∙ append_assoc c.args.out.now.items (flat_map placed_octets (take i all)) (placed_octets here)
    ∙ ap (λ (l : List ℕ). c.args.out.now.items ++ l) (sym (flat_more placed_octets all i here here lt is))

pub returns : goal.returns
returns c =
    let all = placed_rows c.args.positions.now c.args.rows.now in
    let le : length all ≤ c.loop-i.i = omega (arith, c.loop-i-test.false, placed_rows_len c.args.positions.now c.args.rows.now c.requires.beside) in
    c.loop-i.invariant ∙ ap (λ (l : List Placed). c.args.out.now.items ++ flat_map placed_octets l) (take_all c.loop-i.i all le)
