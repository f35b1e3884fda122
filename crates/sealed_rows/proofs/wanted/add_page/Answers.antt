use Rattle.std.proofs.Common.{◌≡◌, ◌++◌, ◌∷◌, [], ℕ, ◌<◌, ◌≤◌, length, List, get_or, ap, ◌∙◌, subst}
use Rattle.arch_types.specs.declared.row.Row.{Row}
use Rattle.run_pages.specs.Placed.{row_placed}
use Rattle.sealed_rows.specs.Wanted.{rows_wanted}
use Rattle.sealed_rows.proofs.WantedRows.{all_taken, row_more}
use Rattle.sealed_rows.proofs.wanted.add_page.Goals as goal

pub loop-i-preserved : goal.loop-i-preserved
loop-i-preserved c =
    let page = c.args.page.now in
    let i = c.loop-i.i in
    let row = c.index-page_rows-i.result in
    let same : row ≡ get_or page.rows i row = c.index-page_rows-i.is ∙ ap (λ (l : List Row). get_or l i row) c.as_slice-page_rows.ensures in
    let lt = subst (λ (l : List Row). i < length l) c.as_slice-page_rows.ensures c.loop-i-test.true in
    let more = c.in_ok-rows.ensures ∙ ap (λ (l : List ℕ). c.loop-i.rows.items ++ rows_wanted c.args.wanted (row_placed (get_or l i 0) row ∷ [])) c.as_slice-positions.ensures in
    row_more c.args.wanted page.positions page.rows c.args.rows.items c.loop-i.rows.items c.in_ok-rows.rows.items i row page.beside lt same c.loop-i.invariant more

pub returns : goal.returns
returns c =
    let page = c.args.page.now in
    let le = subst (λ (l : List Row). length l ≤ c.loop-i.i) c.as_slice-page_rows.ensures c.loop-i-test.false in
    all_taken c.args.wanted page.positions page.rows c.args.rows.items c.loop-i.rows.items c.loop-i.i page.beside le c.loop-i.invariant
