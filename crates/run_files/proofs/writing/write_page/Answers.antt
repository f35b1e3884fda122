use Rattle.std.proofs.Common.{◌≡◌, ℕ, ◌<◌, length, get_or, sym, ap, ◌∙◌, arith}
use Rattle.arch_types.specs.declared.key.Key.{Key}
use Rattle.arch_types.specs.declared.row.Row.{Row}
use Rattle.run_pages.specs.Placed.{placed_rows}
use Rattle.run_pages.specs.Runs.{first_row_key}
use Rattle.run_pages.specs.declared.index.PageEntry.{PageEntry}
use Rattle.run_pages.proofs.Beside.{placed_rows_len}
use Rattle.run_files.proofs.Written.{first_placed, stored_each}
use Rattle.run_files.proofs.writing.write_page.Goals as goal

pub page_len-len-requires-clause-few : goal.page_len-len-requires-clause-few
page_len-len-requires-clause-few g c = omega (arith, c.requires.page.few, placed_rows_len c.args.positions.now c.args.rows.now c.requires.beside)

pub page_len-len-requires-clause-each : goal.page_len-len-requires-clause-each
page_len-len-requires-clause-each g c = stored_each c.args.positions.now c.args.rows.now c.requires.beside c.requires.page.each

pub returns-clause-entry : goal.returns-clause-entry
returns-clause-entry g c =
    let positions = c.args.positions.now in
    let rows = c.args.rows.now in
    let row = c.index-rows-0.result in
    let some : 0 < length rows = omega (arith, c.requires.page.some, placed_rows_len positions rows c.requires.beside) in
    let key_is : (get_or rows 0 row).key ≡ first_row_key (placed_rows positions rows) = ap (λ (x : Row). x.key) (sym c.index-rows-0.is) ∙ first_placed positions rows row c.requires.beside some c.index-rows-0.is in
    let by_first : (k : Key) → PageEntry = λ k. record { first = k; at = c.args.end; len = c.page_len-len.result } in
    let by_len : (n : ℕ) → PageEntry = λ n. record { first = first_row_key (placed_rows positions rows); at = c.args.end; len = n } in
    c.page_entry.ensures.entry ∙ ap by_first key_is ∙ ap by_len (c.page_len-len.ensures.value positions c.requires.beside)

pub returns-clause-fits : goal.returns-clause-fits
returns-clause-fits g c = (c.page_entry.ensures.fits, omega (arith, ap (λ (e : PageEntry). e.len) c.page_entry.ensures.entry, c.page_len-len.ensures.bound))
