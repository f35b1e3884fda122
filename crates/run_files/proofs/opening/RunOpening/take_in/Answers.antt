use Rattle.std.proofs.Common.{◌≡◌, ◌-◌, pos, suc, true, None, List, length, get_or, refl, sym, ap, ◌∙◌, subst, arith}
use Rattle.std.specs.Prelude.{slice_get}
use Rattle.std.proofs.lemmas.Bool.Decides.{nat_tests}
use Rattle.arch_types.specs.declared.key.Key.{Key}
use Rattle.arch_types.specs.declared.row.Row.{Row}
use Rattle.run_pages.specs.Order.{are_ordered}
use Rattle.run_pages.specs.Damage.{first_of_entry}
use Rattle.run_pages.proofs.Beside.{placed_rows_len}
use Rattle.run_files.proofs.Openings.{last_row, order_told, taken, wrong, wrong_count}
use Rattle.run_files.proofs.opening.RunOpening.take_in.Goals as goal

pub returns-then-is_empty-clause-no : goal.returns-then-is_empty-clause-no
returns-then-is_empty-clause-no c = λ no_one content pages r fits spelled.
    let page = c.args.page.now in
    let long = placed_rows_len page.positions page.rows page.beside in
    let mine = ap (λ (l : List Row). length l) c.as_slice-rows.ensures in
    absurd (grind (arith, nat_tests, fits.some, long, mine, c.is_empty.ensures, c.if-is_empty.true))

pub returns-then-rows-next_count-clause-no : goal.returns-then-rows-next_count-clause-no
returns-then-rows-next_count-clause-no c = λ no_one content pages r fits spelled.
    wrong_count content c.args.self.now pages r c.args.entry c.requires.there c.args.page.now fits spelled
    (λ same. omega (arith, same, ap (λ (l : List Row). length l) c.as_slice-rows.ensures, c.next_count.ensures, c.if-rows-next_count.true))

pub returns-then-not-are_ordered-clause-no : goal.returns-then-not-are_ordered-clause-no
returns-then-not-are_ordered-clause-no c = λ no_one content pages r fits spelled.
    let self = c.args.self.now in
    let entry = c.args.entry in
    let table = c.next_table-table.result in
    let told = order_told self.index.entries.items c.deref.result.now self.read table entry.first c.page_first_key-next.result c.args.page.now.rows c.as_slice-rows.result.now c.are_ordered.result
    c.deref.ensures.value c.page_first_key-next.ensures c.as_slice-rows.ensures c.are_ordered.ensures in
    let next = first_of_entry (slice_get self.index.entries.items (suc self.read)) in
    wrong content self pages r entry c.requires.there c.args.page.now fits spelled table
    (λ some. sym (c.next_table-table.ensures.later (omega (arith, some))))
    (λ none u e. c.next_table-table.ensures.first none u entry.first next (subst (λ (l : List Row). are_ordered u entry.first next None l ≡ true) (sym c.as_slice-rows.ensures) e))
    (λ same e. cc (told, e, c.if-not-are_ordered.true))

pub returns-clause-yes : goal.returns-clause-yes
returns-clause-yes c = λ yes_one content pages r fits spelled.
    let self = c.args.self.now in
    let entry = c.args.entry in
    let page = c.args.page.now in
    let table = c.next_table-table.result in
    let mine = c.as_slice-rows.result.now in
    let row = c.index-rows-rows.result in
    let told = order_told self.index.entries.items c.deref.result.now self.read table entry.first c.page_first_key-next.result page.rows mine c.are_ordered.result
    c.deref.ensures.value c.page_first_key-next.ensures c.as_slice-rows.ensures c.are_ordered.ensures in
    let long : length mine ≡ length page.rows = ap (λ (l : List Row). length l) c.as_slice-rows.ensures in
    let some = placed_rows_len page.positions page.rows page.beside in
    let zero_key : Key = record { time = pos 0; seq = 0 } in
    let last = last_row page.positions page.rows (length mine - 1) row zero_key page.beside (omega (arith, long, some, fits.some)) (c.index-rows-rows.is ∙ ap (λ (l : List Row). get_or l (length mine - 1) row) c.as_slice-rows.ensures) in
    taken content self pages r entry c.requires.there page fits spelled table _
    (omega (arith, long, c.next_count.ensures, c.if-rows-next_count.false)) (sym told ∙ c.if-not-are_ordered.false)
    (λ some_read. sym (c.next_table-table.ensures.later (omega (arith, some_read))))
    refl refl refl (ap (λ (x : Row). x.key) (sym c.index-rows-rows.is) ∙ sym last)
