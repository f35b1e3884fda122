use Rattle.std.proofs.Common.{◌≡◌, List, [], ◌∷◌, ◌++◌, append-nil, sym, ◌∙◌, ap, subst}
use Rattle.std.specs.declared.snapshot.Snapshot.{Snapshot}
use Rattle.arch_types.specs.declared.row.Row.{Row}
use Rattle.run_pages.specs.Pages.{rows_of_page}
use Rattle.run_pages.specs.Placed.{rows_of_placed}
use Rattle.run_pages.specs.declared.page_rows.PageRows.{PageRows}
use Rattle.run_pages.proofs.Beside.{rows_back}
use Rattle.sealed_history.specs.SealedHistory.{rows_told}
use Rattle.sealed_sums.specs.Sums.{AreSumsOf}
use Rattle.history_tests.proofs.sealed_history_tests.over.Goals as goal

-- the rows of one page that was told
told_once : (told : List (Snapshot PageRows)) (noted : Snapshot PageRows) (page : PageRows) → told ≡ noted ∷ [] → noted.value ≡ page → rows_of_placed (rows_told told) ≡ page.rows
told_once told noted page is same =
    ap (λ (l : List (Snapshot PageRows)). rows_of_placed (rows_told l)) is
    ∙ ap rows_of_placed (append-nil (rows_of_page noted.value))
    ∙ ap (λ (p : PageRows). rows_of_placed (rows_of_page p)) same
    ∙ rows_back page.positions page.rows page.beside

pub over-requires : goal.over-requires
over-requires c =
    let items = c.in_ok-push.ensures.items ∙ ap (λ (l : List (Snapshot PageRows)). l ++ c.of.result ∷ []) c.new-told.ensures.items in
    let rows = told_once c.push.new.self.items c.of.result c.args.page.now items c.of.ensures in
    subst (λ (l : List Row). AreSumsOf l c.add_rows.new.self) (c.as_slice.ensures ∙ sym rows) (c.in_ok-add_rows.ensures.sums [] c.in_ok-sums.ensures.none)
