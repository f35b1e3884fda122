-- The octets of a file are a run of one list of rows at most.
use Rattle.std.proofs.Common.{◌≡◌, ℕ, zero, suc, pos, ◌*◌, ◌<◌, ◌≤◌, true, None, List, ◌++◌, length, get_or, take, drop, Some, sym, ap, ◌∙◌, subst, arith}
use Rattle.std.specs.Prelude.{slice_get}
use Rattle.std.proofs.lemmas.List.{length-drop, take-append-drop, nil_from_length}
use Rattle.std.proofs.lemmas.Option.{slice_get-get_or}
use Rattle.run_pages.specs.Placed.{Placed, rows_of_placed}
use Rattle.run_pages.specs.Order.{are_ordered}
use Rattle.run_pages.specs.Runs.{IsRunFile, entries_from, first_row_key, footer_of_pages, page_of_rows}
use Rattle.run_pages.specs.declared.index.PageEntry.{PageEntry}
use Rattle.run_pages.specs.declared.footer.Footer.{Footer}
use Rattle.run_pages.proofs.PageSpelling.{page_exact}
use Rattle.run_pages.proofs.Ends.{index_once, once}
use Rattle.run_pages.proofs.FoundPages.{found_page, length-entries, shift}
use Rattle.run_pages.proofs.OrderedRows.{one_table}
use Rattle.run_pages.proofs.RunIndex.{page_number, run_has_index}

-- lists that are the same page by page
same_pages : (n : ℕ) (a b : List Placed) → length a ≡ length b → length a ≤ 64 * n → ((i : ℕ) → i < n → page_of_rows i a ≡ page_of_rows i b) → a ≡ b
same_pages zero a b long few same = nil_from_length a (omega (arith, few)) ∙ sym (nil_from_length b (omega (arith, few, long)))
same_pages (suc n) a b long few same =
    let rest : drop 64 a ≡ drop 64 b = same_pages n (drop 64 a) (drop 64 b) (omega (arith, long, length-drop 64 a, length-drop 64 b)) (omega (arith, few, length-drop 64 a))
    (λ i lt. shift i a ∙ same (suc i) (omega (arith, lt)) ∙ sym (shift i b)) in
    sym (take-append-drop 64 a) ∙ ap (λ (l : List Placed). l ++ drop 64 a) (same 0 (omega arith)) ∙ ap (λ (l : List Placed). take 64 b ++ l) rest ∙ take-append-drop 64 b

pub run_once : (content : List ℕ) (table other : ℕ) (rows more : List Placed) → IsRunFile content table rows → IsRunFile content other more → (rows ≡ more) × (table ≡ other)
run_once content table other rows more a b =
    let f = footer_of_pages a.pages (length rows) in
    let g = footer_of_pages b.pages (length more) in
    let same = index_once content (entries_from 0 a.pages) (entries_from 0 b.pages) f g (run_has_index content table rows a) (run_has_index content other more b) in
    let long : length rows ≡ length more = ap (λ (h : Footer). h.rows) same.0 in
    let rows_are : rows ≡ more = same_pages (length a.pages) rows more long (page_number a.pages rows a.pages_are).0 (λ i lt.
    let d : PageEntry = record { first = record { time = pos 0; seq = 0 }; at = 0; len = 0 } in
    let here = get_or (entries_from 0 a.pages) i d in
    let there : slice_get (entries_from 0 a.pages) i ≡ Some here = slice_get-get_or (entries_from 0 a.pages) i d (omega (arith, lt, length-entries 0 a.pages)) in
    let p = (found_page content table rows a i here there).is in
    let q = (found_page content other more b i here (sym (ap (λ (l : List PageEntry). slice_get l i) same.1) ∙ there)).is in
    once page_exact (page_of_rows i rows) (page_of_rows i more) p.page q.page (sym p.spelled ∙ q.spelled)) in
    (rows_are, one_table table other (first_row_key more) (first_row_key more) None None (rows_of_placed more) (subst (λ (l : List Placed). are_ordered table (first_row_key l) None None (rows_of_placed l) ≡ true) rows_are a.run_rows.ordered) b.run_rows.ordered)
