use Rattle.std.proofs.Common.{◌≡◌, ◌-◌, ◌+◌, ◌<◌, ℕ, [], ◌∷◌, ◌++◌, List, take, drop, sym, subst, arith}
use Rattle.arch_disk.proofs.Moments.{others_on}
use Rattle.run_pages.specs.Placed.{Placed, placed_rows}
use Rattle.run_pages.specs.Pages.{IsPage}
use Rattle.run_pages.specs.declared.index.PageEntry.{PageEntry}
use Rattle.run_pages.proofs.Beside.{placed_rows_len}
use Rattle.run_files.proofs.Written.{WrittenSoFar, all_pages, is_page, none_written, page_more, page_rows}
use Rattle.run_files.proofs.writing.write_pages.Goals as goal

pub pages-init : goal.pages-init
pages-init g c =
    let old = c.args.disk.now in
    let rows = placed_rows c.args.positions.now c.args.rows.now in (
      [],
      subst (λ (l : List PageEntry). WrittenSoFar g.D.Disk.device c.args.file old old rows [] l 0 0) (sym c.new-entries.ensures.items) (none_written g.D.Disk.device c.args.file old rows c.requires.end),
    )

pub write_page-requires-clause-page : goal.write_page-requires-clause-page
write_page-requires-clause-page g c =
    let positions = c.args.positions.now in
    let rows = c.args.rows.now in
    let lt = c.pages-test.true in
    subst IsPage (sym (page_rows positions rows c.pages.from c.min-to.result c.requires.beside (omega (arith, lt)) c.min-to.ensures))
    (is_page (placed_rows positions rows) c.pages.from (omega (arith, lt, placed_rows_len positions rows c.requires.beside)) c.requires.rows.1.each)

pub returns-in_err-entry-clause-others : goal.returns-in_err-entry-clause-others
returns-in_err-entry-clause-others g c = others_on g.D.Disk.device c.args.file c.args.disk.now c.pages.disk c.write_page.new.disk c.pages.invariant.1.others c.in_err-entry.ensures.others

pub returns-in_err-push-clause-others : goal.returns-in_err-push-clause-others
returns-in_err-push-clause-others g c = others_on g.D.Disk.device c.args.file c.args.disk.now c.pages.disk c.write_page.new.disk c.pages.invariant.1.others c.in_ok-entry.ensures.others

pub pages-preserved : goal.pages-preserved
pages-preserved g c =
    let device = g.D.Disk.device in
    let file = c.args.file in
    let start = c.args.disk.now in
    let after = c.write_page.new.disk in
    let positions = c.args.positions.now in
    let rows = c.args.rows.now in
    let all = placed_rows positions rows in
    let from = c.pages.from in
    let to = c.min-to.result in
    let page = placed_rows (take (to - from) (drop from positions)) (take (to - from) (drop from rows)) in
    let done = c.pages.invariant.0 in
    let pages : List (List Placed) = done ++ page ∷ [] in
    let entry : PageEntry = c.in_ok-entry.entry in
    let written = c.in_ok-entry.ensures in
    let lt = c.pages-test.true in
    let long = placed_rows_len positions rows c.requires.beside in
    let next_is = c.min-to.ensures in
    let page_is = page_rows positions rows from to c.requires.beside (omega (arith, lt)) next_is in
    let more = page_more device file start c.pages.disk all done c.pages.entries.items c.pages.end from c.pages.invariant.1 after page entry to page_is (omega (arith, lt, long)) (omega (arith, next_is, long))
    written.entry written.fits.0 written.fits.1 written.written written.others written.told written.no_failed_write in (
      pages,
      subst (λ (l : List PageEntry). WrittenSoFar device file start after all pages l (c.pages.end + c.from-end.result) to) (sym c.in_ok-push.ensures.items)
          (subst (λ (n : ℕ). WrittenSoFar device file start after all pages (c.pages.entries.items ++ entry ∷ []) (c.pages.end + n) to) (sym c.from-end.ensures) more),
    )

pub returns-clause-pages : goal.returns-clause-pages
returns-clause-pages g c =
    let positions = c.args.positions.now in
    let rows = c.args.rows.now in
    all_pages g.D.Disk.device c.args.file c.args.disk.now c.pages.disk (placed_rows positions rows) c.pages.invariant.0 c.pages.entries.items c.pages.end c.pages.from c.pages.invariant.1
    (omega (arith, c.pages-test.false, placed_rows_len positions rows c.requires.beside))
