use Rattle.std.proofs.Common.{◌≡◌, ◌*◌, List, take, drop, refl, sym, ap, ◌∙◌, subst, rules, arith}
use Rattle.std.specs.List.{AllByRecursion}
use Rattle.arch_disk.proofs.Moments.{looked_none, looked_on}
use Rattle.arch_types.specs.declared.row_fault.RowFault.TheVariants.{OutOfMemory}
use Rattle.run_pages.specs.Placed.{Placed}
use Rattle.run_pages.specs.Pages.{rows_of_page}
use Rattle.run_pages.specs.Runs.{page_of_rows}
use Rattle.run_files.specs.Run.{run_file}
use Rattle.run_files.proofs.RunPages.{held_on}
use Rattle.sealed_rows.specs.Calls.{IsOutside, IsReadFault}
use Rattle.sealed_rows.specs.Rows.{rows_in}
use Rattle.sealed_rows.proofs.Faults.{fault_since, passed_on}
use Rattle.sealed_rows.proofs.Gathering.{all_pages, before_first, page_more, page_wanted}
use Rattle.sealed_rows.proofs.Held.{holds_on, rows_in_held}
use Rattle.sealed_rows.proofs.reading.add_pages.Goals as goal

pub loop-page-init : goal.loop-page-init
loop-page-init g c =
    let device = g.D.Disk.device in
    let run = c.args.run.now in
    let disk = c.args.disk.now in
    let first = c.pages_with-span.result.first in
    record {
      looked = looked_none device disk;
      no_fault = refl;
      each = c.requires.each;
      rows = λ transparent.
          (let held = c.requires.held transparent in
          let content = device.reads disk (run_file run) in
          before_first c.args.wanted (rows_in content run) c.args.rows.items first
          (subst (λ (l : List Placed). AllByRecursion (IsOutside c.args.wanted.times) (take (64 * first) l)) (sym (rows_in_held device run held.0 disk held.1)) (c.pages_with-span.ensures.before content held.0 held.1.reads)));
    }

pub read_page-requires-clause-page : goal.read_page-requires-clause-page
read_page-requires-clause-page g c = omega (arith, c.loop-page-test.true, c.pages_with-span.ensures.within)

pub read_page-requires-clause-held : goal.read_page-requires-clause-held
read_page-requires-clause-held g c = λ transparent. held_on g.D.Disk.device c.args.run.now c.args.disk.now c.loop-page.disk c.loop-page.invariant.looked (c.requires.held transparent)

pub returns-in_err-held-clause-refused : goal.returns-in_err-held-clause-refused
returns-in_err-held-clause-refused g c =
    let refused = fault_since g.D.Disk.device c.args.disk.now c.loop-page.disk c.read_page.new.disk c.in_err-held.field-0.0 c.loop-page.invariant.looked c.loop-page.invariant.no_fault c.in_err-held.ensures.refused in
    search rules

pub returns-in_err-held-clause-looked : goal.returns-in_err-held-clause-looked
returns-in_err-held-clause-looked g c = looked_on g.D.Disk.device c.args.disk.now c.loop-page.disk c.read_page.new.disk c.loop-page.invariant.looked c.in_err-held.ensures.looked

-- there was no memory for the rows of a page that was read
pub returns-in_err-rows-clause-refused : goal.returns-in_err-rows-clause-refused
returns-in_err-rows-clause-refused g c =
    passed_on c.from_residual-in_err-rows.result OutOfMemory (IsReadFault g.D.Disk.device c.args.disk.now c.read_page.new.disk) c.from_residual-in_err-rows.ensures.1 (c.in_ok-held.ensures.told ∙ c.loop-page.invariant.no_fault)

pub returns-in_err-rows-clause-looked : goal.returns-in_err-rows-clause-looked
returns-in_err-rows-clause-looked g c = looked_on g.D.Disk.device c.args.disk.now c.loop-page.disk c.read_page.new.disk c.loop-page.invariant.looked c.in_ok-held.ensures.looked

pub loop-page-preserved : goal.loop-page-preserved
loop-page-preserved g c =
    let device = g.D.Disk.device in
    let run = c.args.run.now in
    let disk = c.args.disk.now in
    let so_far = c.loop-page.invariant in
    let page = c.loop-page.page in
    let held = c.in_ok-held.held in
    let more = c.in_ok-rows.ensures in
    record {
      looked = looked_on device disk c.loop-page.disk c.read_page.new.disk so_far.looked c.in_ok-held.ensures.looked;
      no_fault = c.in_ok-held.ensures.told ∙ so_far.no_fault;
      each = page_wanted c.args.wanted run c.requires.table page held c.loop-page.rows.items c.in_ok-rows.rows.items c.in_ok-held.ensures.rising so_far.each more;
      rows = λ transparent.
          (let is = c.requires.held transparent in
          let now = holds_on device run is.0 disk c.loop-page.disk so_far.looked is.1 in
          let content = device.reads disk (run_file run) in
          let page_is : rows_of_page held ≡ page_of_rows page (rows_in content run) = c.in_ok-held.ensures.rows transparent is.0 now ∙ ap (page_of_rows page) (sym (rows_in_held device run is.0 disk is.1)) in
          page_more c.args.wanted (rows_in content run) c.args.rows.items c.loop-page.rows.items c.in_ok-rows.rows.items page (rows_of_page held) (so_far.rows transparent) page_is more);
    }

pub returns-clause-rows : goal.returns-clause-rows
returns-clause-rows g c = λ transparent.
    let device = g.D.Disk.device in
    let run = c.args.run.now in
    let disk = c.args.disk.now in
    let held = c.requires.held transparent in
    let content = device.reads disk (run_file run) in
    let end = c.pages_with-span.result.end in
    all_pages c.args.wanted (rows_in content run) c.args.rows.items c.loop-page.rows.items end c.loop-page.page (c.loop-page.invariant.rows transparent) c.loop-page-test.false
    (subst (λ (l : List Placed). AllByRecursion (IsOutside c.args.wanted.times) (drop (64 * end) l)) (sym (rows_in_held device run held.0 disk held.1)) (c.pages_with-span.ensures.behind content held.0 held.1.reads))
