use Rattle.std.proofs.Common.{◌≡◌, take, drop, refl, sym, ◌∙◌, subst}
use Rattle.std.specs.Prelude.{IfSome, Option}
use Rattle.run_pages.specs.Pages.{IsPage, page_octets, rows_of_page}
use Rattle.run_pages.specs.declared.page_rows.PageRows.{PageRows}
use Rattle.run_files.proofs.Openings.{order_told}
use Rattle.run_files.proofs.RunPages.{found, in_order, same_rows, spelled, there_is}
use Rattle.run_files.proofs.run.Run.rows_of.Goals as goal

pub page_on_disk-requires : goal.page_on_disk-requires
page_on_disk-requires g c transparent =
    let run = c.args.self.now in
    let entry = c.index-entry.result.now in
    let held = c.requires.held transparent in
    let there = there_is run.index.entries.items c.args.page entry c.requires.page c.index-entry.ensures in
    (found (g.D.Disk.device.reads c.args.disk.now run.file) run held.0 held.1.reads c.args.page entry there).inside

pub returns-in_default-clause-refused : goal.returns-in_default-clause-refused
returns-in_default-clause-refused g c =
    let run = c.args.self.now in
    let entry = c.index-entry.result.now in
    let there = there_is run.index.entries.items c.args.page entry c.requires.page c.index-entry.ensures in (
      λ transparent. let held = c.requires.held transparent in
          spelled (g.D.Disk.device.reads c.args.disk.now run.file) run held.0 held.1.reads c.args.page entry there (c.in_ok-held.ensures.none transparent c.in_default.is),
      refl,
      c.in_ok-held.ensures.told,
    )

pub returns-then-not-are_ordered-clause-refused : goal.returns-then-not-are_ordered-clause-refused
returns-then-not-are_ordered-clause-refused g c =
    let run = c.args.self.now in
    let entry = c.index-entry.result.now in
    let held = c.in-Some.held in
    let content = g.D.Disk.device.reads c.args.disk.now run.file in
    let there = there_is run.index.entries.items c.args.page entry c.requires.page c.index-entry.ensures in
    let told = order_told run.index.entries.items c.deref.result.now c.args.page run.table entry.first c.page_first_key-next.result held.rows c.as_slice.result.now c.are_ordered.result
    c.deref.ensures.value c.page_first_key-next.ensures c.as_slice.ensures c.are_ordered.ensures in (
      (λ transparent. let is = c.requires.held transparent in
          let page = subst (λ (o : Option PageRows). IfSome o (λ p. IsPage (rows_of_page p) × (take entry.len (drop entry.at content) ≡ page_octets (rows_of_page p)))) c.in-Some.is (c.in_ok-held.ensures.some transparent) in
          cc (told, in_order content run is.0 is.1.reads c.args.page entry there held page.0 page.1, c.if-not-are_ordered.true)),
      refl,
      c.in_ok-held.ensures.told,
    )

pub returns-clause-rows : goal.returns-clause-rows
returns-clause-rows g c = λ transparent rows is.
    let run = c.args.self.now in
    let entry = c.index-entry.result.now in
    let content = g.D.Disk.device.reads c.args.disk.now run.file in
    let there = there_is run.index.entries.items c.args.page entry c.requires.page c.index-entry.ensures in
    let page = subst (λ (o : Option PageRows). IfSome o (λ p. IsPage (rows_of_page p) × (take entry.len (drop entry.at content) ≡ page_octets (rows_of_page p)))) c.in-Some.is (c.in_ok-held.ensures.some transparent) in
    same_rows content run rows is.reads c.args.page entry there (rows_of_page c.in-Some.held) page.0 page.1

pub returns-clause-rising : goal.returns-clause-rising
returns-clause-rising g c =
    let run = c.args.self.now in
    let entry = c.index-entry.result.now in
    let told = order_told run.index.entries.items c.deref.result.now c.args.page run.table entry.first c.page_first_key-next.result c.in-Some.held.rows c.as_slice.result.now c.are_ordered.result
    c.deref.ensures.value c.page_first_key-next.ensures c.as_slice.ensures c.are_ordered.ensures in
    record {
      entry = entry;
      there = there_is run.index.entries.items c.args.page entry c.requires.page c.index-entry.ensures;
      ordered = sym told ∙ c.if-not-are_ordered.false;
      stored = (subst (λ (o : Option PageRows). IfSome o (λ p. IsPage (rows_of_page p))) c.in-Some.is c.in_ok-held.ensures.page).each;
    }
