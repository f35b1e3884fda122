use Rattle.std.proofs.Common.{◌≡◌, ℕ, [], ◌∷◌, ◌++◌, List, length, take, drop, refl, sym, ap, subst, arith}
use Rattle.std.specs.Prelude.{IfSome, Option}
use Rattle.arch_disk.specs.Image.{Image}
use Rattle.run_pages.specs.Pages.{IsPage, page_octets, rows_of_page}
use Rattle.run_pages.specs.declared.page_rows.PageRows.{PageRows}
use Rattle.run_files.specs.Opening.{IsReadingRun}
use Rattle.run_files.specs.declared.run_index.RunIndex.{RunIndex}
use Rattle.run_files.proofs.Openings.{inside, not_spelled}
use Rattle.run_files.proofs.RunPages.{there_is}
use Rattle.run_files.proofs.opening.RunOpening.next.Goals as goal

pub returns-then-self-len-clause-page : goal.returns-then-self-len-clause-page
returns-then-self-len-clause-page g c = (omega (arith, c.if-self-len.true, c.len.ensures), refl)

pub page_on_disk-requires : goal.page_on_disk-requires
page_on_disk-requires g c transparent =
    let self = c.args.self.now in
    let entry = c.index-entry.result.now in
    let r = (c.requires.reading transparent).1 in
    let there = there_is self.index.entries.items self.read entry (omega (arith, c.if-self-len.false, c.len.ensures)) c.index-entry.ensures in
    inside (g.D.Disk.device.reads c.args.disk.now self.file) self.index.entries.items self.index.footer self.read entry r.has there

pub returns-in_default-clause-refused : goal.returns-in_default-clause-refused
returns-in_default-clause-refused g c =
    let self = c.args.self.now in
    let entry = c.index-entry.result.now in
    let there = there_is self.index.entries.items self.read entry (omega (arith, c.if-self-len.false, c.len.ensures)) c.index-entry.ensures in (
      refl,
      (λ transparent. let r = c.requires.reading transparent in
          not_spelled (g.D.Disk.device.reads c.args.disk.now self.file) self r.0 r.1 entry there (c.in_ok-page.ensures.none transparent c.in_default.is)),
      c.in_ok-page.ensures.told,
    )

pub take_in-requires : goal.take_in-requires
take_in-requires g c =
    let self = c.args.self.now in
    record { there = there_is self.index.entries.items self.read c.index-entry.result.now (omega (arith, c.if-self-len.false, c.len.ensures)) c.index-entry.ensures }

pub returns-clause-page : goal.returns-clause-page
returns-clause-page g c =
    let self = c.args.self.now in
    let entry = c.index-entry.result.now in (
      omega (arith, c.if-self-len.false, c.len.ensures),
      c.take_in.ensures.count c.if-not-take_in.false,
      ap (λ (i : RunIndex). length i.entries.items) c.take_in.ensures.same.1,
      λ transparent pages r.
          let content = g.D.Disk.device.reads c.args.disk.now self.file in
          let page = subst (λ (o : Option PageRows). IfSome o (λ p. IsPage (rows_of_page p) × (take entry.len (drop entry.at content) ≡ page_octets (rows_of_page p)))) c.in-Some.is (c.in_ok-page.ensures.some transparent) in
          c.take_in.ensures.yes c.if-not-take_in.false content pages r page.0 page.1,
    )

pub returns-clause-reading : goal.returns-clause-reading
returns-clause-reading g c = λ transparent.
    let self = c.args.self.now in
    let entry = c.index-entry.result.now in
    let reads = g.D.Disk.device.reads in
    let content = reads c.args.disk.now self.file in
    let r = c.requires.reading transparent in
    let page = subst (λ (o : Option PageRows). IfSome o (λ p. IsPage (rows_of_page p) × (take entry.len (drop entry.at content) ≡ page_octets (rows_of_page p)))) c.in-Some.is (c.in_ok-page.ensures.some transparent) in
    let pages : List (List _) = r.0 ++ rows_of_page c.in-Some.page ∷ [] in
    let more = c.take_in.ensures.yes c.if-not-take_in.false content r.0 r.1 page.0 page.1 in (
      pages,
      subst (λ (f : ℕ). IsReadingRun c.take_in.new.self (reads c.page_on_disk.new.disk f) pages) (sym c.take_in.ensures.same.0)
          (subst (λ (i : Image). IsReadingRun c.take_in.new.self (i self.file) pages) (sym c.in_ok-page.ensures.looked.reads_same) more),
    )
