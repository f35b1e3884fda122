use Rattle.std.proofs.Common.{◌≡◌, ◌++◌, ◌≤◌, [], ◌∷◌, List, refl, sym, ◌∙◌, ap, subst, append-nil}
use Rattle.std.specs.List.{AllByRecursion}
use Rattle.std.proofs.lemmas.List.Concat.{flat_map-append}
use Rattle.arch_disk.proofs.Moments.{looked_none, looked_on}
use Rattle.archive_images.specs.Entries.{IsPlaced}
use Rattle.run_files.specs.Opening.{IsNextPage, IsReadingRun, file_opened, index_pages, pages_read, rows_of_pages}
use Rattle.run_files.specs.declared.fault.RunFault.TheVariants.{OutOfMemory}
use Rattle.run_files.specs.declared.opening.RunOpening.{RunOpening}
use Rattle.run_pages.specs.Pages.{rows_of_page}
use Rattle.run_pages.specs.Placed.{Placed, rows_of_placed}
use Rattle.sealed_opening.specs.Runs.{IsRunNoteFault}
use Rattle.sealed_opening.specs.SoFar.{ArePlacedIf, AreRowsNoted}
use Rattle.sealed_opening.proofs.NotedRows.{both_noted, none_noted, placed_rows_both, same_placed}
use Rattle.sealed_opening.proofs.Refused.{handed_on}
use Rattle.sealed_opening.proofs.RunReading.{begin_fault, in_run, next_fault}
use Rattle.sealed_opening.proofs.runs.note_pages.Goals as goal

pub pages-init : goal.pages-init
pages-init g c =
    let device = g.D.Disk.device in
    let begun = c.in_ok-opening.ensures in
    let so_far = c.args.so_far.now in
    record {
      file = refl;
      looked = looked_none device c.begin_synced.new.disk;
      no_fault = refl;
      runs = refl;
      noted = (
        [],
        none_noted so_far so_far refl refl refl refl refl,
        same_placed (AllByRecursion (IsPlaced c.args.head.now []) []) so_far so_far refl tt,
        λ transparent. in_run c.in_ok-opening.opening (device.reads c.args.disk.now) (device.reads c.begin_synced.new.disk) c.args.file (file_opened c.in_ok-opening.opening) [] begun.looked.reads_same begun.begun.in_file (begun.begun.reading transparent),
      );
    }

pub next-requires : goal.next-requires
next-requires g c = record {
  reading = λ transparent.
      let device = g.D.Disk.device in
      let inv = c.pages.invariant in
      (inv.noted.0, in_run c.pages.opening (device.reads c.begin_synced.new.disk) (device.reads c.pages.disk) (file_opened c.in_ok-opening.opening) (file_opened c.pages.opening) inv.noted.0 inv.looked.reads_same inv.file (inv.noted.3 transparent));
}

pub note_page-requires : goal.note_page-requires
note_page-requires g c = rw c.in-Some.is at c.in_ok-page.ensures.is_page

pub pages-preserved : goal.pages-preserved
pages-preserved g c =
    let device = g.D.Disk.device in
    let inv = c.pages.invariant in
    let next = c.in_ok-page.ensures in
    let rows : List Placed = rows_of_page c.in-Some.page in
    let pages : List (List Placed) = inv.noted.0 in
    let before : List Placed = rows_of_pages pages in
    let first = c.args.so_far.now in
    let was = c.pages.so_far in
    let now = c.note_page.new.self in
    let is = subst (IsNextPage device c.pages.opening c.next.new.self c.pages.disk) c.in-Some.is next.page in
    let one = c.in_ok-note_page.ensures in
    let more : rows_of_pages (pages ++ rows ∷ []) ≡ before ++ rows = flat_map-append (λ (p : List Placed). p) pages (rows ∷ []) ∙ ap (λ (l : List Placed). before ++ l) (append-nil rows) in
    record {
      file = next.file ∙ inv.file;
      looked = looked_on device c.begin_synced.new.disk c.pages.disk c.next.new.disk inv.looked next.looked;
      no_fault = next.told ∙ inv.no_fault;
      runs = one.runs ∙ inv.runs;
      noted = (
        pages ++ rows ∷ [],
        subst (λ (l : List Placed). AreRowsNoted l first now) (sym more) (both_noted before rows first was now inv.noted.1 one.noted),
        subst (λ (l : List Placed). ArePlacedIf (AllByRecursion (IsPlaced c.args.head.now []) (rows_of_placed l)) first now) (sym more) (placed_rows_both (IsPlaced c.args.head.now []) before rows first was now inv.noted.2 one.placed),
        λ transparent.
            let here = in_run c.pages.opening (device.reads c.begin_synced.new.disk) (device.reads c.pages.disk) (file_opened c.in_ok-opening.opening) (file_opened c.pages.opening) pages inv.looked.reads_same inv.file (inv.noted.3 transparent) in
            in_run c.next.new.self (device.reads c.pages.disk) (device.reads c.begin_synced.new.disk) (file_opened c.pages.opening) (file_opened c.in_ok-opening.opening) (pages ++ rows ∷ []) (sym inv.looked.reads_same) (sym inv.file) (is.3 transparent pages here),
      );
    }

pub returns-clause-noted : goal.returns-clause-noted
returns-clause-noted g c =
    let device = g.D.Disk.device in
    let begun = c.in_ok-opening.ensures in
    let inv = c.pages.invariant in
    let next = c.in_ok-page.ensures in
    let none = subst (IsNextPage device c.pages.opening c.next.new.self c.pages.disk) c.in_default.is next.page in
    let fin = c.finish.ensures in
    record {
      rows = rows_of_pages inv.noted.0;
      noted = inv.noted.1;
      placed = inv.noted.2;
      runs = inv.runs;
      in_file = fin.in_file ∙ next.file ∙ inv.file ∙ begun.begun.in_file;
      is_run = λ transparent.
          let here = in_run c.pages.opening (device.reads c.begin_synced.new.disk) (device.reads c.args.disk.now) (file_opened c.in_ok-opening.opening) c.args.file inv.noted.0 (sym begun.looked.reads_same) (sym begun.begun.in_file) (inv.noted.3 transparent) in
          fin.is_run (device.reads c.args.disk.now c.args.file) inv.noted.0 (subst (λ (o : RunOpening). IsReadingRun o (device.reads c.args.disk.now c.args.file) inv.noted.0) (sym none.1) here);
    }

pub finish-requires : goal.finish-requires
finish-requires g c =
    let none = subst (IsNextPage g.D.Disk.device c.pages.opening c.next.new.self c.pages.disk) c.in_default.is c.in_ok-page.ensures.page in
    record { all = subst (λ (o : RunOpening). index_pages o ≤ pages_read o) (sym none.1) none.0 }

pub returns-in_err-opening-clause-refused : goal.returns-in_err-opening-clause-refused
returns-in_err-opening-clause-refused g c =
    let device = g.D.Disk.device in
    let fault = c.in_err-opening.field-0.0 in
    handed_on c.from_residual.result fault (IsRunNoteFault device c.args.file c.args.disk.now c.begin_synced.new.disk) c.from_residual.ensures.1
    (begin_fault device c.args.file c.args.disk.now c.begin_synced.new.disk fault c.in_err-opening.ensures.refused)

pub returns-in_err-page-clause-refused : goal.returns-in_err-page-clause-refused
returns-in_err-page-clause-refused g c =
    let device = g.D.Disk.device in
    let begun = c.in_ok-opening.ensures in
    let inv = c.pages.invariant in
    let fault = c.in_err-page.field-0.0 in
    handed_on c.from_residual-in_err-page.result fault (IsRunNoteFault device c.args.file c.args.disk.now c.next.new.disk) c.from_residual-in_err-page.ensures.1
    (next_fault device c.args.file c.pages.opening c.args.disk.now c.pages.disk c.next.new.disk fault (inv.file ∙ begun.begun.in_file) (inv.looked.reads_same ∙ begun.looked.reads_same) (inv.no_fault ∙ begun.told) c.in_err-page.ensures.refused)

pub returns-in_err-note_page-clause-refused : goal.returns-in_err-note_page-clause-refused
returns-in_err-note_page-clause-refused g c =
    let device = g.D.Disk.device in
    let inv = c.pages.invariant in
    handed_on c.from_residual-in_err-note_page.result OutOfMemory (IsRunNoteFault device c.args.file c.args.disk.now c.next.new.disk) c.from_residual-in_err-note_page.ensures.1
    (c.in_ok-page.ensures.told ∙ (inv.no_fault ∙ c.in_ok-opening.ensures.told))
