use Rattle.std.proofs.Common.{length, refl, arith}
use Rattle.run_pages.specs.Runs.{entries_from, footer_of_pages}
use Rattle.run_pages.proofs.Ends.{index_once}
use Rattle.run_pages.proofs.RunIndex.{run_has_index}
use Rattle.run_pages.proofs.WholePages.{whole_run}
use Rattle.run_files.specs.Opening.{rows_of_pages}
use Rattle.run_files.proofs.opening.RunOpening.finish.Goals as goal

pub returns : goal.returns
returns c =
    let opening = c.args.self in
    let entries = opening.index.entries.items in
    let footer = opening.index.footer in
    record {
      in_file = refl;
      rows = refl;
      is_run = λ content pages r.
          let rows = rows_of_pages pages in
          let run = whole_run content entries footer opening.table pages r.has r.are (omega (arith, r.count, r.are.within, c.requires.all)) in
          let same = index_once content entries (entries_from 0 run.pages) footer (footer_of_pages run.pages (length rows)) r.has (run_has_index content opening.table rows run) in
          record { is = run; entries = same.1; footer = same.0; last = r.last };
    }
