use Rattle.std.proofs.Common.{◌≡◌, ◌++◌, [], ◌∷◌, List, sym, ◌∙◌, ap, subst, append-nil}
use Rattle.std.specs.List.{AllByRecursion}
use Rattle.archive_images.specs.Entries.{IsPlaced}
use Rattle.run_files.specs.Run.{run_table}
use Rattle.run_files.specs.declared.run.Run.{Run}
use Rattle.run_pages.specs.Placed.{Placed, rows_of_placed}
use Rattle.refusals.specs.declared.refusal.Refusal.TheVariants.{OutOfMemory}
use Rattle.sealed_opening.specs.Runs.{IsDamagedRun}
use Rattle.sealed_opening.specs.ReadRefusals.{IsReadRefusal}
use Rattle.sealed_opening.specs.SoFar.{AreRowsNoted}
use Rattle.sealed_opening.proofs.NotedRows.{both_noted, both_placed, placed_as}
use Rattle.sealed_opening.proofs.Refused.{handed_on}
use Rattle.sealed_opening.proofs.RunReading.{run_refused}
use Rattle.sealed_opening.proofs.runs.read_run.Goals as goal

pub returns-clause-read : goal.returns-clause-read
returns-clause-read g c =
    let was = c.args.so_far.now in
    let mid = c.note_pages.new.so_far in
    let now = c.note_run.new.self in
    let run = c.in-Ok.run' in
    let all = c.in-Ok.ensures.noted in
    let one = c.in_ok-note_run.ensures in
    let rows : List Placed = all.rows in
    record {
      rows = rows;
      run = run;
      noted = subst (λ (l : List Placed). AreRowsNoted l was now) (append-nil rows) (both_noted rows [] was mid now all.noted one.noted);
      placed = placed_as (AllByRecursion (IsPlaced c.args.head.now []) (rows_of_placed rows) × (run_table run ≡ c.args.named.table)) ((run_table run ≡ c.args.named.table) × AllByRecursion (IsPlaced c.args.head.now []) (rows_of_placed rows)) was now
          (λ both. (both.1, both.0)) (λ both. (both.1, both.0))
          (both_placed (AllByRecursion (IsPlaced c.args.head.now []) (rows_of_placed rows)) (run_table run ≡ c.args.named.table) was mid now all.placed one.placed);
      runs = one.runs ∙ ap (λ (l : List Run). l ++ run ∷ []) all.runs;
      in_file = all.in_file;
      is_run = all.is_run;
    }

pub returns-in-Err-clause-refused : goal.returns-in-Err-clause-refused
returns-in-Err-clause-refused g c =
    let device = g.D.Disk.device in
    subst (IsReadRefusal (IsDamagedRun (device.reads c.args.disk.now) c.args.named.file) device c.args.disk.now c.note_pages.new.disk) (sym c.refusal_of_run.ensures)
    (run_refused device c.args.named.file c.args.disk.now c.note_pages.new.disk c.in-Err.fault c.in-Err.ensures.refused)

pub returns-in_err-note_run-clause-refused : goal.returns-in_err-note_run-clause-refused
returns-in_err-note_run-clause-refused g c =
    let device = g.D.Disk.device in
    handed_on c.from_residual.result OutOfMemory (IsReadRefusal (IsDamagedRun (device.reads c.args.disk.now) c.args.named.file) device c.args.disk.now c.note_pages.new.disk) c.from_residual.ensures.1 c.in-Ok.ensures.no_fault
