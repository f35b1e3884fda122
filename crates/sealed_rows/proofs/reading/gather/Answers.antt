use Rattle.std.proofs.Common.{◌≡◌, ◌++◌, ◌∙◌, refl, sym, subst, rules}
use Rattle.std.specs.List.{AllByRecursion}
use Rattle.arch_disk.specs.Image.{Image}
use Rattle.arch_disk.proofs.Moments.{looked_none, looked_on}
use Rattle.run_files.specs.Run.{IsRunOn}
use Rattle.run_files.specs.declared.run.Run.{Run}
use Rattle.joined_rows.proofs.SameRows.{each_at}
use Rattle.sealed_rows.specs.Gathered.{wanted_of}
use Rattle.sealed_rows.proofs.Faults.{fault_since, runs_on}
use Rattle.sealed_rows.proofs.Gathering.{all_runs, run_more}
use Rattle.sealed_rows.proofs.reading.gather.Goals as goal

pub loop-run-init : goal.loop-run-init
loop-run-init g c = record {
  looked = looked_none g.D.Disk.device c.args.disk.now;
  no_fault = refl;
  each = subst (AllByRecursion _) (sym c.new-rows.ensures.items) tt;
  rows = λ transparent. c.new-rows.ensures.items;
}

pub add_run-requires-clause-held : goal.add_run-requires-clause-held
add_run-requires-clause-held g c = λ transparent.
    let device = g.D.Disk.device in
    let runs = c.args.runs.now in
    let now = runs_on device runs c.args.disk.now c.loop-run.disk c.loop-run.invariant.looked (c.requires.held transparent) in
    each_at (λ (r : Run). IsRunOn device r c.loop-run.disk) runs c.run-item.result now (c.loop-run.run-index, c.loop-run-test.true, sym c.run-item.is)

pub returns-in_err-rows-clause-refused : goal.returns-in_err-rows-clause-refused
returns-in_err-rows-clause-refused g c =
    let refused = fault_since g.D.Disk.device c.args.disk.now c.loop-run.disk c.add_run.new.disk c.in_err-rows.field-0.0 c.loop-run.invariant.looked c.loop-run.invariant.no_fault c.in_err-rows.ensures.refused in
    search rules

pub returns-in_err-rows-clause-looked : goal.returns-in_err-rows-clause-looked
returns-in_err-rows-clause-looked g c = looked_on g.D.Disk.device c.args.disk.now c.loop-run.disk c.add_run.new.disk c.loop-run.invariant.looked c.in_err-rows.ensures.looked

pub loop-run-preserved : goal.loop-run-preserved
loop-run-preserved g c =
    let device = g.D.Disk.device in
    let disk = c.args.disk.now in
    let so_far = c.loop-run.invariant in
    let got = c.in_ok-rows.ensures in
    let run = c.run-item.result in
    record {
      looked = looked_on device disk c.loop-run.disk c.add_run.new.disk so_far.looked got.looked;
      no_fault = got.told ∙ so_far.no_fault;
      each = got.each;
      rows = λ transparent. run_more c.args.wanted (device.reads disk) c.args.runs.now c.loop-run.run-index run c.loop-run.rows.items c.in_ok-rows.rows.items c.loop-run-test.true c.run-item.is (so_far.rows transparent)
          (subst (λ (m : Image). c.in_ok-rows.rows.items ≡ c.loop-run.rows.items ++ wanted_of c.args.wanted m run) so_far.looked.reads_same (got.rows transparent));
    }

pub returns-clause-rows : goal.returns-clause-rows
returns-clause-rows g c = λ transparent. all_runs c.args.wanted (g.D.Disk.device.reads c.args.disk.now) c.args.runs.now c.loop-run.run-index c.loop-run.rows.items c.loop-run-test.false (c.loop-run.invariant.rows transparent)
