use Rattle.std.proofs.Common.{◌∙◌, refl, sym, subst, rules}
use Rattle.arch_disk.specs.Image.{Image}
use Rattle.arch_disk.proofs.Moments.{looked_none, looked_on}
use Rattle.run_files.specs.Run.{IsRunOn, run_file}
use Rattle.run_files.specs.declared.run.Run.{Run}
use Rattle.joined_rows.proofs.SameRows.{each_at, has_none}
use Rattle.sealed_rows.specs.Calls.{IsPlaceOf}
use Rattle.sealed_rows.specs.Rows.{rows_in}
use Rattle.sealed_rows.proofs.Faults.{fault_since, runs_on}
use Rattle.sealed_rows.proofs.KeyPlaces.{found_in, none_at_all, none_more}
use Rattle.sealed_rows.proofs.places.find_position.Goals as goal

pub loop-run-init : goal.loop-run-init
loop-run-init g c = record {
  looked = looked_none g.D.Disk.device c.args.disk.now;
  no_fault = refl;
  none = λ transparent at has of same. has_none at has;
}

pub position_in-requires : goal.position_in-requires
position_in-requires g c = record {
  held = λ transparent.
      (let device = g.D.Disk.device in
      let runs = c.args.runs.now in
      let now = runs_on device runs c.args.disk.now c.loop-run.disk c.loop-run.invariant.looked (c.requires.held transparent) in
      each_at (λ (r : Run). IsRunOn device r c.loop-run.disk) runs c.run-item.result now (c.loop-run.run-index, c.loop-run-test.true, sym c.run-item.is));
}

pub returns-in_err-position-clause-refused : goal.returns-in_err-position-clause-refused
returns-in_err-position-clause-refused g c =
    let refused = fault_since g.D.Disk.device c.args.disk.now c.loop-run.disk c.position_in.new.disk c.in_err-position.field-0.0 c.loop-run.invariant.looked c.loop-run.invariant.no_fault c.in_err-position.ensures.refused in
    search rules

pub returns-in_err-position-clause-looked : goal.returns-in_err-position-clause-looked
returns-in_err-position-clause-looked g c = looked_on g.D.Disk.device c.args.disk.now c.loop-run.disk c.position_in.new.disk c.loop-run.invariant.looked c.in_err-position.ensures.looked

pub returns-in-Some-clause-place : goal.returns-in-Some-clause-place
returns-in-Some-clause-place g c = λ transparent.
    let device = g.D.Disk.device in
    let image = device.reads c.args.disk.now in
    let run = c.run-item.result in
    let here = subst (λ (m : Image). IsPlaceOf (rows_in (m (run_file run)) run) c.args.table c.args.key c.in_ok-position.field-0) c.loop-run.invariant.looked.reads_same (c.in_ok-position.ensures.place transparent) in
    found_in image c.args.table c.args.key c.args.runs.now c.loop-run.run-index run c.loop-run-test.true c.run-item.is c.in-Some.position
    (subst (IsPlaceOf (rows_in (image (run_file run)) run) c.args.table c.args.key) c.in-Some.is here)

pub returns-in-Some-clause-told : goal.returns-in-Some-clause-told
returns-in-Some-clause-told g c = c.in_ok-position.ensures.told ∙ c.loop-run.invariant.no_fault

pub returns-in-Some-clause-looked : goal.returns-in-Some-clause-looked
returns-in-Some-clause-looked g c = looked_on g.D.Disk.device c.args.disk.now c.loop-run.disk c.position_in.new.disk c.loop-run.invariant.looked c.in_ok-position.ensures.looked

pub loop-run-preserved : goal.loop-run-preserved
loop-run-preserved g c =
    let device = g.D.Disk.device in
    let disk = c.args.disk.now in
    let image = device.reads disk in
    let run = c.run-item.result in
    let so_far = c.loop-run.invariant in
    let got = c.in_ok-position.ensures in
    record {
      looked = looked_on device disk c.loop-run.disk c.position_in.new.disk so_far.looked got.looked;
      no_fault = got.told ∙ so_far.no_fault;
      none = λ transparent.
          (let here = subst (λ (m : Image). IsPlaceOf (rows_in (m (run_file run)) run) c.args.table c.args.key c.in_ok-position.field-0) so_far.looked.reads_same (got.place transparent) in
          none_more image c.args.table c.args.key c.args.runs.now c.loop-run.run-index run c.loop-run-test.true c.run-item.is (so_far.none transparent)
          (subst (IsPlaceOf (rows_in (image (run_file run)) run) c.args.table c.args.key) c.in_default.is here));
    }

pub returns-clause-place : goal.returns-clause-place
returns-clause-place g c = λ transparent.
    none_at_all (g.D.Disk.device.reads c.args.disk.now) c.args.table c.args.key c.args.runs.now c.loop-run.run-index c.loop-run-test.false (c.loop-run.invariant.none transparent)
