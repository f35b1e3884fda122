use Rattle.std.proofs.Common.{◌∷◌, [], ℕ, List, subst}
use Rattle.seal_codec.specs.declared.seal.SealedRun.{SealedRun}
use Rattle.sealed_opening.specs.Fills.{IsInFillFile}
use Rattle.sealed_opening.specs.ReadRefusals.{IsReadRefusal}
use Rattle.sealed_opening.specs.Seals.{AreRunsNoted, IsInRuns, IsInSeals}
use Rattle.sealed_opening.proofs.NotedSeals.{fill_file_damaged, runs_damaged, seal_read}
use Rattle.sealed_opening.proofs.Refused.{handed_on, refused_as, refused_behind}
use Rattle.sealed_opening.proofs.seals.read_seal.Goals as goal

pub returns-in_err-read_runs-clause-refused : goal.returns-in_err-read_runs-clause-refused
returns-in_err-read_runs-clause-refused g c =
    let device = g.D.Disk.device in
    let was = c.args.disk.now in
    let now = c.read_runs.new.disk in
    let seal = c.args.seal.now in
    let fault = c.in_err-read_runs.field-0.0 in
    let Damage : ℕ → ℕ → Type 0 = IsInSeals (device.reads was) c.args.head.now (seal ∷ []) c.args.so_far in
    handed_on c.from_residual.result fault (IsReadRefusal Damage device was now) c.from_residual.ensures.1
    (refused_as device (IsInRuns (device.reads was) seal.runs) Damage was now fault (λ transparent. runs_damaged (device.reads was) c.args.head.now seal c.args.so_far)
    (subst (λ (l : List SealedRun). IsReadRefusal (IsInRuns (device.reads was) l) device was now fault) c.as_slice.ensures c.in_err-read_runs.ensures.refused))

pub returns-in_err-now-clause-refused : goal.returns-in_err-now-clause-refused
returns-in_err-now-clause-refused g c =
    let device = g.D.Disk.device in
    let was = c.args.disk.now in
    let mid = c.read_runs.new.disk in
    let now = c.read_fill_file.new.disk in
    let seal = c.args.seal.now in
    let head = c.args.head.now in
    let so_far = c.args.so_far in
    let read = c.read_runs.new.so_far in
    let fault = c.in_err-now.field-0.0 in
    let Damage : ℕ → ℕ → Type 0 = IsInSeals (device.reads was) head (seal ∷ []) so_far in
    let runs = subst (λ (l : List SealedRun). AreRunsNoted device was head l so_far read) c.as_slice.ensures c.in_ok-read_runs.ensures.read in
    handed_on c.from_residual-in_err-now.result fault (IsReadRefusal Damage device was now) c.from_residual-in_err-now.ensures.1
    (refused_behind device Damage was mid now fault c.in_ok-read_runs.ensures.no_fault
    (refused_as device (IsInFillFile (device.reads mid) head seal read) Damage mid now fault
    (λ transparent. fill_file_damaged device was mid head seal so_far read c.read_runs.ensures.looked.reads_same runs transparent)
    c.in_err-now.ensures.refused))

pub returns-clause-read : goal.returns-clause-read
returns-clause-read g c =
    let device = g.D.Disk.device in
    let was = c.args.disk.now in
    let mid = c.read_runs.new.disk in
    let seal = c.args.seal.now in
    let head = c.args.head.now in
    let so_far = c.args.so_far in
    let read = c.read_runs.new.so_far in
    let runs = subst (λ (l : List SealedRun). AreRunsNoted device was head l so_far read) c.as_slice.ensures c.in_ok-read_runs.ensures.read in
    seal_read device was mid head seal so_far read c.read_runs.ensures.looked.reads_same runs c.in_ok-now.now c.in_ok-now.ensures.read
