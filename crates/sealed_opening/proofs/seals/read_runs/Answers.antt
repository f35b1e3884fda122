use Rattle.std.proofs.Common.{ℕ, List, refl, ◌∙◌, subst, arith}
use Rattle.std.proofs.lemmas.List.{take_all}
use Rattle.arch_disk.proofs.Moments.{looked_none, looked_on}
use Rattle.seal_codec.specs.declared.seal.SealedRun.{SealedRun}
use Rattle.sealed_opening.specs.ReadRefusals.{IsReadRefusal}
use Rattle.sealed_opening.specs.Seals.{AreRunsNoted, IsInRuns}
use Rattle.sealed_opening.proofs.NotedRuns.{next_damaged, next_noted, no_runs}
use Rattle.sealed_opening.proofs.Refused.{handed_on, refused_as, refused_behind}
use Rattle.sealed_opening.proofs.seals.read_runs.Goals as goal

pub runs-init : goal.runs-init
runs-init g c = record {
  looked = looked_none g.D.Disk.device c.args.disk.now;
  no_fault = refl;
  noted = no_runs g.D.Disk.device c.args.disk.now c.args.head.now c.args.so_far.now;
}

pub runs-preserved : goal.runs-preserved
runs-preserved g c =
    let device = g.D.Disk.device in
    let was = c.args.disk.now in
    let inv = c.runs.invariant in
    record {
      looked = looked_on device was c.runs.disk c.read_run.new.disk inv.looked c.read_run.ensures.looked;
      no_fault = c.in_ok-read_run.ensures.no_fault ∙ inv.no_fault;
      noted = next_noted device was c.runs.disk c.args.head.now c.args.runs.now c.runs.named-index _ (omega (arith, c.runs-test.true)) c.args.so_far.now c.runs.so_far inv.looked.reads_same inv.noted c.read_run.new.so_far c.in_ok-read_run.ensures.read;
    }

pub returns-in_err-read_run-clause-refused : goal.returns-in_err-read_run-clause-refused
returns-in_err-read_run-clause-refused g c =
    let device = g.D.Disk.device in
    let was = c.args.disk.now in
    let mid = c.runs.disk in
    let now = c.read_run.new.disk in
    let inv = c.runs.invariant in
    let fault = c.in_err-read_run.field-0.0 in
    let Damage : ℕ → ℕ → Type 0 = IsInRuns (device.reads was) c.args.runs.now in
    handed_on c.from_residual.result fault (IsReadRefusal Damage device was now) c.from_residual.ensures.1
    (refused_behind device Damage was mid now fault inv.no_fault
    (refused_as device _ Damage mid now fault
    (next_damaged device was mid c.args.head.now c.args.runs.now c.runs.named-index _ (omega (arith, c.runs-test.true)) c.args.so_far.now c.runs.so_far inv.looked.reads_same inv.noted)
    c.in_err-read_run.ensures.refused))

pub returns-clause-read : goal.returns-clause-read
returns-clause-read g c =
    let all : List SealedRun = c.args.runs.now in
    subst (λ (l : List SealedRun). AreRunsNoted g.D.Disk.device c.args.disk.now c.args.head.now l c.args.so_far.now c.runs.so_far) (take_all c.runs.named-index all (omega (arith, c.runs-test.false))) c.runs.invariant.noted
