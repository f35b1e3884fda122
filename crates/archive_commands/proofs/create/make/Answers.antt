use Rattle.std.proofs.lemmas.Result.{err_from_is_err_and}
use Rattle.std.proofs.Common.{Some, ◌≡◌, false, inl, refl, sym, subst, arith}
use Rattle.command_plans.specs.Plan.{OfMemory, Interrupted}
use Rattle.command_runs.specs.Finishing.{IsFinished}
use Rattle.command_runs.specs.Command.{HasDiskOutcome, Made, Ran, effects_of, nothing_done, printing_plan}
use Rattle.archive_commands.specs.Create.{made, new_archive_plan}
use Rattle.command_runs.specs.Creation.{create_line}
use Rattle.command_runs.specs.Report.{unopened}
use Rattle.command_runs.proofs.Commands.{no_text, ran_printed}
use Rattle.archive_commands.proofs.CreatePlan.{ran_made, ran_unmade}
use Rattle.archive_commands.proofs.Created.{made_store}
use Rattle.archive_commands.proofs.create.make.Goals as goal

pub returns-in_default : goal.returns-in_default
returns-in_default g c = λ sources. record {
  way = Interrupted (nothing_done sources) OfMemory;
  allows = inl refl;
  did = record {
    report = refl;
    printed = no_text (g.K.Sink.state c.args.sink.now).written;
    output = record { counted = refl };
    disk = refl;
    log = tt;
    pending = tt;
  };
}

pub returns-in_err-store : goal.returns-in_err-store
returns-in_err-store g c = λ sources.
    let device = g.D.Disk.device in
    let output = (g.K.Sink.state c.args.sink.now) in
    let e = c.in_err-store.ensures in
    let refused = c.in_err-store.field-0.0 in
    let went = effects_of c.args.disk refused.0 output output (unopened (Some refused.1)) in
    let p = err_from_is_err_and c.from_residual.result c.from_residual.ensures.1 in
    rw (p.1, p.2)
    (ran_unmade sources device went c.args.head (printing_plan (made sources c.args.head) (create_line c.args.head)) refused.1 e.refused e.kept e.crash e.counts refl refl)

pub returns : goal.returns
returns g c = λ sources.
    let device = g.D.Disk.device in
    let s = c.in_ok-store.store in
    let e = c.in_ok-store.ensures in
    let m = e.created in
    let refusal = c.finish-refusal.result in
    let report = c.read_only.result in
    let output = (g.K.Sink.state c.args.sink.now) in
    let output' = (g.K.Sink.state c.finish-refusal.new.sink) in
    let went = effects_of c.args.disk s.disk output output' report in
    let line : c.put_line.new.line_buffer ≡ create_line c.args.head = c.put_line.ensures in
    let text = subst (IsFinished refusal output output') line c.finish-refusal.ensures in
    let disk : HasDiskOutcome device c.args.disk s.disk false (Made c.args.head) = (
      record { faults = m.no_fault; writes = (0, omega arith, omega arith, m.no_failed_write) },
      λ known. made_store device c.args.disk s c.args.head (m.none known) m.history m.fills m.head_is m.exponent m.opened (m.sound known) (e.crash known (m.none known)) (c.into_disk.ensures.images known),
    ) in
    subst (λ (d : g.row.D.Denot). Ran device (new_archive_plan sources device c.args.disk c.args.head) (effects_of c.args.disk d output output' report)) (sym c.into_disk.ensures.disk)
    (ran_made sources device went c.args.head m.none
    (ran_printed device went (made sources c.args.head) (create_line c.args.head) refusal refl refl (refl, refl) text c.read_only.ensures disk))
