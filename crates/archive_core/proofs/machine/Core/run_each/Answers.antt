use Rattle.std.proofs.Common.{◌≡◌, ℕ, List, Some, length, refl, subst, ◌∙◌, arith}
use Rattle.std.specs.Prelude.{slice_get}
use Rattle.std.proofs.lemmas.Option.{slice_get_read}
use Rattle.archive_core.specs.declared.event.Event.{Event}
use Rattle.archive_core.specs.Machine.{MachineStep}
use Rattle.archive_core.proofs.Runs.{adds, adds_then, run_more, run_all, step_of_same}
use Rattle.archive_core.proofs.machine.Core.run_each.Goals as goal

pub loop-event-preserved : goal.loop-event-preserved
loop-event-preserved c =
    let old = c.args.self.now in
    let now = c.loop-event.self in
    let next = c.step.new.self in
    let inv = c.loop-event.invariant in
    let events : List Event = c.args.events.now in
    let i = c.loop-event.event-index in
    let event : Event = c.event-item.result in
    let at : slice_get events i ≡ Some event = slice_get_read events (length events) i event refl (omega (arith, c.loop-event-test.true)) c.event-item.is in
    let made = c.in_ok-reply.ensures.step in
    let alike = subst (λ (e : ℕ). MachineStep e now.tables now.mdb now.state event c.in_ok-reply.reply next.state) inv.exponent made in
    let step = step_of_same old.exponent now.tables old.tables now.mdb old.mdb now.state next.state event c.in_ok-reply.reply inv.tables inv.mdb alike in record {
      run = run_more old.exponent old.tables old.mdb old.state now.state next.state events c.loop-event.replies c.push.new.self i event c.in_ok-reply.reply at c.in_ok-push.ensures.ok step inv.run;
      tables = c.step.ensures.archive.0 ∙ inv.tables;
      mdb = c.step.ensures.archive.1 ∙ inv.mdb;
      exponent = c.step.ensures.archive.2 ∙ inv.exponent;
      adds = adds_then old.state now.state next.state inv.adds (adds now.exponent now.tables now.mdb now.state next.state event c.in_ok-reply.reply made);
    }

pub returns-in_err-push-clause-history : goal.returns-in_err-push-clause-history
returns-in_err-push-clause-history c =
    let now = c.loop-event.self in
    let next = c.step.new.self in
    (adds_then c.args.self.now.state now.state next.state c.loop-event.invariant.adds (adds now.exponent now.tables now.mdb now.state next.state c.event-item.result c.in_ok-reply.reply c.in_ok-reply.ensures.step)).0

pub returns-in_err-push-clause-fills : goal.returns-in_err-push-clause-fills
returns-in_err-push-clause-fills c =
    let now = c.loop-event.self in
    let next = c.step.new.self in
    (adds_then c.args.self.now.state now.state next.state c.loop-event.invariant.adds (adds now.exponent now.tables now.mdb now.state next.state c.event-item.result c.in_ok-reply.reply c.in_ok-reply.ensures.step)).1

pub returns-clause-run : goal.returns-clause-run
returns-clause-run c =
    let old = c.args.self.now in
    run_all old.exponent old.tables old.mdb old.state c.loop-event.self.state c.args.events.now c.loop-event.replies c.loop-event.event-index (omega (arith, c.loop-event-test.false)) c.loop-event.invariant.run
