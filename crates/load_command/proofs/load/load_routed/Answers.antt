use Rattle.std.proofs.Common.{Bor, List, ℕ, Option, ap, refl}
use Rattle.std.specs.Prelude.{option_map}
use Rattle.command_plans.proofs.Ledgers.{clock_unused}
use Rattle.ask_answers.proofs.AskSheets.{ran_asked, ran_unasked, ran_unread_sheet}
use Rattle.load_command.proofs.load.load_routed.Goals as goal

abbrev named : Option (Bor (List ℕ)) → Option (List ℕ)
named = option_map (λ (name : Bor (List ℕ)). name.now)

pub returns-in-None-clause-ran : goal.returns-in-None-clause-ran
returns-in-None-clause-ran g c = ran_unasked g.D.Disk.device _ _ _ _ _ _ (ap named c.in-None.is) (rw c.new.ensures at c.load_archive.ensures.ran)

pub returns-in-Ok-clause-ran : goal.returns-in-Ok-clause-ran
returns-in-Ok-clause-ran g c =
    let read = c.in-Ok.ensures.read in
    ran_asked g.D.Disk.device _ _ _ _ (g.I.Inputs.state c.read_asks.new.inputs) _ _ _ (ap named c.in-Some.is) c.in-Ok.sheet read (rw read.used.files at c.load_archive-in-Ok.ensures.ran)

pub returns-in-Err-clause-ran : goal.returns-in-Err-clause-ran
returns-in-Err-clause-ran g c = ran_unread_sheet g.D.Disk.device _ _ _ _ _ _ _ (ap named c.in-Some.is) c.in-Err.refusal c.in-Err.ensures.read refl refl refl

pub returns-in-Err-clause-clock : goal.returns-in-Err-clause-clock
returns-in-Err-clause-clock g c = clock_unused (g.C.Clock.state c.args.clock.now)
