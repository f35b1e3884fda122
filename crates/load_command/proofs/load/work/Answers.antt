use Rattle.std.proofs.Common.{Bor, List, ℕ, Option, ap, refl}
use Rattle.std.specs.Prelude.{option_map}
use Rattle.command_plans.proofs.Ledgers.{clock_unused}
use Rattle.load_command.proofs.RoutePlan.{ran_routed, ran_unread_script, ran_unrouted}
use Rattle.load_command.proofs.load.work.Goals as goal

abbrev named : Option (Bor (List ℕ)) → Option (List ℕ)
named = option_map (λ (name : Bor (List ℕ)). name.now)

pub returns-in-None-clause-ran : goal.returns-in-None-clause-ran
returns-in-None-clause-ran g c = ran_unrouted g.D.Disk.device _ _ _ _ _ _ (ap named c.in-None.is) c.load_routed.ensures.ran

pub returns-in-Ok-clause-ran : goal.returns-in-Ok-clause-ran
returns-in-Ok-clause-ran g c =
    let read = c.in-Ok.ensures.read in
    ran_routed g.D.Disk.device _ _ _ _ (g.I.Inputs.state c.read_limited.new.inputs) _ _ _ (ap named c.in-Some.is) c.in-Ok.text.items read (rw (read.used.files, c.as_slice.ensures.value) at c.load_routed-in-Ok.ensures.ran)

pub returns-in-Err-clause-ran : goal.returns-in-Err-clause-ran
returns-in-Err-clause-ran g c = ran_unread_script g.D.Disk.device _ _ _ _ _ _ _ (ap named c.in-Some.is) c.in-Err.refusal c.in-Err.ensures.unread refl refl refl

pub returns-in-Err-clause-clock : goal.returns-in-Err-clause-clock
returns-in-Err-clause-clock g c = clock_unused (g.C.Clock.state c.args.clock.now)
