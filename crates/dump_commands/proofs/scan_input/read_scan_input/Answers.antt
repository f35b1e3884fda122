use Rattle.std.proofs.Common.{ℕ, List, rules, w64, SFits}
use Rattle.std.proofs.lemmas.Int.{to_z-of_z}
use Rattle.refusals.specs.declared.refusal.Which.TheVariants.{DumpOctets}
use Rattle.command_plans.proofs.Whole.{not_read, was_read}
use Rattle.command_runs.proofs.Moments.{moment_of}
use Rattle.command_runs.proofs.OverInputs.{memory_behind}
use Rattle.dump_commands.proofs.scan_input.read_scan_input.Goals as goal

pub returns-in-Ok-new-clause-read : goal.returns-in-Ok-new-clause-read
returns-in-Ok-new-clause-read g c =
    let a = g.I.Inputs.state c.args.inputs.now in
    let b = g.I.Inputs.state c.receive_input.new.inputs in
    let e = c.in-Ok.ensures in
    let d = e.received in
    let fits : SFits w64 c.now-moment.result = search rules in
    let same = to_z-of_z w64 c.now-moment.result fits in record {
      dump = d.dump;
      packets = d.packets;
      moment = c.now-moment.result;
      read = was_read a.files DumpOctets (λ (octets : List ℕ). octets) c.args.name.now a b e.same e.closed e.reliable d.dump d.whole d.short e.gave e.counted;
      short = d.short;
      known = moment_of (g.C.Clock.state c.args.clock.now).next c.now-moment.result c.now-moment.ensures.known c.now-moment.ensures.range;
      received = d.received;
      kept = rw same at d.kept;
    }

-- there was no memory for a piece of text
pub returns-in-Err-new-clause-unread : goal.returns-in-Err-new-clause-unread
returns-in-Err-new-clause-unread g c =
    let a = g.I.Inputs.state c.args.inputs.now in
    let b = g.I.Inputs.state c.receive_input.new.inputs in
    let e = c.in-Ok.ensures in
    let d = e.received in
    memory_behind a.files DumpOctets c.args.name.now a b d.dump
    (was_read a.files DumpOctets (λ (octets : List ℕ). octets) c.args.name.now a b e.same e.closed e.reliable d.dump d.whole d.short e.gave e.counted) d.whole

-- the dump wasn't received
pub returns-in-Err-clause-unread : goal.returns-in-Err-clause-unread
returns-in-Err-clause-unread g c =
    let a = g.I.Inputs.state c.args.inputs.now in
    let b = g.I.Inputs.state c.receive_input.new.inputs in
    let e = c.in-Err.ensures in
    not_read a.files DumpOctets (λ (octets : List ℕ). octets) c.args.name.now a b e.same e.closed e.reliable (List ℕ) c.in-Err.fault c.refusal_of.result e.fault
    c.refusal_of.ensures e.gave e.counted e.later

-- ---- the clock

pub returns-in-Ok-new-clause-clock : goal.returns-in-Ok-new-clause-clock
returns-in-Ok-new-clause-clock g c = record { known = c.now-moment.ensures.same; stands = c.now-moment.ensures.reliable }

pub returns-in-Err-new-clause-clock : goal.returns-in-Err-new-clause-clock
returns-in-Err-new-clause-clock g c = record { known = c.now-moment.ensures.same; stands = c.now-moment.ensures.reliable }

pub returns-in-Err-clause-clock : goal.returns-in-Err-clause-clock
returns-in-Err-clause-clock g c = record { known = c.now-moment.ensures.same; stands = c.now-moment.ensures.reliable }
