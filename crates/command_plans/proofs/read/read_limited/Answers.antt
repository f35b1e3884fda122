use Rattle.std.proofs.Common.{◌≤◌, ℕ, List, length, arith, subst}
use Rattle.refusals.specs.Limits.{limit_of}
use Rattle.outer_traits.specs.Whole.{IsInputFault}
use Rattle.command_plans.proofs.Whole.{not_read, was_read}
use Rattle.command_plans.proofs.read.read_limited.Goals as goal

pub returns-in-Ok-clause-read : goal.returns-in-Ok-clause-read
returns-in-Ok-clause-read g c =
    let files = (g.I.Inputs.state c.args.inputs.now).files in
    let old = g.I.Inputs.state c.args.inputs.now in
    let now = c.read_input.new.inputs in
    let new = g.I.Inputs.state now in
    let e = c.in-Ok.ensures in
    let len = c.in-Ok.octets.ok.0 in
    let short : length c.in-Ok.octets.items ≤ limit_of c.args.which = omega (arith, e.short, len, c.limit.ensures) in
    was_read files c.args.which (λ (octets : List ℕ). octets) c.args.name.now old new e.same e.closed e.reliable c.in-Ok.octets.items e.whole short e.gave e.counted

pub returns-in-Err-clause-unread : goal.returns-in-Err-clause-unread
returns-in-Err-clause-unread g c =
    let files = (g.I.Inputs.state c.args.inputs.now).files in
    let old = g.I.Inputs.state c.args.inputs.now in
    let now = c.read_input.new.inputs in
    let new = g.I.Inputs.state now in
    let e = c.in-Err.ensures in
    let name = c.args.name.now in
    let fault = subst (λ (n : ℕ). IsInputFault files name n (g.I.Inputs.state c.args.inputs.now).faults (g.I.Inputs.state now).faults c.in-Err.fault) c.limit.ensures e.fault in
    not_read files c.args.which (λ (octets : List ℕ). octets) name old new e.same e.closed e.reliable (List ℕ) c.in-Err.fault c.refusal_of.result fault
    c.refusal_of.ensures e.gave e.counted e.later
