use Rattle.std.proofs.Common.{◌∙◌, ◌≤◌, ℕ, List, length, ap, arith, subst, sym}
use Rattle.refusals.specs.declared.refusal.Which.TheVariants.{SheetOctets}
use Rattle.refusals.specs.Limits.{limit_of}
use Rattle.outer_traits.specs.Whole.{IsInputFault}
use Rattle.command_plans.specs.Inputs.{WasRead}
use Rattle.command_plans.proofs.Whole.{not_read, was_read, without_memory}
use Rattle.mdb_sheets.specs.Plans.{sheet_plan}
use Rattle.mdb_sheets.specs.Sheets.{Fields, sheet_of}
use Rattle.mdb_sheets.proofs.sheet.read_sheet.Goals as goal

pub returns-in-Ok-records-clause-read : goal.returns-in-Ok-records-clause-read
returns-in-Ok-records-clause-read g c =
    let files = (g.I.Inputs.state c.args.inputs.now).files in
    let old = g.I.Inputs.state c.args.inputs.now in
    let now = c.read_input.new.inputs in
    let new = g.I.Inputs.state now in
    let e = c.in-Ok.ensures in
    let name = c.args.name.now in
    let len = c.as_slice.ensures.len in
    let items = ap (λ (octets : List ℕ). length octets) c.as_slice.ensures.value in
    let short : length c.in-Ok.octets.items ≤ limit_of SheetOctets = omega (arith, e.short, len, items, c.limit.ensures) in
    subst (λ (sheet : List Fields). WasRead (sheet_plan files name) sheet 1 old new) (sym (c.in-Ok-records.ensures ∙ ap (λ (octets : List ℕ). sheet_of octets) c.as_slice.ensures.value))
    (was_read files SheetOctets (λ octets. sheet_of octets) name old new e.same e.closed e.reliable c.in-Ok.octets.items e.whole short e.gave e.counted)

pub returns-in-Ok-clause-read : goal.returns-in-Ok-clause-read
returns-in-Ok-clause-read g c =
    let files = (g.I.Inputs.state c.args.inputs.now).files in
    let old = g.I.Inputs.state c.args.inputs.now in
    let now = c.read_input.new.inputs in
    let new = g.I.Inputs.state now in
    let e = c.in-Ok.ensures in
    without_memory files SheetOctets (λ octets. sheet_of octets) c.args.name.now old new e.same e.closed e.reliable c.in-Ok.octets.items e.whole e.gave e.counted

pub returns-clause-read : goal.returns-clause-read
returns-clause-read g c =
    let files = (g.I.Inputs.state c.args.inputs.now).files in
    let old = g.I.Inputs.state c.args.inputs.now in
    let now = c.read_input.new.inputs in
    let new = g.I.Inputs.state now in
    let e = c.in-Err.ensures in
    let name = c.args.name.now in
    let fault = subst (λ (n : ℕ). IsInputFault files name n (g.I.Inputs.state c.args.inputs.now).faults (g.I.Inputs.state now).faults c.in-Err.fault) c.limit.ensures e.fault in
    not_read files SheetOctets (λ octets. sheet_of octets) name old new e.same e.closed e.reliable (List ℕ) c.in-Err.fault c.refusal_of.result fault
    c.refusal_of.ensures e.gave e.counted e.later
