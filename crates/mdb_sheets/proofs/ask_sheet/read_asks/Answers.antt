use Rattle.std.proofs.Common.{◌≤◌, inl, inr, ℕ, List, length, ap, arith, subst, sym}
use Rattle.std.specs.Prelude.{Result}
use Rattle.asks.specs.declared.ask.Ask.{Ask}
use Rattle.refusals.specs.declared.refusal.Refusal.{Refusal}
use Rattle.refusals.specs.declared.refusal.Which.TheVariants.{SheetOctets}
use Rattle.refusals.specs.Limits.{limit_of}
use Rattle.outer_traits.specs.Whole.{IsInputFault}
use Rattle.command_plans.specs.Inputs.{AnsweredByPlan}
use Rattle.command_plans.proofs.Whole.{not_read, was_read, without_memory}
use Rattle.mdb_sheets.specs.Asks.{IsAsksResult, asks_of}
use Rattle.mdb_sheets.specs.Plans.{ask_sheet_plan}
use Rattle.mdb_sheets.specs.Sheets.{sheet_of}
use Rattle.mdb_sheets.proofs.AskSheets.{answer_is}
use Rattle.mdb_sheets.proofs.ask_sheet.read_asks.Goals as goal

pub returns-in-Ok : goal.returns-in-Ok
returns-in-Ok g c =
    let files = (g.I.Inputs.state c.args.inputs.now).files in
    let old = g.I.Inputs.state c.args.inputs.now in
    let now = c.read_input.new.inputs in
    let new = g.I.Inputs.state now in
    let e = c.in-Ok.ensures in
    let name = c.args.name.now in
    let octets = c.in-Ok.octets.items in
    let len = c.as_slice.ensures.len in
    let items = ap (λ (octets : List ℕ). length octets) c.as_slice.ensures.value in
    let short : length octets ≤ limit_of SheetOctets = omega (arith, e.short, len, items, c.limit.ensures) in
    let made = subst (λ (o : List ℕ). IsAsksResult (sheet_of o) c.asks_in.result) c.as_slice.ensures.value c.asks_in.ensures in
    record {
      read = elim (answer_is octets c.asks_in.result c.sheet_asks.result made c.sheet_asks.ensures) [
        | inl memory ↦ subst (λ (answer : Result (Result (List Ask) Refusal) Refusal). AnsweredByPlan 1 (ask_sheet_plan files name) answer old new) (sym memory)
            (without_memory files SheetOctets (λ octets. asks_of octets) name old new e.same e.closed e.reliable octets e.whole e.gave e.counted)
        | inr said ↦ subst (λ (answer : Result (Result (List Ask) Refusal) Refusal). AnsweredByPlan 1 (ask_sheet_plan files name) answer old new) (sym said)
            (was_read files SheetOctets (λ octets. asks_of octets) name old new e.same e.closed e.reliable octets e.whole short e.gave e.counted)
      ];
    }

pub returns-in-Err : goal.returns-in-Err
returns-in-Err g c =
    let files = (g.I.Inputs.state c.args.inputs.now).files in
    let old = g.I.Inputs.state c.args.inputs.now in
    let now = c.read_input.new.inputs in
    let new = g.I.Inputs.state now in
    let e = c.in-Err.ensures in
    let name = c.args.name.now in
    let fault = subst (λ (n : ℕ). IsInputFault files name n (g.I.Inputs.state c.args.inputs.now).faults (g.I.Inputs.state now).faults c.in-Err.fault) c.limit.ensures e.fault in
    record {
      read = not_read files SheetOctets (λ octets. asks_of octets) name old new e.same e.closed e.reliable (List ℕ) c.in-Err.fault c.refusal_of.result fault
          c.refusal_of.ensures e.gave e.counted e.later;
    }
