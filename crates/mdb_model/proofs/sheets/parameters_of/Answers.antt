use Rattle.std.proofs.Common.{◌≡◌, ◌∙◌, ◌+◌, ◌-◌, ◌<◌, ◌≤◌, ℕ, List, Option, Some, None, Ok, length, map, drop, take, ap, sym, arith}
use Rattle.std.proofs.lemmas.List.{length-drop, take_all}
use Rattle.mdb_items.specs.declared.fault.MdbSheet.TheVariants as sheet
use Rattle.mdb_items.specs.ParameterRows.{parameter_fault_at, parameters_of}
use Rattle.mdb_model.specs.Sheets.{read_parameter}
use Rattle.mdb_items.specs.Texts.{Text}
use Rattle.mdb_items.proofs.Ends.{length-mapped}
use Rattle.mdb_model.proofs.SheetLoops.{below_header, found, parameter_here, parameter_more, sound_all, sound_more}
use Rattle.mdb_model.proofs.sheets.parameters_of.Goals as goal

pub returns-in-Some : goal.returns-in-Some
returns-in-Some c =
    let whole = c.args.sheet.now in
    let records = drop 1 whole in
    let cs = c.args.calibrations.now.items.items in
    let names = c.args.calibrations.now.names in
    let place = c.loop-place.place in
    let i = place - 1 in
    let up : 1 ≤ place = omega arith in
    let row = c.record-fields.result in
    let lt : i < length records = omega (arith, length-drop 1 whole) in
    let at = below_header whole place up ∙ c.record-fields.ensures in
    let here = parameter_here cs names records i row c.loop-place.parameters.items.items (Some c.in-Some.rule) at c.loop-place.invariant.items (sym c.in-Some.is ∙ c.in_ok-rule.ensures.fault) in
    let rows = map (read_parameter names) records in
    found sheet.Parameters (parameter_fault_at cs rows) (length rows) i (place + 1) c.in-Some.rule (omega (arith, length-mapped (read_parameter names) records)) (omega arith) c.loop-place.invariant.sound here

pub loop-place-preserved : goal.loop-place-preserved
loop-place-preserved c =
    let whole = c.args.sheet.now in
    let records = drop 1 whole in
    let cs = c.args.calibrations.now.items.items in
    let names = c.args.calibrations.now.names in
    let place = c.loop-place.place in
    let i = place - 1 in
    let up : 1 ≤ place = omega arith in
    let row = c.record-fields.result in
    let lt : i < length records = omega (arith, length-drop 1 whole) in
    let at = below_header whole place up ∙ c.record-fields.ensures in
    let items = c.loop-place.parameters.items.items in
    let here = parameter_here cs names records i row items None at c.loop-place.invariant.items (sym c.in_default.is ∙ c.in_ok-rule.ensures.fault) in
    let same : place + 1 - 1 ≡ i + 1 = omega arith in
    rw same (record {
      names = c.in_ok-rule.ensures.names (ap (λ (o : Option ℕ). Ok o) c.in_default.is);
      items = c.in_ok-rule.ensures.added (ap (λ (o : Option ℕ). Ok o) c.in_default.is) ∙ parameter_more names records i row items at c.loop-place.invariant.items;
      sound = sound_more (parameter_fault_at cs (map (read_parameter names) records)) i c.loop-place.invariant.sound here;
    })

pub returns : goal.returns
returns c =
    let whole = c.args.sheet.now in
    let records = drop 1 whole in
    let cs = c.args.calibrations.now.items.items in
    let f = read_parameter c.args.calibrations.now.names in
    let all : take (c.loop-place.place - 1) records ≡ records = take_all (c.loop-place.place - 1) records (omega (arith, length-drop 1 whole)) in
    let len = length-mapped f records in (
      sound_all sheet.Parameters (parameter_fault_at cs (map f records)) (length (map f records)) (λ j lt. c.loop-place.invariant.sound j (omega (arith, length-drop 1 whole))),
      c.loop-place.invariant.items ∙ ap (λ (xs : List (List Text)). parameters_of (map f xs)) all,
      c.loop-place.invariant.names,
    )
