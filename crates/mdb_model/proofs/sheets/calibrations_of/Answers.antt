use Rattle.std.proofs.Common.{◌≡◌, ◌∙◌, ◌+◌, ◌-◌, ◌<◌, ◌≤◌, ℕ, List, Option, Some, None, Ok, length, map, drop, take, ap, sym, arith}
use Rattle.std.specs.Prelude.{option_map}
use Rattle.std.proofs.lemmas.List.{length-drop, take_all}
use Rattle.mdb_items.specs.declared.fault.MdbSheet.TheVariants as sheet
use Rattle.mdb_items.specs.CalibrationRows.{calibration_fault, calibration_fault_at, calibrations_of}
use Rattle.mdb_model.specs.Sheets.{read_calibration}
use Rattle.mdb_items.specs.Texts.{Text}
use Rattle.mdb_items.proofs.Ends.{length-mapped}
use Rattle.mdb_model.proofs.SheetLoops.{below_header, below_header_next, calibration_here, calibration_more, found, sound_all, sound_more}
use Rattle.mdb_model.proofs.sheets.calibrations_of.Goals as goal

pub returns-in-Some : goal.returns-in-Some
returns-in-Some c =
    let whole = c.args.sheet.now in
    let records = drop 1 whole in
    let place = c.loop-place.place in
    let i = place - 1 in
    let up : 1 ≤ place = omega arith in
    let row = c.record-fields.result in
    let lt : i < length records = omega (arith, length-drop 1 whole) in
    let at = below_header whole place up ∙ c.record-fields.ensures in
    let items = c.loop-place.calibrations.items.items in
    let fact = sym c.in-Some.is ∙ c.in_ok-rule.ensures.fault ∙ ap (λ (o : Option (List Text)). calibration_fault items (Some (read_calibration row)) (option_map read_calibration o)) (c.record_at-next.ensures ∙ sym (below_header_next whole place up)) in
    let here = calibration_here records i row items (Some c.in-Some.rule) at c.loop-place.invariant.items fact in
    found sheet.Calibrations (calibration_fault_at (map read_calibration records)) (length (map read_calibration records)) i (place + 1) c.in-Some.rule (omega (arith, length-mapped read_calibration records)) (omega arith) c.loop-place.invariant.sound here

pub loop-place-preserved : goal.loop-place-preserved
loop-place-preserved c =
    let whole = c.args.sheet.now in
    let records = drop 1 whole in
    let place = c.loop-place.place in
    let i = place - 1 in
    let up : 1 ≤ place = omega arith in
    let row = c.record-fields.result in
    let lt : i < length records = omega (arith, length-drop 1 whole) in
    let at = below_header whole place up ∙ c.record-fields.ensures in
    let items = c.loop-place.calibrations.items.items in
    let fact = sym c.in_default.is ∙ c.in_ok-rule.ensures.fault ∙ ap (λ (o : Option (List Text)). calibration_fault items (Some (read_calibration row)) (option_map read_calibration o)) (c.record_at-next.ensures ∙ sym (below_header_next whole place up)) in
    let here = calibration_here records i row items None at c.loop-place.invariant.items fact in
    let same : place + 1 - 1 ≡ i + 1 = omega arith in
    rw same (record {
      step = c.in_ok-rule.ensures.step (ap (λ (o : Option ℕ). Ok o) c.in_default.is);
      items = c.in_ok-rule.ensures.added (ap (λ (o : Option ℕ). Ok o) c.in_default.is) ∙ calibration_more records i row items at c.loop-place.invariant.items;
      sound = sound_more (calibration_fault_at (map read_calibration records)) i c.loop-place.invariant.sound here;
    })

pub returns : goal.returns
returns c =
    let whole = c.args.sheet.now in
    let records = drop 1 whole in
    let rows = map read_calibration records in
    let all : take (c.loop-place.place - 1) records ≡ records = take_all (c.loop-place.place - 1) records (omega (arith, length-drop 1 whole)) in
    let len = length-mapped read_calibration records in (
      sound_all sheet.Calibrations (calibration_fault_at rows) (length rows) (λ j lt. c.loop-place.invariant.sound j (omega (arith, length-drop 1 whole))),
      c.loop-place.invariant.items ∙ ap (λ (xs : List (List Text)). calibrations_of (map read_calibration xs)) all,
      c.loop-place.invariant.step,
    )
