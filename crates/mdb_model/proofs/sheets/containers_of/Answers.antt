use Rattle.std.proofs.Common.{◌≡◌, ◌∙◌, ◌+◌, ◌-◌, ◌<◌, ◌≤◌, ℕ, [], Option, Some, None, Ok, length, drop, take, ap, sym, arith}
use Rattle.std.proofs.lemmas.List.{length-drop, take_all}
use Rattle.mdb_items.specs.declared.fault.MdbSheet.TheVariants as sheet
use Rattle.mdb_items.specs.ContainerRows.{container_fault_at, containers_of}
use Rattle.mdb_model.specs.Sheets.{read_containers}
use Rattle.mdb_model.proofs.SheetLoops.{below_header, container_here, container_more, containers_fault_is, found, length-read_containers, sound_all, sound_more}
use Rattle.mdb_rules.proofs.TotalsSteps.{in_path_at_first}
use Rattle.mdb_model.proofs.sheets.containers_of.Goals as goal

pub loop-place-init : goal.loop-place-init
loop-place-init c = record {
  path = in_path_at_first c.args.parameters.now.items.items c.new-containers.result c.new-containers.ensures.none c.new-containers.ensures.names c.new-containers.ensures.all_totals;
  items = c.new-containers.ensures.none;
  sound = λ j lt. absurd (omega arith);
}

pub returns-in-Some : goal.returns-in-Some
returns-in-Some c =
    let whole = c.args.sheet.now in
    let records = drop 1 whole in
    let ps = c.args.parameters.now.items.items in
    let rows = read_containers ps [] records in
    let place = c.loop-place.place in
    let i = place - 1 in
    let up : 1 ≤ place = omega arith in
    let row = c.record-fields.result in
    let lt : i < length records = omega (arith, length-drop 1 whole) in
    let at = below_header whole place up ∙ c.record-fields.ensures in
    let len = length-read_containers ps [] records in
    let here = container_here ps records i row c.loop-place.containers.items.items (Some c.in-Some.rule) at c.loop-place.invariant.items (sym c.in-Some.is ∙ c.in_ok-rule.ensures.fault) in
    containers_fault_is ps rows (omega arith) ∙ found sheet.Containers (container_fault_at ps rows) (length rows) i (place + 1) c.in-Some.rule (omega arith) (omega arith) c.loop-place.invariant.sound here

pub loop-place-preserved : goal.loop-place-preserved
loop-place-preserved c =
    let whole = c.args.sheet.now in
    let records = drop 1 whole in
    let ps = c.args.parameters.now.items.items in
    let place = c.loop-place.place in
    let i = place - 1 in
    let up : 1 ≤ place = omega arith in
    let row = c.record-fields.result in
    let lt : i < length records = omega (arith, length-drop 1 whole) in
    let at = below_header whole place up ∙ c.record-fields.ensures in
    let items = c.loop-place.containers.items.items in
    let here = container_here ps records i row items None at c.loop-place.invariant.items (sym c.in_default.is ∙ c.in_ok-rule.ensures.fault) in
    let same : place + 1 - 1 ≡ i + 1 = omega arith in
    rw same (record {
      path = c.in_ok-rule.ensures.path (ap (λ (o : Option ℕ). Ok o) c.in_default.is);
      items = c.in_ok-rule.ensures.added (ap (λ (o : Option ℕ). Ok o) c.in_default.is) ∙ container_more ps records i row items at c.loop-place.invariant.items;
      sound = sound_more (container_fault_at ps (read_containers ps [] records)) i c.loop-place.invariant.sound here;
    })

pub returns : goal.returns
returns c =
    let whole = c.args.sheet.now in
    let records = drop 1 whole in
    let ps = c.args.parameters.now.items.items in
    let rows = read_containers ps [] records in
    let len = length-read_containers ps [] records in
    let below = length-drop 1 whole in
    let all : take (c.loop-place.place - 1) rows ≡ rows = take_all (c.loop-place.place - 1) rows (omega arith) in (
      containers_fault_is ps rows (omega arith) ∙ sound_all sheet.Containers (container_fault_at ps rows) (length rows) (λ j lt. c.loop-place.invariant.sound j (omega (arith, length-drop 1 whole))),
      c.loop-place.invariant.items ∙ ap containers_of all,
      c.loop-place.invariant.path,
    )
