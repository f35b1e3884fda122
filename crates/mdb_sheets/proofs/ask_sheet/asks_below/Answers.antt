use Rattle.std.proofs.Common.{◌≡◌, ◌∙◌, ◌+◌, ◌-◌, ◌≤◌, drop, length, map, refl, ap, arith}
use Rattle.std.proofs.lemmas.List.{length-drop, take_all}
use Rattle.mdb_model.proofs.SheetLoops.{below_header}
use Rattle.mdb_sheets.specs.Asks.{ask_of}
use Rattle.mdb_sheets.proofs.AskRows.{broken_row, more_asks, no_row, sound_row}
use Rattle.mdb_sheets.proofs.ask_sheet.asks_below.Goals as goal

pub returns-in-Err-Broken : goal.returns-in-Err-Broken
returns-in-Err-Broken c =
    let whole = c.args.sheet.now in
    let place = c.loop-place.place in
    let up : 1 ≤ place = omega arith in
    let at = below_header whole place up ∙ c.record.ensures in
    let here = rw c.in-Err-Broken.field-0-is at c.in-Err-Broken.ensures in
    let there = c.loop-place.invariant.fault ∙ broken_row (drop 1 whole) (place - 1) (place + 1) c.in-Err-Broken.rule c.record.result at here in
    let same = c.in-Err-Broken.rule-is in
    rw c.broken.ensures (refl, cc)

pub loop-place-preserved : goal.loop-place-preserved
loop-place-preserved c =
    let whole = c.args.sheet.now in
    let rows = drop 1 whole in
    let place = c.loop-place.place in
    let i = place - 1 in
    let up : 1 ≤ place = omega arith in
    let row = c.record.result in
    let at = below_header whole place up ∙ c.record.ensures in
    let same : place + 1 - 1 ≡ i + 1 = omega arith in
    rw same (record {
      asks = more_asks rows i row c.in-Ok.ask c.loop-place.asks c.push.new.self at c.loop-place.invariant.asks c.in-Ok.ensures.1 c.in_ok-push-in-Ok.ensures.ok;
      fault = c.loop-place.invariant.fault ∙ sound_row rows i (i + 1) (place + 1) (place + 1 + 1) row at c.in-Ok.ensures.0 (omega arith) (omega arith);
    })

pub returns : goal.returns
returns c =
    let whole = c.args.sheet.now in
    let rows = drop 1 whole in
    let i = c.loop-place.place - 1 in
    let end : length rows ≤ i = omega (arith, length-drop 1 whole) in (
      c.loop-place.invariant.fault ∙ no_row rows i (c.loop-place.place + 1) end,
      c.loop-place.invariant.asks ∙ ap (map ask_of) (take_all i rows end),
    )
