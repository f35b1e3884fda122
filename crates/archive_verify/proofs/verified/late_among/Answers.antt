use Rattle.std.proofs.Common.{◌≡◌, ◌∙◌, ◌+◌, length, take, Bool, Some, get_or, pos, ap, arith}
use Rattle.std.specs.Prelude.{slice_get, filter, if◌then◌else◌}
use Rattle.std.proofs.lemmas.Option.{slice_get-get_or}
use Rattle.intervals.specs.declared.interval.Interval.{Interval}
use Rattle.history_items.specs.Late.{is_late_in}
use Rattle.archive_verify.proofs.Counting.{late_told, passed_more}
use Rattle.archive_verify.proofs.verified.late_among.Goals.{then-is_late, else-is_late}
use Rattle.archive_verify.proofs.verified.late_among.Goals as goal

pub loop-interval-preserved : goal.loop-interval-preserved
loop-interval-preserved g c =
    let store = c.args.store.now in
    let is = c.args.intervals.now in
    let n = c.loop-interval.interval-index in
    let none : Interval = record { 0 = pos 0 } in
    let x = get_or is n none in
    let late = λ (i : Interval). is_late_in store.exponent i store.history store.fills in
    let at : slice_get is n ≡ Some x = slice_get-get_or is n none c.loop-interval-test.true in
    let told = late_told store.exponent c.is_late.result x store.history store.fills c.is_late.ensures in
    let counted = c.loop-interval.invariant.counted in
    let few = c.loop-interval.invariant.few in
    let more = λ (b : Bool). length (filter late (take n is)) + (if b then 1 else 0) in
    elim c.if-is_late.branch [
      | then-is_late w ↦
          let next = passed_more late n is x at ∙ ap more (told ∙ w.if-is_late.true) in
          record { counted = omega (arith, w.late-is, counted, next); few = omega (arith, w.late-is, few) }
      | else-is_late w ↦
          let next = passed_more late n is x at ∙ ap more (told ∙ w.if-is_late.false) in
          record { counted = omega (arith, w.late-is, counted, next); few = omega (arith, w.late-is, few) }
    ]
