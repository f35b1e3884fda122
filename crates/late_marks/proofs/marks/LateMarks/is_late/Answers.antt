use Rattle.std.proofs.Common.{◌≡◌, false, sym, ◌∙◌, ap}
use Rattle.std.specs.Prelude.{Option}
use Rattle.std.specs.Option.{option_map_or}
use Rattle.late_marks.specs.declared.mark.Mark.{Mark}
use Rattle.late_marks.specs.Mark.{is_late_mark}
use Rattle.late_marks.specs.Marks.{mark_of, is_late}
use Rattle.late_marks.proofs.Positions.{late_by_rows}
use Rattle.late_marks.proofs.marks.LateMarks.is_late.Goals as goal

pub returns-in-Some-clause-rows : goal.returns-in-Some-clause-rows
returns-in-Some-clause-rows c = λ positions stand.
    let known = sym c.in-Some.is ∙ c.mark.ensures in
    let same : c.is_late.result ≡ is_late c.args.self.now c.args.interval = c.is_late.ensures ∙ ap (λ (m : Option Mark). option_map_or is_late_mark m false) known in
    rw same (late_by_rows (mark_of c.args.self.now c.args.interval) positions stand)

pub returns-in-None-clause-rows : goal.returns-in-None-clause-rows
returns-in-None-clause-rows c = λ positions stand.
    let known = sym c.in-None.is ∙ c.mark.ensures in
    let same : false ≡ is_late c.args.self.now c.args.interval = ap (λ (m : Option Mark). option_map_or is_late_mark m false) known in
    rw same (late_by_rows (mark_of c.args.self.now c.args.interval) positions stand)
