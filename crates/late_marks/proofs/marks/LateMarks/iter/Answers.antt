use Rattle.std.proofs.Common.{◌∙◌, ap}
use Rattle.intervals.proofs.Ranks.{interval_cmp_total, exact_intervals}
use Rattle.block_map.proofs.KeyedLists.{contained_iff}
use Rattle.late_marks.specs.Marks.{Marks}
use Rattle.late_marks.proofs.marks.LateMarks.iter.Goals as goal

pub returns-clause-each : goal.returns-clause-each
returns-clause-each c = λ i m.
    let same = c.iter.ensures.entries ∙ ap (λ (k : Marks). k.marks) c.self.view_is in
    rw same (contained_iff interval_cmp_total exact_intervals i m c.args.self.now.marks (rw same at c.iter.ensures.rising))
