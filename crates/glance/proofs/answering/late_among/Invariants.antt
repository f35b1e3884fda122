use Rattle.std.proofs.Common.{◌≡◌, drop, map}
use Rattle.std.specs.Arc.{arc_value}
use Rattle.glance.specs.Asked.{is_within, late_where}
use Rattle.glance.proofs.answering.late_among.Given as goal

abbrev pub invariant-loop-mark : goal.invariant-loop-mark
invariant-loop-mark l = record {
  rest : late_where (is_within l.span) (map arc_value (drop l.mark-index l.marks)) ≡ late_where (is_within l.span) (map arc_value l.marks);
}
