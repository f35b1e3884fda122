use Rattle.std.proofs.Common.{◌≡◌, ◌++◌, drop}
use Rattle.std.specs.Prelude.{map}
use Rattle.std.specs.Arc.{arc_value}
use Rattle.glance.specs.Asked.{is_within, seen_part, sets_where}
use Rattle.glance.proofs.answering.add_parts.Given as goal

abbrev pub invariant-loop-mark : goal.invariant-loop-mark
invariant-loop-mark l = record {
  rest : map seen_part l.parts.items ++ sets_where (is_within l.span) (map arc_value (drop l.mark-index l.marks))
      ≡ map seen_part l.fn.parts.items ++ sets_where (is_within l.span) (map arc_value l.marks);
}
