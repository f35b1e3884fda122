use Rattle.std.proofs.Common.{◌≡◌, ◌++◌, take}
use Rattle.std.specs.Prelude.{map}
use Rattle.ssql_select.specs.declared.show.ShowLine.TheVariants.{Histogram}
use Rattle.script_answers.proofs.statements.add_spans.Given as goal

abbrev pub invariant-loop-span : goal.invariant-loop-span
invariant-loop-span l = l.lines.items ≡ l.initial.lines.items ++ map (Histogram l.pname) (take l.span-index l.spans)
