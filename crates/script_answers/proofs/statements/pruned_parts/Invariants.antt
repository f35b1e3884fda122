use Rattle.std.proofs.Common.{take}
use Rattle.script_answers.specs.Statements.{AreSourceParts}
use Rattle.script_answers.proofs.statements.pruned_parts.Given as goal

abbrev pub invariant-loop-table : goal.invariant-loop-table
invariant-loop-table g l = AreSourceParts l.store.history l.bounds (take l.table-index l.tables) l.parts.items
