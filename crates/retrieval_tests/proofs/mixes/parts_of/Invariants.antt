use Rattle.std.specs.List.{AllByRecursion}
use Rattle.param_segments.specs.Plans.{HasValuesOf}
use Rattle.retrieval_tests.proofs.mixes.parts_of.Given as goal

abbrev pub invariant-loop-bit : goal.invariant-loop-bit
invariant-loop-bit l = AllByRecursion (HasValuesOf l.mdb) l.parts
