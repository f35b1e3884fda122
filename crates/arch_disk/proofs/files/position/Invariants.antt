use Rattle.arch_disk.specs.Files.{AreOthers}
use Rattle.arch_disk.proofs.files.position.Given as goal

abbrev pub invariant-loop-i : goal.invariant-loop-i
invariant-loop-i l = AreOthers l.files l.number l.i
