use Rattle.std.proofs.Common.{◌≡◌, drop, map}
use Rattle.std.specs.Ordering.{nat_cmp}
use Rattle.std.specs.Cmp.Lexicographic.{slice_cmp}
use Rattle.std.specs.FinMap.{find}
use Rattle.outer_traits.specs.MemInputs.{entry_of}
use Rattle.outer_traits.proofs.mem_inputs.find_file.Given as goal

-- none of the files before has the name
abbrev pub invariant-loop-i : goal.invariant-loop-i
invariant-loop-i l = find (slice_cmp nat_cmp) l.name (map entry_of (drop l.i l.files)) ≡ find (slice_cmp nat_cmp) l.name (map entry_of l.files)
