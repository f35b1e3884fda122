use Rattle.std.proofs.Common.{◌≡◌, ℕ, take, reverse}
use Rattle.arch_disk.specs.Files.{image_in}
use Rattle.arch_disk.specs.CallLog.{reads_of}
use Rattle.arch_disk.specs.Crash.{crash_of}
use Rattle.arch_disk.proofs.crash.image_after.Given as goal

abbrev pub invariant-loop-call : goal.invariant-loop-call
invariant-loop-call l = record {
  reads : (f : ℕ) → image_in l.reads f ≡ reads_of (reverse (take l.call-index l.calls)) f;
  image : (f : ℕ) → image_in l.image f ≡ crash_of l.crash (reverse (take l.call-index l.calls)) f;
}
