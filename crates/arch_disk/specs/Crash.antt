-- What a crash of one kind leaves of a disk in memory.
use Rattle.std.specs.Prelude.{ℕ, ◌-◌, List, [], ◌∷◌, ◌++◌, length, take, drop, replicate, if◌then◌else◌, ◌==◌}
use Rattle.arch_disk.specs.declared.crash.Unsynced.{Unsynced}
use Rattle.arch_disk.specs.declared.crash.Unsynced.TheVariants.{Before, Written, Zeros, Ones}
use Rattle.arch_disk.specs.declared.crash.Length.{Length}
use Rattle.arch_disk.specs.declared.crash.Length.TheVariants.{Old, New}
use Rattle.arch_disk.specs.declared.crash.Crash.{Crash}
use Rattle.arch_disk.specs.declared.call_log.Call.{Call}
use Rattle.arch_disk.specs.declared.call_log.Call.TheVariants.{Wrote, FailedWrite, Cut, FailedCut, Synced}
use Rattle.arch_disk.specs.Image.{Image, overwritten}
use Rattle.arch_disk.specs.CallLog.{reads_of}

-- what stands where these octets were written: where octets stood before, `here` begins with them
abbrev pub filling : Unsynced → List ℕ → List ℕ → List ℕ
filling Before written here = take (length written) here ++ replicate (length written - length here) 0
filling Written written here = written
filling Zeros written here = replicate (length written) 0
filling Ones written here = replicate (length written) 255

-- a file's content at the old or at the new length
abbrev pub at_length : Length → ℕ → List ℕ → List ℕ
at_length Old len content = take len content
at_length New len content = content

-- a file after a write that isn't synced
abbrev pub written_as : Crash → ℕ → List ℕ → List ℕ → List ℕ
written_as crash at written old = at_length crash.length (length old) (overwritten at (filling crash.unsynced written (drop at old)) old)

-- a file after a cut that isn't synced: the octets past the new end are unsynced ones
abbrev pub cut_as : Crash → ℕ → List ℕ → List ℕ
cut_as crash len old = elim crash.length [ Old ↦ overwritten len (filling crash.unsynced (drop len old) (drop len old)) old | New ↦ take len old ]

-- the image that the crash leaves after these calls, the newest first
abbrev pub crash_of : Crash → List Call → Image
crash_of crash [] f = []
crash_of crash (Wrote w ∷ past) f = if f == w.file then written_as crash w.at w.octets.items (crash_of crash past f) else crash_of crash past f
crash_of crash (FailedWrite w ∷ past) f = if f == w.file then written_as crash w.at w.octets.items (crash_of crash past f) else crash_of crash past f
crash_of crash (Cut file len ∷ past) f = if f == file then cut_as crash len (crash_of crash past f) else crash_of crash past f
crash_of crash (FailedCut file len ∷ past) f = if f == file then cut_as crash len (crash_of crash past f) else crash_of crash past f
crash_of crash (Synced file ∷ past) f = if f == file then reads_of past f else crash_of crash past f
