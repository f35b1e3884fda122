-- Laws of the log of calls of a disk in memory.
use Rattle.std.proofs.Common.{inl, inr, ℕ, ◌^◌, ◌<◌, ◌≤◌, List, [], ◌∷◌, length, take, refl, arith}
use Rattle.std.specs.Prelude.{IsTrue, Bool, true, false, if◌then◌else◌, ◌==◌}
use Rattle.std.proofs.lemmas.List.{length-take}
use Rattle.arch_disk.specs.declared.call_log.Call.{Call}
use Rattle.arch_disk.specs.declared.call_log.Call.TheVariants.{Wrote, FailedWrite, Cut, FailedCut, Synced}
use Rattle.arch_disk.specs.Image.{Image, Torn, Shortened, overwritten}
use Rattle.arch_disk.specs.CallLog.{reads_of, images_of, since_of}
use Rattle.arch_disk.specs.Steps.{torn_done, cut_done, torn_still, cut_still, in_file}

pub now_counts : (calls : List Call) (t : ℕ) (c : Image) → images_of calls c → since_of calls t c
now_counts [] t c now = now
now_counts (call ∷ past) t c now = inl now

pub only_now : (calls : List Call) (c : Image) → since_of calls (length calls) c → images_of calls c
only_now [] c left = left
only_now (call ∷ past) c (inl now) = now
only_now (call ∷ past) c (inr earlier) = absurd (omega (arith, earlier.0))

-- a disk as it reads is one of its images
pub reads_as_image : (calls : List Call) → images_of calls (reads_of calls)
reads_as_image [] = λ f. refl
reads_as_image (Wrote w ∷ past) = (reads_of past, reads_as_image past, in_file (Torn w.at (length w.octets.items)) w.file (overwritten w.at w.octets.items) (reads_of past) (torn_done w.at w.octets.items (reads_of past w.file)))
reads_as_image (FailedWrite w ∷ past) = (reads_of past, reads_as_image past, torn_still w.at (length w.octets.items) w.file (reads_of past))
reads_as_image (Cut file len ∷ past) = (reads_of past, reads_as_image past, in_file (Shortened len) file (take len) (reads_of past) (cut_done len (reads_of past file)))
reads_as_image (FailedCut file len ∷ past) = (reads_of past, reads_as_image past, cut_still len file (reads_of past))
reads_as_image (Synced file ∷ past) = (reads_as_image past, refl)

-- one of two lists, each within a bound
one_of : (b : Bool) (x y : List ℕ) (n : ℕ) → length x ≤ n → length y ≤ n → length (if b then x else y) ≤ n
one_of true x y n p q = p
one_of false x y n p q = q

short : (calls : List Call) (f : ℕ) → length (reads_of calls f) ≤ 2 ^ 62
short [] f = omega arith
short (Wrote w ∷ past) f = one_of (f == w.file) (overwritten w.at w.octets.items (reads_of past f)) (reads_of past f) (2 ^ 62) (omega (arith, (torn_done w.at w.octets.items (reads_of past f)).no_longer, short past f, w.short)) (short past f)
short (FailedWrite w ∷ past) f = short past f
short (Cut file len ∷ past) f = one_of (f == file) (take len (reads_of past f)) (reads_of past f) (2 ^ 62) (omega (arith, length-take len (reads_of past f), short past f)) (short past f)
short (FailedCut file len ∷ past) f = short past f
short (Synced file ∷ past) f = short past f

pub lengths_fit : (calls : List Call) (f : ℕ) → length (reads_of calls f) < 2 ^ 64
lengths_fit calls f = omega (arith, short calls f)

-- an opaque disk
pub from_opaque : {P : Type 0} → IsTrue false → P
from_opaque transparent = cc
