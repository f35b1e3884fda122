-- What a disk in memory reads as, and what a crash of it may leave, by the list of its calls, the newest first.
use Rattle.std.specs.Prelude.{◌≡◌, ◌⊎◌, ℕ, ◌-◌, ◌≤◌, List, [], ◌∷◌, length, take, drop, if◌then◌else◌, ◌==◌}
use Rattle.arch_disk.specs.declared.call_log.Call.{Call}
use Rattle.arch_disk.specs.declared.call_log.Call.TheVariants.{Wrote, FailedWrite, Cut, FailedCut, Synced}
use Rattle.arch_disk.specs.Image.{Image, Torn, Shortened, InFile, overwritten}

-- what the files read as
abbrev pub reads_of : List Call → Image
reads_of [] f = []
reads_of (Wrote w ∷ past) f = if f == w.file then overwritten w.at w.octets.items (reads_of past f) else reads_of past f
reads_of (FailedWrite w ∷ past) f = reads_of past f
reads_of (Cut file len ∷ past) f = if f == file then take len (reads_of past f) else reads_of past f
reads_of (FailedCut file len ∷ past) f = reads_of past f
reads_of (Synced file ∷ past) f = reads_of past f

-- the images that a crash may leave after these calls
abbrev pub images_of : List Call → Image → Type 0
images_of [] c = (f : ℕ) → c f ≡ []
images_of (Wrote w ∷ past) c = (d : Image) × images_of past d × InFile (Torn w.at (length w.octets.items)) w.file d c
images_of (FailedWrite w ∷ past) c = (d : Image) × images_of past d × InFile (Torn w.at (length w.octets.items)) w.file d c
images_of (Cut file len ∷ past) c = (d : Image) × images_of past d × InFile (Shortened len) file d c
images_of (FailedCut file len ∷ past) c = (d : Image) × images_of past d × InFile (Shortened len) file d c
images_of (Synced file ∷ past) c = images_of past c × (c file ≡ reads_of past file)

-- the images of a moment after the first t calls or later
abbrev pub since_of : List Call → ℕ → Image → Type 0
since_of [] t c = images_of [] c
since_of (call ∷ past) t c = images_of (call ∷ past) c ⊎ ((t ≤ length past) × since_of past t c)

-- the first t of these calls
abbrev pub first_calls : ℕ → List Call → List Call
first_calls t calls = drop (length calls - t) calls

-- the files read as this image, and a crash leaves no other
pub record HoldsOnly (calls : List Call) (image : Image) : Type 0 where
  pub reads : (f : ℕ) → reads_of calls f ≡ image f
  pub durable : (c : Image) → images_of calls c → (f : ℕ) → c f ≡ image f
