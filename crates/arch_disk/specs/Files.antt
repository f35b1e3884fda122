-- What a list of files in memory holds.
use Rattle.std.specs.Prelude.{◌≡◌, ◌≢◌, ◌<◌, ℕ, zero, suc, List, [], ◌∷◌, length, get_or, if◌then◌else◌, ◌==◌}
use Rattle.arch_disk.specs.Image.{Image}
use Rattle.arch_disk.specs.declared.files.File.{File}
use Rattle.arch_disk.specs.declared.files.Files.{Files}

-- the octets of the first file of that number; a file that isn't there is empty
abbrev pub content_of : List File → Image
content_of [] f = []
content_of (file ∷ files) f = if f == file.number then file.octets.items else content_of files f

-- what files hold, as an image: the octets of each by its number
abbrev pub image_in : Files → Image
image_in files = content_of files.list.items

-- none of the first i files has that number
abbrev pub AreOthers : List File → ℕ → ℕ → Type 0
AreOthers files number zero = Unit {0}
AreOthers [] number (suc i) = Unit {0}
AreOthers (file ∷ files) number (suc i) = (file.number ≢ number) × AreOthers files number i

-- the first file of that number stands at i
abbrev pub IsFirstAt : List File → ℕ → ℕ → Type 0
IsFirstAt files number i = (i < length files) × ((d : File) → (get_or files i d).number ≡ number) × AreOthers files number i
