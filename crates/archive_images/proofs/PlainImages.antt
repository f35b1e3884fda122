-- Images without seals, as file 0 and in the general form.
use Rattle.std.proofs.Common.{ℕ, List, [], ◌++◌, map, Option, Some, None, refl, subst}
use Rattle.arch_disk.specs.Image.{Image}
use Rattle.disk_journal.specs.Format.{HasRecords}
use Rattle.field_codec.specs.Spelling.{entry_octets}
use Rattle.archive_images.specs.Entries.{FilledArchive, Applies, Replays}
use Rattle.archive_images.specs.Images.{IsSaidByLowerFiles, StandsOver, IsPlainLog}
use Rattle.archive_images.specs.Stands.{StandsFilled, StandsFor}

-- the form over one file
abbrev pub StandsPlain : Image → FilledArchive → Type 0
StandsPlain c a = StandsOver entry_octets Applies IsPlainLog c a

-- the base of a plain log is said by no other file
pub plain_lower : IsSaidByLowerFiles {A = FilledArchive} IsPlainLog
plain_lower = λ c d log beginning base same has_base. has_base

-- an image stands for an archive in either form
pub stands_over : (c : Image) (a : FilledArchive) → StandsFilled c a → StandsPlain c a
stands_over c a s = record { log = 0; beginning = []; base = None; entries = s.entries; has_base = (refl, refl, refl); has = s.has; replays = s.replays }

pub stands_filled : (c : Image) (a : FilledArchive) → StandsPlain c a → StandsFilled c a
stands_filled c a s = record {
  entries = s.entries;
  has = subst (λ (l : List (List ℕ)). HasRecords (c 0) (l ++ map entry_octets s.entries)) s.has_base.1 (subst (λ (f : ℕ). HasRecords (c f) (s.beginning ++ map entry_octets s.entries)) s.has_base.0 s.has);
  replays = subst (λ (o : Option FilledArchive). Replays o s.entries (Some a)) s.has_base.2 s.replays;
}

-- whatever its fills are
pub stands_unfilled : (c : Image) (a : FilledArchive) → StandsFilled c a → StandsFor c a.plain
stands_unfilled c a s = record { filled = a; plain_is = refl; stands = s }

pub stands_for : (c : Image) (a : FilledArchive) → StandsPlain c a → StandsFor c a.plain
stands_for c a s = stands_unfilled c a (stands_filled c a s)
