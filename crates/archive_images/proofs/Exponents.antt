-- The exponent of what the entries of a journal make.
use Rattle.std.proofs.Common.{◌≡◌, List, [], ◌∷◌, Option, None, Some, sym, ◌∙◌, ap, subst}
use Rattle.arch_disk.specs.Image.{Image}
use Rattle.field_codec.specs.declared.entry.Entry.{Entry}
use Rattle.field_codec.specs.declared.entry.Entry.TheVariants as entries
use Rattle.intervals.specs.Interval.{format_1_exponent}
use Rattle.archive_images.specs.Entries.{Archive, Applies, FilledArchive, Replays}
use Rattle.archive_images.specs.Stands.{StandsFor}

-- the exponent is that of format 1, if there is an archive
abbrev IsOfFormat1 : Option FilledArchive → Type 0
IsOfFormat1 None = Unit {0}
IsOfFormat1 (Some filled) = filled.plain.exponent ≡ format_1_exponent

applied : (old : Option FilledArchive) (entry : Entry) (new : FilledArchive) → IsOfFormat1 old → Applies old entry new → IsOfFormat1 (Some new)
applied None (entries.Head tables mdb) new is applies = ap (λ (a : FilledArchive). a.plain.exponent) applies.1
applied None (entries.Rows rows) new is applies = absurd applies
applied None (entries.Fill interval base octets) new is applies = absurd applies
applied None (entries.Seal seal) new is applies = absurd applies
applied None (entries.LogHead rows) new is applies = absurd applies
applied (Some old) (entries.Head tables mdb) new is applies = absurd applies
applied (Some old) (entries.Rows rows) new is applies = ap (λ (a : FilledArchive). a.plain.exponent) applies.1 ∙ is
applied (Some old) (entries.Fill interval base octets) new is applies = ap (λ (a : FilledArchive). a.plain.exponent) applies.1 ∙ is
applied (Some old) (entries.Seal seal) new is applies = absurd applies
applied (Some old) (entries.LogHead rows) new is applies = absurd applies

replayed : (old : Option FilledArchive) (es : List Entry) (new : Option FilledArchive) → IsOfFormat1 old → Replays old es new → IsOfFormat1 new
replayed old [] new is replays = subst IsOfFormat1 (sym replays) is
replayed old (e ∷ es) new is replays = replayed (Some replays.0) es new (applied old e replays.0 is replays.1) replays.2

pub stands_format : (image : Image) (archive : Archive) → StandsFor image archive → archive.exponent ≡ format_1_exponent
stands_format image archive stands =
    subst (λ (a : Archive). a.exponent ≡ format_1_exponent) stands.plain_is (replayed None stands.stands.entries (Some stands.filled) tt stands.stands.replays)
