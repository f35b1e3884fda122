-- What holds of mismatches, of images, and of counts.
use Rattle.std.specs.Prelude.{◌≡◌, ◌↔◌, List}
use Rattle.arch_disk.specs.Image.{Image}
use Rattle.intervals.specs.declared.interval.Interval.{Interval}
use Rattle.history_items.specs.declared.fills.Fill.{Fill}
use Rattle.history_items.specs.Fills.{base_in}
use Rattle.interval_walks.specs.Counts.{late_intervals}
use Rattle.store_fills.specs.Sound.{base_of_filling}
use Rattle.archive_store.specs.Entries.{FilledArchive}
use Rattle.archive_store.specs.Stands.{IsSoundImage, StandsFilled}
use Rattle.archive_verify.specs.declared.compared_sets.SetDifference.{SetDifference}
use Rattle.archive_verify.specs.Verified.{HoldCurrentFills, IsFirstMismatch}
use Rattle.archive_store.specs.LateFills.{late_in_archive}

-- an archive with a mismatch isn't sound
abbrev pub MismatchIsUnsound : Type 0
MismatchIsUnsound = (filled : FilledArchive) (interval : Interval) (d : SetDifference) →
    IsFirstMismatch filled interval d → HoldCurrentFills filled → ⊥

-- it has one first mismatch
abbrev pub FirstMismatchIsOne : Type 0
FirstMismatchIsOne = (filled : FilledArchive) (a b : Interval) (c d : SetDifference) →
    IsFirstMismatch filled a c → IsFirstMismatch filled b d → (a ≡ b) × (c ≡ d)

-- an image of an archive is sound exactly where each fill that stands for an interval holds what its rows give
abbrev pub SoundImageHoldsRows : Type 0
SoundImageHoldsRows = (image : Image) (filled : FilledArchive) → StandsFilled image filled →
    HoldCurrentFills filled ↔ IsSoundImage image

-- the late intervals by a fill list that tells the bases of an archive's fills are those of the archive
abbrev pub LateByFillings : Type 0
LateByFillings = (filled : FilledArchive) (fills : List Fill) →
    ((i : Interval) → base_in i fills ≡ base_of_filling filled.fillings i) →
    late_intervals filled.plain.exponent filled.plain.history fills ≡ late_in_archive filled
