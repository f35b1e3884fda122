-- What holds of the counts of an image.
use Rattle.std.specs.Prelude.{◌≡◌, ℕ}
use Rattle.arch_disk.specs.Image.{Image}
use Rattle.sealed_journals.specs.Counts.{HasLogRows}

-- the log of an image has one number of rows
abbrev pub LogRowsAreOne : Type 0
LogRowsAreOne = (image : Image) (rows other : ℕ) → HasLogRows image rows → HasLogRows image other → rows ≡ other
