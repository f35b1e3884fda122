-- How many rows and records the journals of an image have that stands for an archive, and which fills an opening reads.
use mathlib.Core.Logic.{inl, inr}
use Rattle.std.specs.Prelude.{◌≡◌, ℕ, ◌+◌, List, [], ◌++◌, length, map, Option}
use Rattle.std.specs.List.{flat_map}
use Rattle.arch_disk.specs.Image.{Image}
use Rattle.disk_journal.specs.Format.{HasRecords}
use Rattle.field_codec.specs.declared.entry.Entry.{Entry}
use Rattle.seal_codec.specs.declared.seal.Seal.{Seal}
use Rattle.history_items.specs.declared.fills.Fill.{Fill}
use Rattle.archive_images.specs.Entries.{FilledArchive, dones_of}
use Rattle.archive_images.specs.SealFiles.{HasSeals}
use Rattle.archive_images.specs.Below.{IsBelow, StandsSealed}
use Rattle.sealed_images.specs.Sealing.{done_of_stored, rows_of_entries}

-- this is the log of an image
pub record IsLogOf (image : Image) (log : ℕ) : Type 0 where
  pub filled : FilledArchive
  pub stands : StandsSealed image filled
  pub log_is : log ≡ stands.log

-- its log has so many rows
pub record HasLogRows (image : Image) (rows : ℕ) : Type 0 where
  pub filled : FilledArchive
  pub stands : StandsSealed image filled
  pub rows_are : rows ≡ length (rows_of_entries stands.entries)

-- its log has so many records, its head among them
pub record HasLogRecords (image : Image) (number : ℕ) : Type 0 where
  pub filled : FilledArchive
  pub stands : StandsSealed image filled
  pub number_is : number ≡ length stands.beginning + length stands.entries

-- file 0 has so many records
abbrev pub HasZeroRecords : Image → ℕ → Type 0
HasZeroRecords image number = (bodies : List (List ℕ)) × HasRecords (image 0) bodies × (number ≡ length bodies)

-- file 0 has no seal
abbrev pub HasNoSeal : Image → Type 0
HasNoSeal image = (before : List Entry) (all : List Seal) → HasSeals (image 0) before all → all ≡ []

-- a Done of each fill that stands in the fill files below a log
abbrev pub dones_below : {image : Image} {log : ℕ} {beginning : List (List ℕ)} {base : Option FilledArchive} →
    IsBelow image log beginning base → List Fill
dones_below (inl plain) = []
dones_below (inr parts) = map done_of_stored (flat_map (λ part. part.fills) parts.parts)

-- a Done of each fill that an opening of the image reads, in their order
pub record AreFillsOf (image : Image) (fills : List Fill) : Type 0 where
  pub filled : FilledArchive
  pub stands : StandsSealed image filled
  pub fills_are : fills ≡ dones_below stands.has_base ++ dones_of stands.entries
