-- File 0 that was read.
use Rattle.std.specs.Prelude.{◌≡◌, ℕ, List, ◌++◌, length, map, Some, None}
use Rattle.arch_disk.specs.Image.{Image}
use Rattle.disk_journal.specs.Format.{written}
use Rattle.disk_journal.specs.State.{extents_from, file_of, unhealed_fault}
use Rattle.field_codec.specs.declared.entry.Entry.{Entry}
use Rattle.field_codec.specs.Spelling.{entry_octets}
use Rattle.archive_images.specs.Entries.{Replays, dones_of}
use Rattle.archive_images.specs.Moments.{MayFollow}
use Rattle.archive_images.specs.SealFiles.{HasSeals, seal_record}
use Rattle.archive_reading.specs.PartialArchive.{IsBase, filled_made}
use Rattle.sealed_images.specs.Damage.{IsZeroDamagedAt}
use Rattle.sealed_opening.specs.declared.manifest.ReadManifest.{ReadManifest}

-- the records of file 0 are entries that make this archive, and behind them these seals; the journal has the places of all
pub record IsManifestRead (content : List ℕ) (manifest : ReadManifest) : Type 0 where
  pub before : List Entry
  pub has : HasSeals content before manifest.seals.items
  pub replays : Replays None before (Some (filled_made manifest.made))
  pub fills : manifest.made.tracker.fills ≡ dones_of before
  pub extents : manifest.journal.extents.items ≡
      extents_from 0 (map entry_octets before ++ map seal_record manifest.seals.items)
  pub end : manifest.journal.end ≡
      length (written (map entry_octets before ++ map seal_record manifest.seals.items))

-- whatever the disk tells: the archive is one to go on from, the seals may stand so, and the journal is that of file 0
pub record IsManifestKept (manifest : ReadManifest) : Type 0 where
  pub base : IsBase (Some manifest.made)
  pub follow : MayFollow manifest.seals.items
  pub in_zero : file_of manifest.journal ≡ 0
  pub no_pending_fault : unhealed_fault manifest.journal ≡ None

-- file 0 is damaged at this gate
abbrev pub IsDamagedZero : Image → ℕ → ℕ → Type 0
IsDamagedZero image file at = (file ≡ 0) × IsZeroDamagedAt image at
