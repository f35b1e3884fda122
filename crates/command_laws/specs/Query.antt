-- The clause of `query --ask`.
use Rattle.std.specs.Prelude.{◌≡◌, ◌⊎◌, ℕ, ℤ, List, [], Option, Some, None, Result, Ok}
use Rattle.arch_disk.specs.Disk.{Device}
use Rattle.asks.specs.declared.ask.Ask.{Ask}
use Rattle.refusals.specs.declared.refusal.Refusal.{Refusal}
use Rattle.refusals.specs.declared.refusal.Which.TheVariants.{SheetOctets}
use Rattle.outer_traits.specs.Outside.{Files}
use Rattle.archive_store.specs.Entries.{FilledArchive}
use Rattle.archive_store.specs.Stands.{IsSoundImage, StandsFilled}
use Rattle.command_words.specs.Job.{Query}
use Rattle.ask_answers.specs.Asks.{archive_asks_refusal, archive_asks_text}
use Rattle.command_laws.specs.Answers.{asks_answers, sheet_refusal}
use Rattle.command_laws.specs.Calls.{Call, HeldArchive, IsNoArchive, IsRefusedBy, IsRun, LeavesAll, Prints, PrintsSome, Succeeded, WasInterrupted}
use Rattle.command_laws.specs.NamedFiles.{HasAsksSheet, IsReadingRefusal, IsUnreadFor}

-- The history and the disk as it reads don't change. At status 0 each ask of the sheet is answered, in their order, by
-- the fills and the rows of late intervals: over a sound image that is the answer over the whole history. What is
-- printed before a refusal is a prefix of that. A sheet that isn't there or is too long is refused so, and no other is;
-- then a disk with no archive or a damaged one, and then what is no sheet, or has an ask that is refused; asks of which
-- none is refused are answered, but for want of memory and calls that fail.
pub record AreAsksAnswered {D : Type 0} (device : Device D) (e : Call D) (files : Files)
    (name : List ℕ) : Type 0 where
  pub left : LeavesAll device e
  pub whole : Succeeded e → HeldArchive device e (λ filled. (asks : List Ask) × HasAsksSheet files name (Ok asks)
      × (archive_asks_refusal filled.plain asks ≡ None) × Prints e (archive_asks_text filled 1 asks))
  pub printed : (filled : FilledArchive) (asks : List Ask) → StandsFilled (device.reads e.disk) filled
      → HasAsksSheet files name (Ok asks) → PrintsSome e (archive_asks_text filled 1 asks)
  pub over_rows : (filled : FilledArchive) (asks : List Ask) → StandsFilled (device.reads e.disk) filled
      → IsSoundImage (device.reads e.disk)
      → archive_asks_text filled 1 asks ≡ asks_answers filled.plain.head filled.plain.history 1 asks
  pub unread : (refusal : Refusal) → IsUnreadFor files SheetOctets name refusal
      → IsRefusedBy device e refusal × Prints e []
  pub only_unread : (refusal : Refusal) → e.report.refusal ≡ Some refusal → IsReadingRefusal refusal
      → IsUnreadFor files SheetOctets name refusal
  pub no_archive : (sheet : Result (List Ask) Refusal) (refusal : Refusal) → HasAsksSheet files name sheet
      → IsNoArchive device e refusal → IsRefusedBy device e refusal × Prints e []
  pub refused : (filled : FilledArchive) (sheet : Result (List Ask) Refusal) (refusal : Refusal)
      → StandsFilled (device.reads e.disk) filled → HasAsksSheet files name sheet
      → sheet_refusal filled.plain sheet ≡ Some refusal → IsRefusedBy device e refusal × Prints e []
  pub complete : (filled : FilledArchive) (asks : List Ask) → StandsFilled (device.reads e.disk) filled
      → HasAsksSheet files name (Ok asks) → archive_asks_refusal filled.plain asks ≡ None
      → Succeeded e ⊎ WasInterrupted device e

-- so it is of each call for this job
abbrev pub QueryClause : {D : Type 0} → Device D → Type 0
QueryClause {D = D} device =
    (e : Call D) (files : Files) (clock : Option ℤ) (name : List ℕ) → IsRun device e files clock (Query name)
    → AreAsksAnswered device e files name
