-- The clause of `values`.
use Rattle.std.specs.Prelude.{◌≡◌, ◌⊎◌, ℕ, ℤ, List, [], ◌∷◌, length, Option, Some, None}
use Rattle.arch_disk.specs.Disk.{Device}
use Rattle.arch_types.specs.Dump.{IsDump}
use Rattle.asks.specs.Names.{parameter_number}
use Rattle.mdb_items.specs.Database.{Database}
use Rattle.mdb_items.specs.declared.sheet.RawMdb.{RawMdb}
use Rattle.mdb_model.specs.Sheets.{sheets_database}
use Rattle.refusals.specs.declared.refusal.BadKind.{BadKind}
use Rattle.refusals.specs.declared.refusal.Refusal.{Refusal}
use Rattle.refusals.specs.declared.refusal.Refusal.TheVariants.{BadPacket}
use Rattle.refusals.specs.declared.refusal.Which.{Which}
use Rattle.refusals.specs.declared.refusal.Which.TheVariants.{DumpOctets, SheetOctets}
use Rattle.retrieval.specs.Parameter.{parameter_refusal}
use Rattle.retrieval.specs.ValuesText.{cell_lines, cells_of, values_line}
use Rattle.outer_traits.specs.Outside.{Files}
use Rattle.command_words.specs.Job.{Values, ValuesWords}
use Rattle.command_runs.specs.DumpRest.{IsBadRest}
use Rattle.command_runs.specs.Moment.{IsMomentOf}
use Rattle.command_runs.specs.Report.{unopened}
use Rattle.command_laws.specs.Calls.{Call, IsRefusedBy, IsRun, Prints, Succeeded, WasInterrupted}
use Rattle.command_laws.specs.Dumps.{IsDumpPrinted}
use Rattle.command_laws.specs.NamedFiles.{HasFile, HasSheets, IsFirstUnread, IsReadingRefusal}

-- what is printed of a dump of these packets and this rest, received at a moment: the lines of the cells of a parameter
-- in the first packet of each key, in the order of the keys, and the line of how many they are
abbrev pub AreCellsPrinted : {D : Type 0} → Call D → Database → ℕ → List ℕ → List (List ℕ) → List ℕ → ℤ → Type 0
AreCellsPrinted e db q dump packets rest moment =
    let cells = cells_of db q packets moment in
    IsDumpPrinted e dump rest (cell_lines db q cells) (values_line (length cells))

-- the files of a call, in the order in which they are read
abbrev pub values_files : ValuesWords → List (Which × List ℕ)
values_files words =
    (SheetOctets, words.parameters) ∷ (SheetOctets, words.calibrations) ∷ (SheetOctets, words.containers)
    ∷ (DumpOctets, words.dump) ∷ []

-- the three sheets and the dump are there, within their limits
pub record HasValuesFiles (files : Files) (words : ValuesWords) (raw : RawMdb) (dump : List ℕ) : Type 0 where
  pub sheets : HasSheets files words.parameters words.calibrations words.containers raw
  pub file : HasFile files DumpOctets words.dump dump

-- the sheets give a database, and the name is that of a parameter with this number
pub record HasParameter (raw : RawMdb) (name : List ℕ) (q : ℕ) : Type 0 where
  pub admitted : parameter_refusal raw name ≡ None
  pub named : parameter_number (sheets_database raw) name ≡ Some q

-- The very disk is handed back. Of the sheets' database and the named parameter the cells over the dump are printed,
-- which is received at the moment that the clock tells or at some one moment in its range. Nothing is printed, and the
-- refusal says so, where a file isn't there or is too long, and it says so only then; and where the sheets or the name
-- are refused: by the first rule broken, the first limit passed, or as unknown. All is printed of a dump of packets
-- alone, but for want of memory and calls that fail.
pub record AreValued {D : Type 0} (device : Device D) (e : Call D) (files : Files) (clock : Option ℤ)
    (words : ValuesWords) : Type 0 where
  pub disk : e.disk' ≡ e.disk
  pub report : e.report ≡ unopened e.report.refusal
  pub printed : (raw : RawMdb) (q : ℕ) (dump rest : List ℕ) (packets : List (List ℕ))
      → HasValuesFiles files words raw dump → HasParameter raw words.name q → IsDump dump packets rest
      → (moment : ℤ) × IsMomentOf clock moment × AreCellsPrinted e (sheets_database raw) q dump packets rest moment
  pub unread : (refusal : Refusal) → IsFirstUnread files (values_files words) refusal
      → IsRefusedBy device e refusal × Prints e []
  pub only_unread : (refusal : Refusal) → e.report.refusal ≡ Some refusal → IsReadingRefusal refusal
      → IsFirstUnread files (values_files words) refusal
  pub refused : (raw : RawMdb) (refusal : Refusal) (dump : List ℕ) → HasValuesFiles files words raw dump
      → parameter_refusal raw words.name ≡ Some refusal → IsRefusedBy device e refusal × Prints e []
  pub broken : (raw : RawMdb) (q : ℕ) (dump rest : List ℕ) (packets : List (List ℕ)) (at : ℕ) (kind : BadKind)
      → HasValuesFiles files words raw dump → HasParameter raw words.name q → IsDump dump packets rest
      → IsBadRest dump rest at kind → IsRefusedBy device e (BadPacket at kind)
  pub complete : (raw : RawMdb) (q : ℕ) (dump : List ℕ) (packets : List (List ℕ))
      → HasValuesFiles files words raw dump → HasParameter raw words.name q → IsDump dump packets []
      → Succeeded e ⊎ WasInterrupted device e

-- so it is of each call for this job
abbrev pub ValuesClause : {D : Type 0} → Device D → Type 0
ValuesClause {D = D} device =
    (e : Call D) (files : Files) (clock : Option ℤ) (words : ValuesWords) → IsRun device e files clock (Values words)
    → AreValued device e files clock words
