-- The clause of `query --sql`.
use Rattle.std.specs.Prelude.{◌≡◌, ◌⊎◌, ℕ, ℤ, List, [], Option, Some, Result, Ok, Err}
use Rattle.arch_disk.specs.Disk.{Device}
use Rattle.refusals.specs.declared.refusal.Refusal.{Refusal}
use Rattle.refusals.specs.declared.refusal.Which.TheVariants.{ScriptOctets}
use Rattle.outer_traits.specs.Outside.{Files}
use Rattle.archive_store.specs.Entries.{FilledArchive}
use Rattle.archive_store.specs.Stands.{StandsFilled}
use Rattle.ssql_types.specs.declared.place.ScriptPlace.TheVariants as ScriptPlace
use Rattle.ssql_types.specs.declared.statement.TypedStatement.{TypedStatement}
use Rattle.command_words.specs.Job.{Sql}
use Rattle.script_answers.specs.Scripts.{IsScriptAnswer}
use Rattle.script_answers.specs.Statements.{packet_names, statements_text}
use Rattle.command_laws.specs.Calls.{Call, HeldArchive, IsNoArchive, IsRefusedBy, IsRun, LeavesAll, Prints, PrintsSome, Succeeded, WasInterrupted}
use Rattle.command_laws.specs.NamedFiles.{HasFile, IsReadingRefusal, IsUnreadFor}

-- the file of this name is a script of these statements over the tables and packet names of an archive, or is refused
pub record HasStatements (files : Files) (name : List ℕ) (filled : FilledArchive)
    (answer : Result (List TypedStatement) Refusal) : Type 0 where
  pub text : List ℕ
  pub file : HasFile files ScriptOctets name text
  pub script : IsScriptAnswer ScriptPlace.Sql filled.plain.head.tables
      (packet_names filled.plain.head filled.plain.history) text answer

-- The history and the disk as it reads don't change. At status 0 each statement is answered over the whole history, in
-- their order. What is printed before a refusal is a prefix of that. A script that isn't there or is too long is
-- refused so, and no other is; then a disk with no archive or a damaged one, and then a script in which something is
-- wrong; any other is answered, but for want of memory and calls that fail.
pub record AreStatementsAnswered {D : Type 0} (device : Device D) (e : Call D) (files : Files)
    (name : List ℕ) : Type 0 where
  pub left : LeavesAll device e
  pub whole : Succeeded e → HeldArchive device e (λ filled. (statements : List TypedStatement)
      × HasStatements files name filled (Ok statements) × Prints e (statements_text filled.plain statements))
  pub printed : (filled : FilledArchive) (statements : List TypedStatement) → StandsFilled (device.reads e.disk) filled
      → HasStatements files name filled (Ok statements) → PrintsSome e (statements_text filled.plain statements)
  pub unread : (refusal : Refusal) → IsUnreadFor files ScriptOctets name refusal
      → IsRefusedBy device e refusal × Prints e []
  pub only_unread : (refusal : Refusal) → e.report.refusal ≡ Some refusal → IsReadingRefusal refusal
      → IsUnreadFor files ScriptOctets name refusal
  pub no_archive : (text : List ℕ) (refusal : Refusal) → HasFile files ScriptOctets name text
      → IsNoArchive device e refusal → IsRefusedBy device e refusal × Prints e []
  pub refused : (filled : FilledArchive) (refusal : Refusal) → StandsFilled (device.reads e.disk) filled
      → HasStatements files name filled (Err refusal) → IsRefusedBy device e refusal × Prints e []
  pub complete : (filled : FilledArchive) (statements : List TypedStatement) → StandsFilled (device.reads e.disk) filled
      → HasStatements files name filled (Ok statements) → Succeeded e ⊎ WasInterrupted device e

-- so it is of each call for this job
abbrev pub SqlClause : {D : Type 0} → Device D → Type 0
SqlClause {D = D} device =
    (e : Call D) (files : Files) (clock : Option ℤ) (name : List ℕ) → IsRun device e files clock (Sql name)
    → AreStatementsAnswered device e files name
