-- How a script is answered.
use Rattle.std.specs.Prelude.{◌≡◌, ◌⊎◌, ℕ, List, Option, IsSomeAnd, Result, Ok, Err}
use Rattle.arch_disk.specs.Disk.{Device}
use Rattle.refusals.specs.declared.refusal.Refusal.{Refusal}
use Rattle.archive_store.specs.Entries.{Archive}
use Rattle.archive_store.specs.StoreView.{StoreView, archive_of}
use Rattle.outer_traits.specs.States.{OutputState}
use Rattle.command_runs.specs.Reading.{IsRowsText, WasRead}
use Rattle.ssql_types.specs.declared.place.ScriptPlace.TheVariants.{Sql}
use Rattle.ssql_types.specs.declared.statement.TypedStatement.{TypedStatement}
use Rattle.script_answers.specs.Scripts.{IsScriptAnswer, OrNoMemory}
use Rattle.script_answers.specs.Statements.{packet_names, statements_text}

-- what a text is as a script over the tables and packet names of an archive
abbrev pub IsSqlAnswer : Archive → List ℕ → Result (List TypedStatement) Refusal → Type 0
IsSqlAnswer archive text =
    IsScriptAnswer Sql archive.head.tables (packet_names archive.head archive.history) text

-- a text is answered over a store, and what that leaves: it is refused, nothing was written and nothing read, or the
-- answers to its statements were printed
abbrev pub IsTextReply : {D : Type 0} → Device D → StoreView D → StoreView D → List ℕ → Option Refusal → OutputState
    → OutputState → Type 0
IsTextReply device old new text refusal before after =
    (IsSomeAnd refusal (λ why. OrNoMemory (IsSqlAnswer (archive_of old) text) (Err why)) × (after ≡ before)
    × (new ≡ old))
    ⊎ ((statements : List TypedStatement) × IsSqlAnswer (archive_of old) text (Ok statements)
    × IsRowsText device old refusal before after (statements_text (archive_of old) statements)
    × WasRead device old new refusal)
