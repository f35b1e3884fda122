-- How the plan of `query --sql` goes.
use Rattle.std.proofs.Common.{◌≡◌, inl, inr, ℕ, List, [], length, Option, Some, None, refl, sym, ap, ◌∙◌, subst}
use Rattle.std.specs.Prelude.{IsSome, IsTrue, Result, Ok, Err}
use Rattle.std.specs.List.{AllByRecursion}
use Rattle.arch_disk.specs.Disk.{Device}
use Rattle.refusals.specs.declared.refusal.Refusal.{Refusal}
use Rattle.refusals.specs.declared.refusal.Which.TheVariants.{ScriptOctets}
use Rattle.outer_traits.specs.Outside.{Files}
use Rattle.command_plans.proofs.Inputs.{reads_determined}
use Rattle.archive_store.specs.Entries.{Archive, FilledArchive}
use Rattle.command_plans.specs.Plan.{OfMemory, Stopped, Interrupted, EachEnd, IsDetermined, map_done}
use Rattle.command_plans.proofs.Plans.{determined, determined_map_done, each_end}
use Rattle.ssql_types.specs.declared.place.ScriptPlace.TheVariants.{Sql}
use Rattle.ssql_types.specs.declared.statement.TypedStatement.{TypedStatement}
use Rattle.ssql_types.specs.Laws.{NamesTables}
use Rattle.ssql_types.proofs.KnownTables.{script_tables}
use Rattle.outer_traits.specs.States.{OutputState}
use Rattle.archive_store.specs.Keeping.{IsKept}
use Rattle.archive_store.specs.StoreView.{StoreView, filled_of}
use Rattle.command_runs.specs.Command.{Effects, EndedAt, Ran, archive_opened, effects_of, nothing_done, opening_plan}
use Rattle.command_runs.specs.Healing.{TriesToHeal}
use Rattle.command_runs.specs.Opened.{IsOpenedOn}
use Rattle.command_runs.specs.declared.report.Report.{Report}
use Rattle.command_runs.specs.Report.{read_only}
use Rattle.script_answers.specs.Scripts.{OrNoMemory, after_answer, script_octets_plan, script_plan}
use Rattle.query_commands.specs.SqlReplying.{IsSqlAnswer, IsTextReply}
use Rattle.query_commands.specs.Sql.{archive_text_plan, sql_plan, statements_plan, text_plan}
use Rattle.script_answers.specs.Statements.{packet_names, statements_text}
use Rattle.command_runs.proofs.Commands.{no_text}
use Rattle.command_runs.proofs.ReadOnly.{left_opened, not_read}
use Rattle.command_runs.proofs.Reading.{ran_rows_text, rows_printing_determined, rows_printing_reads, tells_so}
use Rattle.command_runs.proofs.Openings.{opening_reads, opens_determined}
use Rattle.command_runs.proofs.OverInputs.{HasRead}
use Rattle.script_answers.proofs.ScriptAnswers.{script_determined}

-- the tables of a script that is answered are there
pub named_tables : (archive : Archive) (text : List ℕ) (statements : List TypedStatement) → IsSqlAnswer archive text (Ok statements) → AllByRecursion (NamesTables (length archive.head.tables)) statements
named_tables archive text statements is =
    subst (AllByRecursion (NamesTables (length archive.head.tables))) (sym is.3) (script_tables Sql archive.head.tables (packet_names archive.head archive.history) [] is.0.statements is.0.places is.2)

-- ---- an archive was opened

module _ {D : Type 0} (device : Device D) (disk : D) (s new healed : StoreView D) (on : IsOpenedOn device disk s) (heals : TriesToHeal device new healed) (kept : IsKept device healed) (output output' : OutputState) (report : Report)
    (text : List ℕ) where
  abbrev Tells : Type 0
  Tells = IsTrue device.is_transparent

  abbrev filled : FilledArchive
  filled = filled_of s

  abbrev went : Effects D
  went = effects_of disk healed.disk output output' report

  -- the text was refused, or there was no memory
  ran_refused_text : (refusal : Refusal) → OrNoMemory (IsSqlAnswer filled.plain text) (Err refusal) → EndedAt device went (archive_opened 1 filled) (Some refusal) (archive_opened 1 filled).failed →
      Ran device (text_plan Tells text filled) went
  ran_refused_text refusal (inl memory) did = record {
    way = Interrupted (archive_opened 1 filled) OfMemory;
    allows = inl refl;
    did = record {
      report = did.report ∙ ap (λ (r : Refusal). read_only (Some r) (length s.history)) memory;
      printed = did.printed;
      output = did.output;
      disk = did.disk;
      log = did.log;
      pending = did.pending;
    };
  }
  ran_refused_text refusal (inr is) did = record { way = Stopped (archive_opened 1 filled) (Some refusal); allows = inr (Err refusal, is, refl); did = did }

  -- or its statements were answered
  pub ran_reply : (refusal : Option Refusal) → IsTextReply device s new text refusal output output' → report ≡ read_only refusal (length s.history) → Ran device (text_plan Tells text filled) went
  ran_reply None (inl refused) is = absurd refused.0
  ran_reply (Some refusal) (inl refused) is =
      ran_refused_text refusal refused.0 (record {
        report = is;
        printed = rw refused.1 (no_text output.written);
        output = record { counted = rw refused.1 refl };
        disk = left_opened device disk s new healed on None (not_read device s new refused.2) heals kept;
        log = tt;
        pending = tt;
      })
  ran_reply refusal (inr reply) is =
      let ran = ran_rows_text device went (archive_opened 1 filled) Tells s (tells_so device s) refl refl (refl, refl) (statements_text filled.plain reply.0) refusal reply.2
      (left_opened device disk s new healed on refusal reply.3 heals kept) is in
      record { way = ran.way; allows = inr (Ok reply.0, reply.1, ran.allows); did = ran.did }

-- ---- over inputs

-- nothing is asked of them behind the script
text_reads : (Tells : Type 0) (text : List ℕ) (filled : FilledArchive) → EachEnd (HasRead 1) (text_plan Tells text filled)
text_reads Tells text filled =
    each_end (HasRead 1) (script_plan (archive_opened 1 filled) Sql filled.plain.head.tables (packet_names filled.plain.head filled.plain.history) text) (statements_plan Tells filled)
    ((refl, refl), λ answer is. each answer) (λ statements. rows_printing_reads 1 Tells (archive_opened 1 filled) (statements_text filled.plain statements) (refl, refl))
  where
    each : (answer : Result (List TypedStatement) Refusal) → EachEnd (HasRead 1) (after_answer (archive_opened 1 filled) answer)
    each (Ok statements) = tt
    each (Err refusal) = (refl, refl)

pub archive_reads : {D : Type 0} (device : Device D) (disk : D) (text : List ℕ) → EachEnd (HasRead 1) (archive_text_plan device disk text)
archive_reads device disk text = ((refl, refl), each_end (HasRead 1) (opening_plan 1 device disk) (text_plan (IsTrue device.is_transparent) text) (opening_reads 1 device disk) (text_reads (IsTrue device.is_transparent) text))

-- ---- which answer is due

text_determined : (Tells : Type 0) → Tells → (text : List ℕ) (filled : FilledArchive) → IsDetermined (text_plan Tells text filled)
text_determined Tells told text filled =
    determined (script_plan (archive_opened 1 filled) Sql filled.plain.head.tables (packet_names filled.plain.head filled.plain.history) text) (statements_plan Tells filled)
    (script_determined (archive_opened 1 filled) Sql filled.plain.head.tables (packet_names filled.plain.head filled.plain.history) text)
    (λ statements. rows_printing_determined Tells (archive_opened 1 filled) (statements_text filled.plain statements) told)

pub sql_determined : {D : Type 0} (device : Device D) (disk : D) (files : Option Files) (name : List ℕ) → IsTrue device.is_transparent → IsSome files → IsDetermined (sql_plan device disk files name)
sql_determined device disk None name known some = absurd (cc (some))
sql_determined device disk (Some all) name known some =
    determined (map_done nothing_done (script_octets_plan (Some all) name 0)) (archive_text_plan device disk)
    (determined_map_done nothing_done (script_octets_plan (Some all) name 0) (reads_determined ScriptOctets (λ octets. octets) all name 0))
    (λ text. determined (opening_plan 1 device disk) (text_plan (IsTrue device.is_transparent) text) (opens_determined 1 device disk known) (text_determined (IsTrue device.is_transparent) known text))
