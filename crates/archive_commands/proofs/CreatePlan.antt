-- How the plan of `create` goes.
use Rattle.std.proofs.Common.{◌≡◌, ◌≤◌, ◌<◌, ◌+◌, ◌∙◌, inl, inr, ℕ, List, [], ◌∷◌, length, codes, Bool, true, false, Option, Some, None, refl, sym, ap, subst, arith}
use Rattle.std.specs.Prelude.{IsSome, IsTrue, Result, Ok, Err}
use Rattle.std.proofs.lemmas.Bool.{cases_eq}
use Rattle.arch_disk.specs.Image.{Image}
use Rattle.arch_disk.specs.Disk.{Device, IsUntouched as JournalLeft, raised}
use Rattle.refusals.specs.declared.refusal.Refusal.{Refusal}
use Rattle.refusals.specs.declared.refusal.Refusal.TheVariants.{Exists, DiskFault, OutOfMemory}
use Rattle.refusals.specs.declared.refusal.Which.TheVariants.{ScriptOctets, Tables}
use Rattle.refusals.specs.Limits.{limit_of}
use Rattle.disk_journal.specs.Calls.{BeginsOpen, CountsNeverFall}
use Rattle.disk_journal.specs.Format.{HoldsNone}
use Rattle.mdb_items.specs.Database.{Database}
use Rattle.mdb_items.specs.declared.sheet.RawMdb.{RawMdb}
use Rattle.mdb_sheets.proofs.Sheets.{sheets_determined}
use Rattle.mdb_sheets.specs.Plans.{sheets_plan}
use Rattle.outer_traits.specs.Outside.{Files}
use Rattle.archive_store.specs.Head.{Head}
use Rattle.archive_store.specs.Calls.{CrashLeavesHead, IsStoreCreateRefusal}
use Rattle.command_plans.specs.Plan.{OfMemory, OfDisk, CommandPlan, Stopped, Interrupted, Allows, EachEnd, IsDetermined, map_done}
use Rattle.command_plans.proofs.Plans.{determined, determined_map_done}
use Rattle.command_words.specs.Job.{CreateWords}
use Rattle.command_plans.specs.Inputs.{AnsweredByPlan, WasRead}
use Rattle.command_plans.proofs.Inputs.{reads_determined}
use Rattle.command_plans.proofs.Readings.{first_not_read, then_not_read, then_read}
use Rattle.command_plans.proofs.Ledgers.{inputs_unused}
use Rattle.outer_traits.specs.States.{InputsState}
use Rattle.command_plans.specs.Ledger.{raised_by}
use Rattle.retrieval.specs.Parameter.{sheets_refusal}
use Rattle.command_runs.specs.Command.{Effects, Progress, Ran, RanOver, archive_sought, nothing_done, printing_plan}
use Rattle.archive_commands.specs.Create.{HasArchiveAs, IsHeadAnswer, IsScriptUnread, IsTablesAnswer, checking_plan, create_plan, head_inputs, head_plan, made, making_plan, after_making, named_inputs, named_script_plan, new_archive_plan, making_failed, script_behind_plan, tables_with}
use Rattle.command_runs.specs.Creation.{create_line}
use Rattle.command_runs.specs.Report.{unopened}
use Rattle.command_runs.proofs.Commands.{only_sought, no_text}
use Rattle.archive_commands.proofs.ArchiveOrNone.{one-not-none}
use Rattle.archive_commands.proofs.Created.{fewer_than_two, left_alone}
use Rattle.script_answers.specs.Scripts.{IsScriptAnswer, OrNoMemory}
use Rattle.command_runs.proofs.OverInputs.{HasRead, ran_read, ran_unread}
use Rattle.script_answers.proofs.ScriptAnswers.{answered_determined, one_script_answer}
use Rattle.ssql_types.specs.declared.place.ScriptPlace.TheVariants as ScriptPlace
use Rattle.ssql_types.specs.declared.statement.TypedStatement.{TypedStatement}

-- ---- the head

none_behind : (before : ℕ) → before ≡ before + 0
none_behind before = omega arith

-- no script was named, and nothing was read
pub no_script_read : (files : Option Files) (a : InputsState) → WasRead {X = List ℕ} (named_script_plan files None) [] 0 a a
no_script_read files a = record { allows = λ before. refl; used = inputs_unused a }

module _ (files : Option Files) (words : CreateWords) (a b : InputsState) where
  abbrev sheets : ℕ → CommandPlan ℕ RawMdb
  sheets = sheets_plan files words.parameters words.calibrations words.containers

  -- the sheets weren't read
  pub head_unread : (refusal : Refusal) → AnsweredByPlan {X = RawMdb} 3 sheets (Err refusal) a b → AnsweredByPlan {X = Head} (head_inputs words) (head_plan files words) (Err refusal) a b
  head_unread refusal read = first_not_read sheets (λ before. script_behind_plan files words.script (before + 3)) refusal 3 (head_inputs words) a b read

  module _ (raw : RawMdb) (read : WasRead sheets raw 3 a b) (c : InputsState) where
    -- the script wasn't
    pub script_unread : (refusal : Refusal) → IsScriptUnread files words.script b c refusal → AnsweredByPlan {X = Head} (head_inputs words) (head_plan files words) (Err refusal) a c
    script_unread refusal unread =
        then_not_read sheets (script_behind_plan files words.script) 3 raw a b c read refusal (named_inputs words.script)
        (first_not_read (named_script_plan files words.script) (λ before. checking_plan (before + named_inputs words.script) raw) refusal 1 (named_inputs words.script) b c unread)

    module _ (text : List ℕ) (script : WasRead (named_script_plan files words.script) text (named_inputs words.script) b c) where
      -- both were read, and are refused or give a head
      checked : (answer : Result Head Refusal) → OrNoMemory (IsHeadAnswer raw text) answer → AnsweredByPlan {X = Head} 0 (λ before. checking_plan before raw text) answer c c
      checked (Ok head) is = record { allows = λ before. inr (Ok head, is, refl); used = inputs_unused c }
      checked (Err refusal) (inl memory) = inr (record {
        failed = false;
        sources = 0;
        refusal_is = memory;
        allows = λ before. subst (λ (s : ℕ). Allows (checking_plan before raw text) (Interrupted s OfMemory)) (none_behind before) (inl refl);
        used = inputs_unused c;
      })
      checked (Err refusal) (inr is) = inl (record {
        sources = 0;
        allows = λ before. subst (λ (s : ℕ). Allows (checking_plan before raw text) (Stopped s (Some refusal))) (none_behind before) (inr (Err refusal, is, refl));
        used = inputs_unused c;
      })

      pub head_answered : (answer : Result Head Refusal) → OrNoMemory (IsHeadAnswer raw text) answer → AnsweredByPlan {X = Head} (head_inputs words) (head_plan files words) answer a c
      head_answered (Ok head) is =
          subst (λ (n : ℕ). WasRead (head_plan files words) head n a c) (behind (named_inputs words.script))
          (then_read sheets (script_behind_plan files words.script) 3 raw a b c read head (named_inputs words.script + 0)
          (then_read (named_script_plan files words.script) (λ before text. checking_plan before raw text) (named_inputs words.script) text b c c script head 0 (checked (Ok head) is)))
        where
          behind : (n : ℕ) → 3 + (n + 0) ≡ 3 + n
          behind n = omega arith
      head_answered (Err refusal) is =
          then_not_read sheets (script_behind_plan files words.script) 3 raw a b c read refusal (named_inputs words.script)
          (then_not_read (named_script_plan files words.script) (λ before text. checking_plan before raw text) (named_inputs words.script) text b c c script refusal 0 (checked (Err refusal) is))

-- ---- an archive is made

-- two writes failed at most
two_writes : (before now : ℕ) → before ≤ now → now ≤ raised (raised before) → (n : ℕ) × (0 ≤ n) × (n ≤ 2) × (now ≡ raised_by n before)
two_writes before now least most = elim (cases_eq now before) [
  | inl same ↦ (0, omega arith, omega arith, same)
  | inr changed ↦ elim (cases_eq now (raised before)) [
    | inl one ↦ (1, omega arith, omega arith, one)
    | inr more ↦ (2, omega arith, omega arith, omega (arith, least, most, changed, more))
  ]
]

module _ {D : Type 0} (sources : ℕ) (device : Device D) (e : Effects D) (head : Head) where
  -- no archive was made
  pub ran_unmade : (next : CommandPlan Progress ⊥) (refusal : Refusal) → IsStoreCreateRefusal device e.disk e.disk' refusal →
      (IsTrue device.is_transparent → BeginsOpen (device.reads e.disk 0) → JournalLeft device e.disk e.disk') → CrashLeavesHead device e.disk e.disk' head → CountsNeverFall device e.disk e.disk' →
      e.report ≡ unopened (Some refusal) → e.output' ≡ e.output → Ran device (making_plan sources device e.disk head next) e
  ran_unmade next Exists refused kept crash counts report silent = record {
    way = Stopped (archive_sought sources) (Some Exists);
    allows = inr (inr (true, refused.held, refl));
    did = record {
      report = report;
      printed = rw silent (no_text e.output.written);
      output = record { counted = rw silent refl };
      disk = (only_sought device e.disk e.disk' refused.no_fault refused.no_failed_write, λ known. left_alone device e.disk e.disk' (kept known (refused.held known)));
      log = tt;
      pending = tt;
    };
  }
  ran_unmade next DiskFault refused kept crash counts report silent = record {
    way = Interrupted (making_failed sources head) OfDisk;
    allows = inr (inl refl);
    did = record {
      report = report;
      printed = rw silent (no_text e.output.written);
      output = record { counted = rw silent refl };
      disk = (
        record { faults = refused.rose; writes = two_writes (device.failed_writes e.disk) (device.failed_writes e.disk') counts.writes refused.wrote_most },
        λ known. record {
          kept = λ one. left_alone device e.disk e.disk' (kept known one);
          images = crash known;
          closed = λ none one. refused.closed (fewer_than_two device e.disk e.disk' one) known none;
        },
      );
      log = tt;
      pending = tt;
    };
  }
  ran_unmade next OutOfMemory refused kept crash counts report silent = record {
    way = Interrupted (nothing_done sources) OfMemory;
    allows = inl refl;
    did = record { report = report; printed = rw silent (no_text e.output.written); output = record { counted = rw silent refl }; disk = refused; log = tt; pending = tt };
  }
  ran_unmade next other refused kept crash counts report silent = absurd refused

  -- one was made, and its line printed
  pub ran_made : (IsTrue device.is_transparent → HoldsNone (device.reads e.disk 0)) → Ran device (printing_plan (made sources head) (create_line head)) e → Ran device (new_archive_plan sources device e.disk head) e
  ran_made none ran = record { way = ran.way; allows = inr (inr (false, none, ran.allows)); did = ran.did }

-- ---- over inputs

-- so many sources were given, and no call of the inputs failed
pub makes_after : {D : Type 0} (sources : ℕ) (device : Device D) (disk : D) (head : Head) → EachEnd (HasRead sources) (new_archive_plan sources device disk head)
makes_after sources device disk head = ((refl, refl), ((refl, refl), λ there h. each there))
  where
    each : (there : Bool) → EachEnd (HasRead sources) (after_making sources head there)
    each true = (refl, refl)
    each false = ((refl, refl), (refl, refl))

module _ {D : Type 0} (device : Device D) (e : Effects D) (files : Option Files) (words : CreateWords) (a b : InputsState) where
  -- the sheets and the script gave a head, and its archive was made or wasn't
  pub ran_headed : (head : Head) → WasRead (head_plan files words) head (head_inputs words) a b → Ran device (new_archive_plan (head_inputs words) device e.disk head) e →
      RanOver device (create_plan device e.disk files words) e a b
  ran_headed head read ran =
      ran_read device e (head_plan files words) (new_archive_plan (head_inputs words) device e.disk) a b (head_inputs words) head read (makes_after (head_inputs words) device e.disk head) ran

  -- they were refused
  pub ran_headless : (refusal : Refusal) → AnsweredByPlan {X = Head} (head_inputs words) (head_plan files words) (Err refusal) a b → e.report ≡ unopened (Some refusal) → e.disk' ≡ e.disk →
      e.output' ≡ e.output → RanOver device (create_plan device e.disk files words) e a b
  ran_headless refusal read report same silent =
      ran_unread device e (head_plan files words) (new_archive_plan (head_inputs words) device e.disk) a b (head_inputs words) refusal read report same silent

-- ---- which answer is due

-- the text of a script creates the same tables each time, or is refused in one way
module _ (text : List ℕ) where
  abbrev Typed : Result (List TypedStatement) Refusal → Type 0
  Typed = IsScriptAnswer ScriptPlace.Create (codes "tm" ∷ []) [] text

  typed_once : (x y : Result (List TypedStatement) Refusal) → Typed x → Typed y → x ≡ y
  typed_once = one_script_answer ScriptPlace.Create (codes "tm" ∷ []) [] text

  same_script : (x y : List TypedStatement) → Typed (Ok x) → Typed (Ok y) → x ≡ y
  same_script x y h k = let same : ◌≡◌ {A = Result (List TypedStatement) Refusal} (Ok x) (Ok y) = typed_once (Ok x) (Ok y) h k in cc

  apart : (x : List TypedStatement) (refusal : Refusal) → Typed (Ok x) → Typed (Err refusal) → ⊥
  apart x refusal h k = let same : ◌≡◌ {A = Result (List TypedStatement) Refusal} (Ok x) (Err refusal) = typed_once (Ok x) (Err refusal) h k in absurd (cc (same))

  few_or_many : (x y : List TypedStatement) → Typed (Ok x) → Typed (Ok y) → (tables : List (List ℕ)) → tables ≡ tables_with x → length tables ≤ limit_of Tables →
      limit_of Tables < length (tables_with y) → ⊥
  few_or_many x y h k tables is few many =
      let same : tables ≡ tables_with y = is ∙ ap tables_with (same_script x y h k) in let n = ap (λ (t : List (List ℕ)). length t) same in omega (arith, few, many, n)

  one_tables_answer : (a b : Result (List (List ℕ)) Refusal) → IsTablesAnswer text a → IsTablesAnswer text b → a ≡ b
  one_tables_answer (Ok a) (Ok b) h k = ap Ok (h.2 ∙ ap tables_with (same_script h.0 k.0 h.1 k.1) ∙ sym k.2)
  one_tables_answer (Ok a) (Err b) h (inl k) = absurd (apart h.0 b h.1 k)
  one_tables_answer (Ok a) (Err b) h (inr k) = absurd (few_or_many h.0 k.0 h.1 k.1 a h.2 h.3 k.2)
  one_tables_answer (Err a) (Ok b) (inl h) k = absurd (apart k.0 a k.1 h)
  one_tables_answer (Err a) (Ok b) (inr h) k = absurd (few_or_many k.0 h.0 k.1 h.1 b k.2 k.3 h.2)
  one_tables_answer (Err a) (Err b) (inl h) (inl k) =
      let same : ◌≡◌ {A = Result (List TypedStatement) Refusal} (Err a) (Err b) = typed_once (Err a) (Err b) h k in let is : a ≡ b = cc in ap Err is
  one_tables_answer (Err a) (Err b) (inl h) (inr k) = absurd (apart k.0 a k.1 h)
  one_tables_answer (Err a) (Err b) (inr h) (inl k) = absurd (apart h.0 b h.1 k)
  one_tables_answer (Err a) (Err b) (inr h) (inr k) = ap Err (h.3 ∙ sym k.3)

head_with : List (List ℕ) → Database → Head
head_with tables mdb = record { tables = tables; mdb = mdb }

same_head : (x y : Head) → x.tables ≡ y.tables → x.mdb ≡ y.mdb → x ≡ y
unfolding head_with
same_head x y tables mdb = ap (λ (t : List (List ℕ)). head_with t x.mdb) tables ∙ ap (λ (m : Database). head_with y.tables m) mdb

-- sheets and a script give one head, or are refused in one way
pub one_head_answer : (raw : RawMdb) (text : List ℕ) (a b : Result Head Refusal) → IsHeadAnswer raw text a → IsHeadAnswer raw text b → a ≡ b
one_head_answer raw text a b = go a b
  where
    clash : (refusal : Refusal) → sheets_refusal raw ≡ None → sheets_refusal raw ≡ Some refusal → ⊥
    clash refusal none some = let same : ◌≡◌ {A = Option Refusal} None (Some refusal) = sym none ∙ some in cc

    go : (a b : Result Head Refusal) → IsHeadAnswer raw text a → IsHeadAnswer raw text b → a ≡ b
    go (Ok a) (Ok b) h k =
        let same : ◌≡◌ {A = Result (List (List ℕ)) Refusal} (Ok a.tables) (Ok b.tables) = one_tables_answer text (Ok a.tables) (Ok b.tables) h.1 k.1 in
        let tables : a.tables ≡ b.tables = cc in ap Ok (same_head a b tables (h.2 ∙ sym k.2))
    go (Ok a) (Err b) h (inl k) = absurd (clash b h.0 k)
    go (Ok a) (Err b) h (inr k) =
        let same : ◌≡◌ {A = Result (List (List ℕ)) Refusal} (Ok a.tables) (Err b) = one_tables_answer text (Ok a.tables) (Err b) h.1 k.1 in absurd (cc (same))
    go (Err a) (Ok b) (inl h) k = absurd (clash a k.0 h)
    go (Err a) (Ok b) (inr h) k =
        let same : ◌≡◌ {A = Result (List (List ℕ)) Refusal} (Err a) (Ok b.tables) = one_tables_answer text (Err a) (Ok b.tables) h.1 k.1 in absurd (cc (same))
    go (Err a) (Err b) (inl h) (inl k) = let same : ◌≡◌ {A = Option Refusal} (Some a) (Some b) = sym h ∙ k in let is : a ≡ b = cc in ap Err is
    go (Err a) (Err b) (inl h) (inr k) = absurd (clash a k.0 h)
    go (Err a) (Err b) (inr h) (inl k) = absurd (clash b h.0 k)
    go (Err a) (Err b) (inr h) (inr k) =
        let same : ◌≡◌ {A = Result (List (List ℕ)) Refusal} (Err a) (Err b) = one_tables_answer text (Err a) (Err b) h.1 k.1 in let is : a ≡ b = cc in ap Err is

checks_determined : (sources : ℕ) (raw : RawMdb) (text : List ℕ) → IsDetermined (checking_plan sources raw text)
checks_determined sources raw text = (one_head_answer raw text, λ answer is. answered_determined sources answer)

script_read_determined : (all : Files) (script : Option (List ℕ)) (sources : ℕ) → IsDetermined (named_script_plan (Some all) script sources)
script_read_determined all None sources = tt
script_read_determined all (Some name) sources = reads_determined ScriptOctets (λ octets. octets) all name sources

pub holds_once : (image : Image) (a b : Bool) → HasArchiveAs image a → HasArchiveAs image b → a ≡ b
holds_once image true true h k = refl
holds_once image false false h k = refl
holds_once image true false h k = absurd (one-not-none (image 0) h.0 h.1 k)
holds_once image false true h k = absurd (one-not-none (image 0) k.0 k.1 h)

makes_determined : {D : Type 0} (sources : ℕ) (device : Device D) (disk : D) (head : Head) → IsTrue device.is_transparent → IsDetermined (new_archive_plan sources device disk head)
makes_determined sources device disk head known = (λ a b h k. holds_once (device.reads disk) a b (h known) (k known), λ there h. each there)
  where
    each : (there : Bool) → IsDetermined (after_making sources head there)
    each true = tt
    each false = tt

pub create_determined : {D : Type 0} (device : Device D) (disk : D) (files : Option Files) (words : CreateWords) → IsTrue device.is_transparent → IsSome files →
    IsDetermined (create_plan device disk files words)
create_determined device disk None words known some = absurd (cc (some))
create_determined device disk (Some all) words known some =
    let behind = 0 + 3 in
    determined (map_done nothing_done (head_plan (Some all) words 0)) (new_archive_plan (head_inputs words) device disk)
    (determined_map_done nothing_done (head_plan (Some all) words 0)
    (determined (sheets_plan (Some all) words.parameters words.calibrations words.containers 0) (script_behind_plan (Some all) words.script behind)
    (sheets_determined all words.parameters words.calibrations words.containers 0)
    (λ raw. determined (named_script_plan (Some all) words.script behind) (checking_plan (behind + named_inputs words.script) raw) (script_read_determined all words.script behind)
    (checks_determined (behind + named_inputs words.script) raw))))
    (λ head. makes_determined (head_inputs words) device disk head known)
