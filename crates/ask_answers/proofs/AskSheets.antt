-- Sheets of asks: read before all else, checked, and answered.
use Rattle.std.proofs.Common.{◌≡◌, ◌∙◌, ◌+◌, ◌<◌, ◌⊎◌, inl, inr, ℕ, suc, List, [], ◌∷◌, ◌++◌, length, Option, Some, None, refl, sym, ap, subst, arith, append_assoc}
use Rattle.std.specs.Prelude.{Result, Ok, Err, unwrap_or}
use Rattle.std.specs.Arc.{arc_value}
use Rattle.arch_disk.specs.Disk.{Device}
use Rattle.asks.specs.declared.ask.Ask.{Ask}
use Rattle.asks.specs.declared.ask.Ask.TheVariants.{Values}
use Rattle.asks.specs.declared.ask.Answer.{Answer}
use Rattle.arch_types.specs.declared.cell.Cell.{Cell}
use Rattle.refusals.specs.declared.refusal.Refusal.{Refusal}
use Rattle.refusals.specs.declared.refusal.Refusal.TheVariants.{OutOfMemory, WriteFault}
use Rattle.refusals.specs.declared.refusal.Which.TheVariants.{SheetOctets}
use Rattle.archive_store.specs.Entries.{Archive, FilledArchive}
use Rattle.archive_store.specs.declared.finding.FoundRequest.{FoundRequest}
use Rattle.archive_store.specs.Finding.{IsRequestFound}
use Rattle.command_plans.specs.Plan.{OfMemory, OfInputs, CommandPlan, Way, Returned, Stopped, Interrupted, Allows, IsDetermined, and_then, map_done, way_map_done}
use Rattle.command_plans.proofs.Plans.{allows_map_done, cut, determined, determined_map_done, ended, gave}
use Rattle.outer_traits.specs.declared.print_fault.PrintFault.{PrintFault}
use Rattle.outer_traits.specs.declared.print_fault.PrintFault.TheVariants as unprinted
use Rattle.line_buffer.specs.Printed.{IsPrinted, PrintsRows, PrintsText}
use Rattle.command_runs.specs.Finishing.{IsFinished}
use Rattle.line_buffer.proofs.PrintedTexts.{all_then, cut_front, part_front, printed_cut, printed_on, rows_front, rows_then}
use Rattle.command_plans.specs.Inputs.{AnsweredByPlan, WasRead}
use Rattle.command_plans.proofs.Inputs.{reads_determined}
use Rattle.history_items.specs.Databases.{database_in}
use Rattle.mdb_items.specs.Database.{Database}
use Rattle.mdb_sheets.specs.Asks.{asks_of}
use Rattle.mdb_sheets.specs.Plans.{ask_sheet_plan}
use Rattle.outer_traits.specs.Outside.{Files, Stays, WritesSome}
use Rattle.outer_traits.specs.States.{InputsState, OutputState}
use Rattle.command_plans.specs.Ledger.{UsedInputs}
use Rattle.command_plans.proofs.Ledgers.{used_inputs_then}
use Rattle.retrieval.specs.AnswerText.{answer_lines}
use Rattle.refusals.specs.Refusal.{refusal_of_print}
use Rattle.retrieval.specs.FilledAnswer.{IsFilledAnswer, filled_answer}
use Rattle.ask_answers.specs.Asks.{AreAnswerable, ArePrinted, AreRefused, after_asks_check, archive_ask_text, archive_asks_text, asked_plan, asks_check_plan, with_sources}
use Rattle.command_runs.specs.Command.{Progress, Effects, EndedAt, HasEffects, Ran, RanOver, failed_at, nothing_done, sources_at}
use Rattle.command_runs.specs.Report.{unopened}
use Rattle.command_runs.proofs.OverInputs.{ran_unread}

-- ---- an input is read before all else

-- it was read, and what followed ran
module _ {D : Type 0} (device : Device D) (e : Effects D) {X : Type 0} (plan : ℕ → CommandPlan ℕ X) (next : X → CommandPlan Progress ⊥) (a m b : InputsState) where
  pub ran_behind : (x : X) → WasRead plan x 1 a m → RanOver device (next x) e m b → RanOver device (and_then (map_done nothing_done (plan 0)) (λ (x : X). map_done (with_sources 1) (next x))) e a b
  ran_behind x read went = behind went.ran.way went.ran.allows went.ran.did went.inputs
    where
      allowed : (way : Way Progress ⊥) → Allows (next x) way → Allows (and_then (map_done nothing_done (plan 0)) (λ (x : X). map_done (with_sources 1) (next x))) (way_map_done (with_sources 1) way)
      allowed way allows =
          gave (map_done nothing_done (plan 0)) (λ (x : X). map_done (with_sources 1) (next x)) x (way_map_done (with_sources 1) way)
          (allows_map_done nothing_done (plan 0) (Returned x) (read.allows 0)) (allows_map_done (with_sources 1) (next x) way allows)

      behind : (way : Way Progress ⊥) → Allows (next x) way → HasEffects device e way → UsedInputs m b (sources_at way) (failed_at way OfInputs) →
          RanOver device (and_then (map_done nothing_done (plan 0)) (λ (x : X). map_done (with_sources 1) (next x))) e a b
      behind (Returned x) allows did used = absurd x
      behind (Stopped s refusal) allows did used = record {
        ran = record {
          way = Stopped (with_sources 1 s) refusal;
          allows = allowed (Stopped s refusal) allows;
          did = record { report = did.report; printed = did.printed; output = did.output; disk = did.disk; log = did.log; pending = did.pending };
        };
        inputs = used_inputs_then a m b 1 s.sources (s.failed OfInputs) read.used used;
      }
      behind (Interrupted s fault) allows did used = record {
        ran = record {
          way = Interrupted (with_sources 1 s) fault;
          allows = allowed (Interrupted s fault) allows;
          did = record { report = did.report; printed = did.printed; output = did.output; disk = did.disk; log = did.log; pending = did.pending };
        };
        inputs = used_inputs_then a m b 1 s.sources (failed_at (Interrupted s fault) OfInputs) read.used used;
      }

-- ---- the sheet is read

module _ {D : Type 0} (device : Device D) (e : Effects D) (files : Option Files) (next : Result (List Ask) Refusal → CommandPlan Progress ⊥) (a : InputsState) where
  -- there is none
  pub ran_unasked : (b : InputsState) (asked : Option (List ℕ)) → asked ≡ None → RanOver device (next (Ok [])) e a b → RanOver device (asked_plan files asked next) e a b
  ran_unasked b asked is went = rw is went

  module _ (m b : InputsState) (asked : Option (List ℕ)) (name : List ℕ) (is : asked ≡ Some name) where
    -- it was read, and what followed ran
    pub ran_asked : (sheet : Result (List Ask) Refusal) → WasRead (ask_sheet_plan files name) sheet 1 a m → RanOver device (next sheet) e m b → RanOver device (asked_plan files asked next) e a b
    ran_asked sheet read went = rw is (ran_behind device e (ask_sheet_plan files name) next a m b sheet read went)

  -- it wasn't read
  pub ran_unread_sheet : (b : InputsState) (asked : Option (List ℕ)) (name : List ℕ) → asked ≡ Some name → (refusal : Refusal) →
      AnsweredByPlan {X = Result (List Ask) Refusal} 1 (ask_sheet_plan files name) (Err refusal) a b → e.report ≡ unopened (Some refusal) → e.disk' ≡ e.disk → e.output' ≡ e.output →
      RanOver device (asked_plan files asked next) e a b
  ran_unread_sheet b asked name is refusal read report same silent =
      rw is (ran_unread device e (ask_sheet_plan files name) (λ asks. map_done (with_sources 1) (next asks)) a b 1 refusal read report same silent)

-- which answer is due
pub asked_determined : (all : Files) (name : Option (List ℕ)) (next : Result (List Ask) Refusal → CommandPlan Progress ⊥) → ((sheet : Result (List Ask) Refusal) → IsDetermined (next sheet)) →
    IsDetermined (asked_plan (Some all) name next)
asked_determined all None next each = each (Ok [])
asked_determined all (Some name) next each =
    determined (map_done nothing_done (ask_sheet_plan (Some all) name 0)) (λ asks. map_done (with_sources 1) (next asks))
    (determined_map_done nothing_done (ask_sheet_plan (Some all) name 0) (reads_determined SheetOctets (λ octets. asks_of octets) all name 0))
    (λ asks. determined_map_done (with_sources 1) (next asks) (each asks))

-- ---- the asks are checked

module _ (s : Progress) (archive : Archive) where
  pub check_determined : (sheet : Result (List Ask) Refusal) → IsDetermined (asks_check_plan s archive sheet)
  check_determined (Err refusal) = tt
  check_determined (Ok asks) = (λ a b h k. h ∙ sym k, λ found h. each found)
    where
      each : (found : Option Refusal) → IsDetermined (after_asks_check s asks found)
      each None = tt
      each (Some refusal) = tt

  -- none is refused,
  pub checked : (sheet : Result (List Ask) Refusal) (asks : List Ask) → AreAnswerable archive sheet asks → Allows (asks_check_plan s archive sheet) (Returned asks)
  checked sheet asks is = subst (λ (r : Result (List Ask) Refusal). Allows (asks_check_plan s archive r) (Returned asks)) (sym is.0) (inr (None, sym is.1, refl))

  -- or the sheet is
  pub check_refused : (sheet : Result (List Ask) Refusal) (refusal : Refusal) → AreRefused archive sheet refusal →
      Allows (asks_check_plan s archive sheet) (Stopped s (Some refusal)) ⊎ ((refusal ≡ OutOfMemory) × Allows (asks_check_plan s archive sheet) (Interrupted s OfMemory))
  check_refused (Err refused) refusal is = inl (rw is refl)
  check_refused (Ok asks) refusal (inl is) = inl (inr (Some refusal, sym is, refl))
  check_refused (Ok asks) refusal (inr is) = inr (is, inl refl)

  -- and nothing else was done
  pub ran_refused : {D : Type 0} (device : Device D) (e : Effects D) (next : List Ask → CommandPlan Progress ⊥) (sheet : Result (List Ask) Refusal) (refusal : Refusal) →
      AreRefused archive sheet refusal → EndedAt device e s (Some refusal) s.failed → Ran device (and_then (asks_check_plan s archive sheet) next) e
  ran_refused device e next sheet refusal is did = elim (check_refused sheet refusal is) [
    | inl stopped ↦ record { way = Stopped s (Some refusal); allows = ended (asks_check_plan s archive sheet) next s (Some refusal) stopped; did = did }
    | inr memory ↦ record {
      way = Interrupted s OfMemory;
      allows = cut (asks_check_plan s archive sheet) next s OfMemory memory.1;
      did = record {
        report = did.report ∙ ap (λ (r : Refusal). record s.report { refusal = Some r }) memory.0;
        printed = did.printed;
        output = did.output;
        disk = did.disk;
        log = did.log;
        pending = did.pending;
      };
    }
  ]

-- ---- asks one after the other

-- the text of asks is that of the first, and of those behind it
pub next_asks : (filled : FilledArchive) (k : ℕ) (asks : List Ask) (ask : Ask) (rest : List Ask) → asks ≡ ask ∷ rest → archive_ask_text filled k ask ++ archive_asks_text filled (k + 1) rest ≡ archive_asks_text filled k asks
next_asks filled k asks ask rest e =
    let more : suc k ≡ k + 1 = omega arith in
    ap (λ (n : ℕ). archive_ask_text filled k ask ++ archive_asks_text filled n rest) (sym more) ∙ ap (archive_asks_text filled k) (sym e)

-- a text that was printed is another, where rows are told
rows_as : {X : Type 0} (Told : Type 0) (r : Result X PrintFault) (first new : OutputState) (buffered a b left : List ℕ) → (Told → a ≡ b) → PrintsRows Told r first new buffered a left → PrintsRows Told r first new buffered b left
rows_as Told r first new buffered a b left same (printed, is, put) = (printed, λ tells. is tells ∙ same tells, put)

-- Texts were printed, and where rows are told others stand behind them, of which one comes now.
module _ (Told : Type 0) (first now new : OutputState) (printed held left all text more : List ℕ) (tells : Told → printed ++ left ≡ all) (is : IsPrinted first now printed held) (next : text ++ more ≡ left) where
  told_on : (here : List ℕ) → (Told → here ≡ text) → Told → (printed ++ here) ++ more ≡ all
  told_on here told t = append_assoc printed here more ∙ ap (λ (l : List ℕ). printed ++ (l ++ more)) (told t) ∙ ap (λ (l : List ℕ). printed ++ l) next ∙ tells t

  -- it was printed,
  pub asks_on : {X : Type 0} (x : X) (last : List ℕ) → PrintsRows {X = X} Told (Ok x) now new held text last → (so_far : List ℕ) × (Told → so_far ++ more ≡ all) × IsPrinted first new so_far last
  asks_on x last (here, told, put) = (printed ++ here, told_on here told, printed_on first now new printed here held last is put)

  -- or not to its end
  pub asks_fail : (X : Type 0) {Y : Type 0} (r : Result Y PrintFault) (e : PrintFault) (last : List ℕ) → r ≡ Err e → PrintsRows {X = X} Told (Err e) now new held text last → PrintsRows {X = Y} Told r first new [] all last
  asks_fail X {Y} r e last of failed =
      rows_as Told r first new [] ((printed ++ text) ++ more) all last (told_on text (λ t. refl))
      (rows_front Told {X = Y} X r e first new [] (printed ++ text) more last last of
      (rows_then Told {X = X} {Y = Unit {0}} tt (Err e) first now new [] printed text held last (printed, λ t. refl, is) failed))

-- one failed whose text is known, a front of whose front is a front of all, behind some without a failed write
pub one_failed : {X : Type 0} (r : Result X PrintFault) (e inner : PrintFault) (first now new : OutputState) (all part lost last : List ℕ) → r ≡ Err e → e ≡ inner → Stays first.faults now.faults →
    PrintsText {X = X} (Err inner) now new part lost → (WritesSome now.written new.written part → WritesSome first.written new.written all) → PrintsText r first new all last
one_failed r e unprinted.Write first now new all part lost last is same stays failed more = rw (is, same) (record {
  some = more failed.some;
  later = let later = failed.later in omega (arith, stays, later);
  failed = λ small. let risen = failed.failed small in omega (arith, stays, risen);
})
one_failed r e unprinted.DiskFault first now new all part lost last is same stays failed more = absurd failed
one_failed r e (unprinted.Damaged file at) first now new all part lost last is same stays failed more = absurd failed
one_failed r e unprinted.OutOfMemory first now new all part lost last is same stays failed more = rw (is, same) (record { some = more failed.some; no_fault = failed.no_fault ∙ stays })

-- ---- what is printed

same_number : (a b : ℕ) → ◌≡◌ {A = Option ℕ} (Some a) (Some b) → a ≡ b
same_number a b e = cc

-- the lines of the answer to a request that was found are the text of its ask
pub found_text : (filled : FilledArchive) (k : ℕ) (found : FoundRequest) (answer : Answer) → IsRequestFound (database_in filled.plain.head.mdb filled.plain.history) found
    → IsFilledAnswer (database_in filled.plain.head.mdb filled.plain.history) filled.plain.exponent filled.plain.history filled.fillings found.request answer →
    answer_lines k answer.front (arc_value found.mdb) found.number answer.cells ≡ archive_ask_text filled k (Values found.request)
found_text filled k found answer at is =
    let db = database_in filled.plain.head.mdb filled.plain.history in
    let history = filled.plain.history in
    let fillings = filled.fillings in
    let number = same_number is.number found.number (sym is.named ∙ at.number) in
    ap (λ (n : ℕ). answer_lines k n (arc_value found.mdb) found.number answer.cells) is.front
    ∙ ap (λ (d : Database). answer_lines k (length history) d found.number answer.cells) at.mdb
    ∙ ap (λ (cells : List Cell). answer_lines k (length history) db found.number cells) (is.cells ∙ ap (λ (n : ℕ). filled_answer db n found.request filled.plain.exponent history fillings) number)
    ∙ sym (ap (λ (o : Option ℕ). answer_lines k (length history) db (unwrap_or o 0) (filled_answer db (unwrap_or o 0) found.request filled.plain.exponent history fillings)) at.number)

-- all went on, or not to its end, with a line behind it
pub finished_line : (asks : List Ask) (refusal known : Option Refusal) (before mid now : OutputState) (text left line last : List ℕ) → known ≡ refusal → last ≡ left ++ line →
    IsPrinted before mid text left → IsFinished refusal mid now last → ArePrinted asks known before now (text ++ line)
finished_line asks refusal known before mid now text left line last is put printed finished =
    rw is (each refusal (subst (IsFinished refusal mid now) put finished))
  where
    each : (o : Option Refusal) → IsFinished o mid now (left ++ line) → ArePrinted asks o before now (text ++ line)
    each None written = all_then before mid now text line left printed written
    each (Some WriteFault) part = printed_cut before mid now text line left printed part
    each (Some other) never = absurd never

-- the answers didn't, with a line that was to come
pub unfinished_line : (asks : List Ask) (fault : PrintFault) (before now : OutputState) (text left line : List ℕ) → 0 < length asks → PrintsText {X = Unit {0}} (Err fault) before now text left →
    ArePrinted asks (Some (refusal_of_print fault)) before now (text ++ line)
unfinished_line asks unprinted.Write before now text left line some printed = cut_front before now text line printed
unfinished_line asks unprinted.DiskFault before now text left line some printed = absurd printed
unfinished_line asks (unprinted.Damaged file at) before now text left line some printed = absurd printed
unfinished_line asks unprinted.OutOfMemory before now text left line some printed = (some, part_front before now text line printed)
