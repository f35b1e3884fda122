-- From what `run` promises to what the plan of a job says.
use Rattle.std.proofs.Common.{◌≡◌, ◌⊎◌, ◌∙◌, inl, inr, ℤ, List, ℕ, [], true, Option, Some, None, refl, sym, ap, subst, append-nil}
use Rattle.std.specs.Prelude.{IsSomeAnd, IsTrue}
use Rattle.arch_disk.specs.Disk.{Device}
use Rattle.refusals.specs.declared.refusal.Refusal.{Refusal}
use Rattle.refusals.specs.declared.refusal.Refusal.TheVariants.{DiskFault, OutOfMemory, ReadFault, WriteFault, Damaged, NoArchive}
use Rattle.outer_traits.specs.Outside.{Files}
use Rattle.line_buffer.proofs.LineBuffers.{buffered_front}
use Rattle.command_plans.specs.Ledger.{Counted}
use Rattle.command_plans.specs.Plan.{CommandPlan, OfMemory, OfInputs, OfOutput, OfDisk, Interrupted, IsDetermined, Returned, Stopped, Way, Allows, Requires, no_failed_calls, refusal_at, with_failed_call, May, and_then, map_done}
use Rattle.command_plans.proofs.Plans.{required}
use Rattle.command_words.specs.Job.{Job, Scan, Values, Create, Load, Query, Sql, Recover, Verify, Make}
use Rattle.command_runs.specs.declared.report.Report.{Report}
use Rattle.command_runs.proofs.Making.{counted_by}
use Rattle.command_runs.specs.Command.{ArchiveFound, DamageFound, DiskOutcome, EndedAt, HasEffects, NoneFound, NotAsked, Progress, SeekingFailed, archive_sought, failed_at, nothing_done, opening_plan, seeking_failed}
use Rattle.archive_commands.proofs.Comparing.{verify_determined}
use Rattle.archive_commands.proofs.CreatePlan.{create_determined}
use Rattle.archive_commands.proofs.Recovered.{recover_determined}
use Rattle.dump_commands.proofs.ScanPlan.{scan_determined}
use Rattle.dump_commands.proofs.ValuesPlan.{values_determined}
use Rattle.load_command.proofs.LoadPlan.{load_determined}
use Rattle.make_command.proofs.MakePlan.{make_determined}
use Rattle.query_commands.proofs.QueryPlan.{query_determined}
use Rattle.query_commands.proofs.SqlPlan.{sql_determined}
use Rattle.archive_cli.specs.Run.{after_words, job_plan, run_plan}
use Rattle.command_laws.specs.Calls.{Call, HasKeptRows, IsInterruption, IsNoArchive, IsRefusedBy, IsRun, IsUnopened, Prints, PrintsSome, Succeeded, WasInterrupted, effects}
use Rattle.archive_store.specs.Entries.{FilledArchive}
use Rattle.archive_store.specs.Stands.{StandsFilled}
use Rattle.command_runs.proofs.Openings.{held_once}
use Rattle.command_laws.proofs.Ways.{due_alone}

-- ---- what was printed

-- nothing was printed, which is a prefix of any text
pub none_is_some : {D : Type 0} (e : Call D) (text : List ℕ) → Prints e [] → PrintsSome e text
none_is_some e text none = buffered_front e.output.written e.output'.written text text ([], refl, none)

-- a text was printed, which is a prefix of itself
pub all_is_some : {D : Type 0} (e : Call D) (text : List ℕ) → Prints e text → PrintsSome e text
all_is_some e text all = buffered_front e.output.written e.output'.written text [] (text, sym (append-nil text), all)

-- ---- refusals

-- there's no refusal, or one
pub none_or_some : {Q : Type 0} (r : Option Refusal) (refusal : Refusal) → r ≡ Some refusal → r ≡ None → Q
none_or_some r refusal is none = let never : ◌≡◌ {A = Option Refusal} (Some refusal) None = sym is ∙ none in absurd (cc (never))

pub same_refusal : (r : Option Refusal) (a b : Refusal) → r ≡ Some a → r ≡ Some b → a ≡ b
same_refusal r a b is other = let same : ◌≡◌ {A = Option Refusal} (Some a) (Some b) = sym is ∙ other in cc

-- a refusal that is an interruption was told
pub cut_off : {D : Type 0} (device : Device D) (e : Call D) (refusal : Refusal) → e.report.refusal ≡ Some refusal → IsInterruption device e refusal → WasInterrupted device e
cut_off device e refusal is cause = subst (λ (r : Option Refusal). IsSomeAnd r (IsInterruption device e)) (sym is) cause

-- ---- the end of a way

-- a call did what its way says where that ends, and the inputs failed where it says so
pub record IsEndOf {D : Type 0} (device : Device D) (e : Call D) (way : Way Progress ⊥) : Type 0 where
  pub did : HasEffects device (effects e) way
  pub read : Counted (failed_at way OfInputs) e.read_faults e.read_faults'

module _ {D : Type 0} {device : Device D} (e : Call D) (way : Way Progress ⊥) (end : IsEndOf device e way) where
  -- the refusal is that at its end
  pub reported : e.report.refusal ≡ refusal_at way
  reported = go way end.did
    where
      go : (w : Way Progress ⊥) → HasEffects device (effects e) w → e.report.refusal ≡ refusal_at w
      go (Returned x) did = absurd did
      go (Stopped s refusal) did = ap (λ (r : Report). r.refusal) did.report
      go (Interrupted s fault) did = ap (λ (r : Report). r.refusal) did.report

  -- it was refused, or it wasn't
  pub refused : (s : Progress) (refusal : Refusal) → way ≡ Stopped s (Some refusal) → IsRefusedBy device e refusal
  refused s refusal is = inl (reported ∙ ap refusal_at is)

  pub succeeded : (s : Progress) → way ≡ Stopped s None → Succeeded e ⊎ WasInterrupted device e
  succeeded s is = inl (reported ∙ ap refusal_at is)

  -- it was cut off: memory was wanting,
  pub no_memory : (s : Progress) → way ≡ Interrupted s OfMemory → WasInterrupted device e
  no_memory s is = cut_off device e OutOfMemory (reported ∙ ap refusal_at is) tt

  -- or a call failed, of the inputs,
  pub unread_call : (s : Progress) → way ≡ Interrupted s OfInputs → WasInterrupted device e
  unread_call s is =
      let rose = subst (λ (w : Way Progress ⊥). Counted (failed_at w OfInputs) e.read_faults e.read_faults') is end.read in
      cut_off device e ReadFault (reported ∙ ap refusal_at is) rose.1

  -- of the output,
  pub unwritten_call : (s : Progress) → way ≡ Interrupted s OfOutput → WasInterrupted device e
  unwritten_call s is =
      let did = subst (HasEffects device (effects e)) is end.did in
      cut_off device e WriteFault (reported ∙ ap refusal_at is) did.output.counted.1

  -- or of the disk
  pub disk_call : (s : Progress) → (s.disk ≡ NotAsked → ⊥) → way ≡ Interrupted s OfDisk → WasInterrupted device e
  disk_call s asked is =
      let did = subst (HasEffects device (effects e)) is end.did in
      cut_off device e DiskFault (reported ∙ ap refusal_at is) (counted_by device e.disk e.disk' true s.disk asked did.disk)

  module _ (Q : Type 0) (s : Progress) where
    pub or_no_memory : way ≡ Interrupted s OfMemory → Q ⊎ WasInterrupted device e
    or_no_memory is = inr (no_memory s is)

    pub or_unread : way ≡ Interrupted s OfInputs → Q ⊎ WasInterrupted device e
    or_unread is = inr (unread_call s is)

    pub or_unwritten : way ≡ Interrupted s OfOutput → Q ⊎ WasInterrupted device e
    or_unwritten is = inr (unwritten_call s is)

    pub or_disk_failed : way ≡ Interrupted s OfDisk → (s.disk ≡ NotAsked → ⊥) → Q ⊎ WasInterrupted device e
    or_disk_failed is asked = inr (disk_call s asked is)

-- a way that was cut off, by what ended it
module _ {D : Type 0} {device : Device D} (e : Call D) (s : Progress) where
  pub memory_ended : IsEndOf device e (Interrupted s OfMemory) → WasInterrupted device e
  memory_ended end = no_memory e (Interrupted s OfMemory) end s refl

  pub output_ended : IsEndOf device e (Interrupted s OfOutput) → WasInterrupted device e
  output_ended end = unwritten_call e (Interrupted s OfOutput) end s refl

  pub disk_ended : IsEndOf device e (Interrupted s OfDisk) → (s.disk ≡ NotAsked → ⊥) → WasInterrupted device e
  disk_ended end asked = disk_call e (Interrupted s OfDisk) end s asked refl

-- ---- an archive that isn't opened

-- one that stands there is no such
pub archive_there : {D : Type 0} (device : Device D) (e : Call D) (filled : FilledArchive) (refusal : Refusal) → StandsFilled (device.reads e.disk) filled → IsNoArchive device e refusal → ⊥
archive_there device e filled NoArchive stands none = let never = held_once device e.disk NoneFound (ArchiveFound filled) none stands in cc (never)
archive_there device e filled (Damaged file at) stands damaged = let never = held_once device e.disk (DamageFound file at) (ArchiveFound filled) damaged stands in cc (never)
archive_there device e filled other stands is = is

-- so where none is opened nothing was printed
pub no_archive_silent : {D : Type 0} (device : Device D) (e : Call D) (refusal : Refusal) → IsUnopened e ⊎ HasKeptRows device e → IsNoArchive device e refusal → Prints e []
no_archive_silent device e refusal (inl unopened) is = unopened.silent
no_archive_silent device e refusal (inr kept) is = absurd (archive_there device e kept.0 refusal kept.1 is)

module _ {D : Type 0} {device : Device D} (e : Call D) (way : Way Progress ⊥) (end : IsEndOf device e way) where
  -- an opening is refused by it, whatever sources are counted
  pub no_archive_due : (f : Progress → Progress) → ((s : Progress) → (f s).disk ≡ s.disk) → (sources : ℕ) (next : FilledArchive → CommandPlan Progress ⊥) (refusal : Refusal) → IsNoArchive device e refusal
      → Requires (map_done f (and_then (opening_plan sources device e.disk) next)) way → IsRefusedBy device e refusal
  no_archive_due f same sources next refusal is (inl cut) = inr (no_memory e way end _ cut)
  no_archive_due f same sources next refusal is (inr (inl cut)) = inr (disk_call e way end (f (seeking_failed sources)) (λ none. sought (sym (same (seeking_failed sources)) ∙ none)) cut)
    where
      sought : ◌≡◌ {A = DiskOutcome} SeekingFailed NotAsked → ⊥
      sought never = cc (never)
  no_archive_due f same sources next refusal is (inr (inr asked)) = go refusal is
    where
      go : (refusal : Refusal) → IsNoArchive device e refusal → IsRefusedBy device e refusal
      go NoArchive none = refused e way end (f (archive_sought sources)) NoArchive (asked NoneFound (λ transparent. none))
      go (Damaged file at) damaged = refused e way end (f (archive_sought sources)) (Damaged file at) (asked (DamageFound file at) (λ transparent. damaged))
      go other never = absurd never

  -- so it is of one that begins a plan, behind room for a line
  pub opening_due : (sources : ℕ) (next : FilledArchive → CommandPlan Progress ⊥) (refusal : Refusal) → IsNoArchive device e refusal
      → Requires (May OfMemory (nothing_done sources) (and_then (opening_plan sources device e.disk) next)) way → IsRefusedBy device e refusal
  opening_due sources next refusal is (inl cut) = inr (no_memory e way end _ cut)
  opening_due sources next refusal is (inr d) = no_archive_due (λ s. s) (λ s. refl) sources next refusal is (due_alone (and_then (opening_plan sources device e.disk) next) way d)

-- ---- the way through the plan of a job

-- the outside has one answer to each question of it
job_determined : {D : Type 0} (device : Device D) (disk : D) (files : Files) (clock : Option ℤ) (job : Job) → IsTrue device.is_transparent → IsDetermined (job_plan device disk (Some files) clock job)
job_determined device disk files clock (Scan name) known = scan_determined (Some files) clock name refl
job_determined device disk files clock (Values words) known = values_determined (Some files) clock words refl
job_determined device disk files clock (Create words) known = create_determined device disk (Some files) words known refl
job_determined device disk files clock (Load words) known = load_determined device disk (Some files) clock words known refl
job_determined device disk files clock (Query name) known = query_determined device disk (Some files) name known refl
job_determined device disk files clock (Sql name) known = sql_determined device disk (Some files) name known refl
job_determined device disk files clock Recover known = recover_determined device disk known
job_determined device disk files clock Verify known = verify_determined device disk known
job_determined device disk files clock (Make seed) known = make_determined device disk clock seed known

module _ {D : Type 0} (device : Device D) (e : Call D) (files : Files) (clock : Option ℤ) (job : Job) (run : IsRun device e files clock job) where
  abbrev plan : CommandPlan Progress ⊥
  plan = job_plan device e.disk (Some files) clock job

  end : IsEndOf device e run.ran.way
  end = record { did = run.ran.did; read = run.read }

  -- memory was wanting for the words, or the call took a way through the plan of the job
  pub by_job : (P : Type 0) → (EndedAt device (effects e) (nothing_done 0) (Some OutOfMemory) (with_failed_call OfMemory no_failed_calls) → P)
      → ((way : Way Progress ⊥) → Allows plan way → IsEndOf device e way → P) → P
  by_job P wanting ran = go run.ran.allows
    where
      go : Allows (run_plan device e.disk (Some files) clock run.words) run.ran.way → P
      go (inl is) = wanting (subst (HasEffects device (effects e)) is run.ran.did)
      go (inr asked) = ran run.ran.way (subst (λ (j : Option Job). Allows (after_words device e.disk (Some files) clock j) run.ran.way) (asked.1 ∙ run.are) asked.2) end

  -- that way is the one that is due
  pub by_due : (P : Type 0) → (WasInterrupted device e → P) → ((way : Way Progress ⊥) → Requires plan way → IsEndOf device e way → P) → P
  by_due P cut due = go run.ran.allows
    where
      go : Allows (run_plan device e.disk (Some files) clock run.words) run.ran.way → P
      go (inl is) = cut (no_memory e run.ran.way end (nothing_done 0) is)
      go (inr asked) = due run.ran.way
          (required plan run.ran.way (job_determined device e.disk files clock job run.transparent)
          (subst (λ (j : Option Job). Allows (after_words device e.disk (Some files) clock j) run.ran.way) (asked.1 ∙ run.are) asked.2)) end
