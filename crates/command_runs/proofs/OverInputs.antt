-- Commands that read inputs first: how their plans go, and where the reading ends.
use Rattle.std.proofs.Common.{◌≡◌, ◌+◌, ◌∙◌, inl, inr, ℕ, Bool, true, false, List, Option, Some, refl, ap, subst, arith}
use Rattle.std.specs.Prelude.{Err}
use Rattle.arch_disk.specs.Disk.{Device}
use Rattle.refusals.specs.declared.refusal.Refusal.{Refusal}
use Rattle.refusals.specs.declared.refusal.Refusal.TheVariants.{OutOfMemory}
use Rattle.refusals.specs.declared.refusal.Which.{Which}
use Rattle.outer_traits.specs.Outside.{Files}
use Rattle.outer_traits.specs.Whole.{IsInput}
use Rattle.command_plans.specs.Plan.{OfMemory, OfInputs, CommandPlan, Way, Returned, Stopped, Interrupted, Allows, EachEnd, and_then, interruption_refusal, map_done}
use Rattle.command_plans.proofs.Plans.{allows_map_done, cut, end_of, ended, gave}
use Rattle.command_plans.specs.Inputs.{AnsweredByPlan, WasRead, reading_fault, input_plan}
use Rattle.command_plans.proofs.Inputs.{no_memory_then, there_some}
use Rattle.outer_traits.specs.States.{InputsState}
use Rattle.command_plans.specs.Ledger.{UsedInputs}
use Rattle.command_plans.proofs.Ledgers.{inputs_unused}
use Rattle.command_runs.specs.Command.{Progress, Effects, Ran, RanOver, failed_at, nothing_done, sources_at}
use Rattle.command_plans.specs.Reading.{IsInputUnread}
use Rattle.command_runs.specs.Report.{unopened}
use Rattle.command_runs.proofs.Commands.{no_text}

-- ---- a reading, and what follows

-- so many sources were given, and no call of the inputs failed
abbrev pub HasRead : ℕ → Way Progress ⊥ → Type 0
HasRead n way = (sources_at way ≡ n) × (failed_at way OfInputs ≡ false)

none_before : (n : ℕ) → n ≡ 0 + n
none_before n = omega arith

-- what asks nothing of the inputs goes so over any
pub over_any_inputs : {D : Type 0} (device : Device D) (e : Effects D) (plan : CommandPlan Progress ⊥) → EachEnd (HasRead 0) plan → Ran device plan e → (state : InputsState) →
    RanOver device plan e state state
over_any_inputs device e plan reads went state =
    let none = end_of (HasRead 0) plan went.way reads went.allows in
    record { ran = went; inputs = rw (none.0, none.1) (inputs_unused state) }

module _ {D : Type 0} (device : Device D) (e : Effects D) {X : Type 0} (plan : ℕ → CommandPlan ℕ X) (f : X → CommandPlan Progress ⊥) (a b : InputsState) (n : ℕ) where
  -- the inputs were read, and what followed asked no more of them
  pub ran_read : (x : X) → WasRead plan x n a b → EachEnd (HasRead n) (f x) → Ran device (f x) e → RanOver device (and_then (map_done nothing_done (plan 0)) f) e a b
  ran_read x read all went =
      let each = end_of (HasRead n) (f x) went.way all went.allows in record {
        ran = record {
          way = went.way;
          allows = gave (map_done nothing_done (plan 0)) f x went.way (allows_map_done nothing_done (plan 0) (Returned x) (read.allows 0)) went.allows;
          did = went.did;
        };
        inputs = rw (each.0, each.1) read.used;
      }

  cut_off : (failed : Bool) (sources : ℕ) (refusal : Refusal) → refusal ≡ interruption_refusal (reading_fault failed) → Allows (plan 0) (Interrupted (0 + sources) (reading_fault failed)) →
      UsedInputs a b sources failed → e.report ≡ unopened (Some refusal) → e.disk' ≡ e.disk → e.output' ≡ e.output → RanOver device (and_then (map_done nothing_done (plan 0)) f) e a b
  cut_off true sources refusal is allows used report same silent = record {
    ran = record {
      way = Interrupted (nothing_done (0 + sources)) OfInputs;
      allows = cut (map_done nothing_done (plan 0)) f (nothing_done (0 + sources)) OfInputs (allows_map_done nothing_done (plan 0) (Interrupted (0 + sources) OfInputs) allows);
      did = record {
        report = report ∙ ap (λ (r : Refusal). unopened (Some r)) is;
        printed = rw silent (no_text e.output.written);
        output = record { counted = rw silent refl };
        disk = same;
        log = tt;
        pending = tt;
      };
    };
    inputs = subst (λ (s : ℕ). UsedInputs a b s true) (none_before sources) used;
  }
  cut_off false sources refusal is allows used report same silent = record {
    ran = record {
      way = Interrupted (nothing_done (0 + sources)) OfMemory;
      allows = cut (map_done nothing_done (plan 0)) f (nothing_done (0 + sources)) OfMemory (allows_map_done nothing_done (plan 0) (Interrupted (0 + sources) OfMemory) allows);
      did = record {
        report = report ∙ ap (λ (r : Refusal). unopened (Some r)) is;
        printed = rw silent (no_text e.output.written);
        output = record { counted = rw silent refl };
        disk = same;
        log = tt;
        pending = tt;
      };
    };
    inputs = subst (λ (s : ℕ). UsedInputs a b s false) (none_before sources) used;
  }

  -- they weren't
  pub ran_unread : (refusal : Refusal) → AnsweredByPlan {X = X} n plan (Err refusal) a b → e.report ≡ unopened (Some refusal) → e.disk' ≡ e.disk → e.output' ≡ e.output →
      RanOver device (and_then (map_done nothing_done (plan 0)) f) e a b
  ran_unread refusal (inl r) report same silent = record {
    ran = record {
      way = Stopped (nothing_done (0 + r.sources)) (Some refusal);
      allows = ended (map_done nothing_done (plan 0)) f (nothing_done (0 + r.sources)) (Some refusal)
          (allows_map_done nothing_done (plan 0) (Stopped (0 + r.sources) (Some refusal)) (r.allows 0));
      did = record { report = report; printed = rw silent (no_text e.output.written); output = record { counted = rw silent refl }; disk = same; log = tt; pending = tt };
    };
    inputs = subst (λ (s : ℕ). UsedInputs a b s false) (none_before r.sources) r.used;
  }
  ran_unread refusal (inr r) report same silent = cut_off r.failed r.sources refusal r.refusal_is (r.allows 0) r.used report same silent

-- an input was read, and there was no memory for what is made of it
pub memory_behind : (files : Option Files) (which : Which) (name : List ℕ) (a b : InputsState) (octets : List ℕ) → WasRead (input_plan files which (λ read. read) name) octets 1 a b →
    IsInput files name octets → IsInputUnread files which name a b OutOfMemory
memory_behind files which name a b octets read is = inr (record {
  failed = false;
  sources = 1;
  refusal_is = refl;
  allows = λ before. no_memory_then files which (λ (octets : List ℕ). octets) name before (there_some files name octets is);
  used = read.used;
})
