-- An input that is read to its end goes as its plan may go.
use Rattle.std.proofs.Common.{◌≡◌, inl, inr, ℕ, ◌+◌, ◌^◌, ◌<◌, ◌≤◌, List, length, Bool, true, false, Option, Some, refl, sym, subst, arith}
use Rattle.std.specs.Prelude.{Err}
use Rattle.refusals.specs.declared.refusal.Refusal.{Refusal}
use Rattle.refusals.specs.declared.refusal.Refusal.TheVariants as refused
use Rattle.refusals.specs.declared.refusal.Which.{Which}
use Rattle.refusals.specs.Limits.{limit_of}
use Rattle.outer_traits.specs.Outside.{Files}
use Rattle.outer_traits.specs.Whole.{IsInput, IsInputFault, ReadingCounted, ReadingGiven}
use Rattle.outer_traits.specs.declared.whole.ReadFault.{ReadFault}
use Rattle.outer_traits.specs.declared.whole.ReadFault.TheVariants.{Missing, Failed, TooLong, OutOfMemory}
use Rattle.command_plans.specs.Plan.{OfMemory, OfInputs, Stopped, Interrupted, Allows}
use Rattle.outer_traits.specs.States.{InputsState}
use Rattle.command_plans.specs.Ledger.{Counted, UsedInputs, given_more}
use Rattle.command_plans.proofs.Ledgers.{risen_counted}
use Rattle.command_plans.specs.Inputs.{IsFaultRefusal, AnsweredByPlan, WasRead, input_plan}
use Rattle.command_plans.proofs.Inputs.{input_long, input_missing, input_was_read, no_memory, no_memory_then, opening_failed, read_failed, there_some}

none : (before : ℕ) → before ≡ before + 0
none before = omega arith

module _ {X : Type 0} (files : Option Files) (which : Which) (of : List ℕ → X) (name : List ℕ) (old new : InputsState) (same : new.files ≡ old.files)
    (closed : old.open_sources + 1 < 2 ^ 64 → new.open_sources ≡ old.open_sources) (reliable : old.never_fails → new.never_fails × (new.faults ≡ old.faults)) where
  used : (sources : ℕ) (failed : Bool) → new.given ≡ given_more sources old.given → Counted failed old.faults new.faults → UsedInputs old new sources failed
  used sources failed gave counted = record { files = same; closed = λ few. closed (omega (arith, few)); gave = gave; counted = counted; reliable = reliable }

  -- it was read
  pub was_read : (octets : List ℕ) → IsInput files name octets → length octets ≤ limit_of which → new.given ≡ given_more 1 old.given → new.faults ≡ old.faults →
      WasRead (input_plan files which of name) (of octets) 1 old new
  was_read octets is short gave still = record { allows = λ before. input_was_read files which of name octets before is short; used = used 1 false gave still }

  -- it was read, and there was no memory for what is made of it
  pub without_memory : (octets : List ℕ) → IsInput files name octets → new.given ≡ given_more 1 old.given → new.faults ≡ old.faults →
      AnsweredByPlan {X = X} 1 (input_plan files which of name) (Err refused.OutOfMemory) old new
  without_memory octets is gave still = inr (record {
    failed = false;
    sources = 1;
    refusal_is = refl;
    allows = λ before. no_memory_then files which of name before (there_some files name octets is);
    used = used 1 false gave still;
  })

  missing_memory : new.given ≡ old.given → new.faults ≡ old.faults → AnsweredByPlan {X = X} 1 (input_plan files which of name) (Err refused.OutOfMemory) old new
  missing_memory gave still =
      inr (record { failed = false; sources = 0; refusal_is = refl; allows = λ before. subst (λ (s : ℕ). Allows (input_plan files which of name before) (Interrupted s OfMemory)) (none before) (no_memory files which of name before); used = used 0 false gave still })

  -- it wasn't
  pub not_read : (Y : Type 0) (fault : ReadFault) (refusal : Refusal) → IsInputFault files name (limit_of which) old.faults new.faults fault → IsFaultRefusal name which fault refusal →
      ReadingGiven {X = Y} (Err fault) old.given new.given → ReadingCounted {X = Y} (Err fault) old.faults new.faults → old.faults ≤ new.faults →
      AnsweredByPlan {X = X} 1 (input_plan files which of name) (Err refusal) old new
  not_read Y Missing refusal h (inl is) gave still later = subst (λ (r : Refusal). AnsweredByPlan {X = X} 1 (input_plan files which of name) (Err r) old new) (sym is)
      (inl (record { sources = 0; allows = λ before. subst (λ (s : ℕ). Allows (input_plan files which of name before) (Stopped s (Some (refused.Missing name)))) (none before) (input_missing files which of name before h); used = used 0 false gave still }))
  not_read Y Missing refusal h (inr is) gave still later = subst (λ (r : Refusal). AnsweredByPlan {X = X} 1 (input_plan files which of name) (Err r) old new) (sym is) (missing_memory gave still)
  not_read Y Failed refusal h is (inl gave) risen later = subst (λ (r : Refusal). AnsweredByPlan {X = X} 1 (input_plan files which of name) (Err r) old new) (sym is) (inr (record {
    failed = true;
    sources = 0;
    refusal_is = refl;
    allows = λ before. subst (λ (s : ℕ). Allows (input_plan files which of name before) (Interrupted s OfInputs)) (none before) (opening_failed files which of name before h.1);
    used = used 0 true gave (risen_counted old.faults new.faults later risen);
  }))
  not_read Y Failed refusal h is (inr gave) risen later = subst (λ (r : Refusal). AnsweredByPlan {X = X} 1 (input_plan files which of name) (Err r) old new) (sym is) (inr (record {
    failed = true;
    sources = 1;
    refusal_is = refl;
    allows = λ before. read_failed files which of name before h.1;
    used = used 1 true gave (risen_counted old.faults new.faults later risen);
  }))
  not_read Y TooLong refusal h is gave still later = subst (λ (r : Refusal). AnsweredByPlan {X = X} 1 (input_plan files which of name) (Err r) old new) (sym is)
      (inl (record { sources = 1; allows = λ before. input_long files which of name before h; used = used 1 false gave still }))
  not_read Y OutOfMemory refusal h is (inl gave) still later = subst (λ (r : Refusal). AnsweredByPlan {X = X} 1 (input_plan files which of name) (Err r) old new) (sym is) (missing_memory gave still)
  not_read Y OutOfMemory refusal h is (inr gave) still later = subst (λ (r : Refusal). AnsweredByPlan {X = X} 1 (input_plan files which of name) (Err r) old new) (sym is) (inr (record {
    failed = false;
    sources = 1;
    refusal_is = refl;
    allows = λ before. no_memory_then files which of name before h;
    used = used 1 false gave still;
  }))
