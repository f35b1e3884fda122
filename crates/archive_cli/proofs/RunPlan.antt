-- How the program goes through its plan: words, a job, and the job's own plan.
use Rattle.std.proofs.Common.{◌≡◌, ◌∙◌, inl, inr, ℕ, ℤ, List, Option, Some, None, refl, sym, subst}
use Rattle.arch_disk.specs.Disk.{Device}
use Rattle.refusals.specs.declared.refusal.Refusal.{Refusal}
use Rattle.refusals.specs.declared.refusal.Refusal.TheVariants.{OutOfMemory, Usage}
use Rattle.outer_traits.specs.Outside.{Files}
use Rattle.command_plans.specs.Plan.{OfMemory, IsDue, Requires, Stopped, Interrupted}
use Rattle.command_words.specs.declared.job.Job.{Job}
use Rattle.command_words.specs.Job as spec
use Rattle.command_words.specs.Job.{IsNoJob, job_of}
use Rattle.command_words.specs.JobView.{job_view}
use Rattle.outer_traits.specs.States.{InputsState}
use Rattle.command_plans.proofs.Ledgers.{inputs_unused}
use Rattle.command_runs.specs.Command.{Effects, RanOver, nothing_done}
use Rattle.command_runs.specs.Report.{unopened}
use Rattle.archive_cli.specs.Run.{after_words, job_plan, run_plan}
use Rattle.command_runs.proofs.Commands.{no_text}

module _ {D : Type 0} (device : Device D) (e : Effects D) (files : Option Files) (next : Option ℤ) (a b : InputsState) where
  -- a command that was asked for went through its plan
  pub job_ran : (job asked : Job) → job ≡ asked → RanOver device (job_plan device e.disk files next (job_view asked)) e a b → RanOver device (job_plan device e.disk files next (job_view job)) e a b
  job_ran job asked is ran = subst (λ (j : Job). RanOver device (job_plan device e.disk files next (job_view j)) e a b) (sym is) ran

  -- the words are a job, which was done
  pub run_ran : (words : List (List ℕ)) (job : spec.Job) → job_of words ≡ Some job → RanOver device (job_plan device e.disk files next job) e a b → RanOver device (run_plan device e.disk files next words) e a b
  run_ran words job is ran = record {
    ran = record { way = ran.ran.way; allows = inr (Some job, sym is, ran.ran.allows); did = ran.ran.did };
    inputs = ran.inputs;
  }

module _ {D : Type 0} (device : Device D) (disk : D) (files : Option Files) (next : Option ℤ) where
  -- the answer is due to the job that was asked for
  pub job_due : (job asked : Job) (refusal : Option Refusal) → job ≡ asked → IsDue (job_plan device disk files next (job_view asked)) refusal → IsDue (job_plan device disk files next (job_view job)) refusal
  job_due job asked refusal is due = subst (λ (j : Job). IsDue (job_plan device disk files next (job_view j)) refusal) (sym is) due

  -- and so to the words
  pub run_due : (words : List (List ℕ)) (job : spec.Job) (refusal : Option Refusal) → job_of words ≡ Some job → IsDue (job_plan device disk files next job) refusal → IsDue (run_plan device disk files next words) refusal
  run_due words job refusal is due =
      (due.0, inr (λ found same. subst (λ (j : Option spec.Job). Requires (after_words device disk files next j) due.0) (sym (same ∙ is)) due.1), due.2)

-- ---- words that are no job

module _ {D : Type 0} (device : Device D) (e : Effects D) (files : Option Files) (next : Option ℤ) (state : InputsState) (words : List (List ℕ)) where
  pub jobless_ran : (refusal : Refusal) → IsNoJob (job_of words) refusal → e.report ≡ unopened (Some refusal) → e.disk' ≡ e.disk → e.output' ≡ e.output →
      RanOver device (run_plan device e.disk files next words) e state state
  jobless_ran Usage none report same silent = record {
    ran = record {
      way = Stopped (nothing_done 0) (Some Usage);
      allows = inr (None, sym none, refl);
      did = record { report = report; printed = rw silent (no_text e.output.written); output = record { counted = rw silent refl }; disk = same; log = tt; pending = tt };
    };
    inputs = inputs_unused state;
  }
  jobless_ran OutOfMemory none report same silent = record {
    ran = record {
      way = Interrupted (nothing_done 0) OfMemory;
      allows = inl refl;
      did = record { report = report; printed = rw silent (no_text e.output.written); output = record { counted = rw silent refl }; disk = same; log = tt; pending = tt };
    };
    inputs = inputs_unused state;
  }
  jobless_ran other none report same silent = absurd none

module _ {D : Type 0} (device : Device D) (disk : D) (files : Option Files) (next : Option ℤ) (words : List (List ℕ)) where
  pub jobless_due : (refusal : Refusal) → IsNoJob (job_of words) refusal → IsDue (run_plan device disk files next words) (Some refusal)
  jobless_due Usage none =
      (Stopped (nothing_done 0) (Some Usage), inr (λ found same. subst (λ (j : Option spec.Job). Requires (after_words device disk files next j) (Stopped (nothing_done 0) (Some Usage))) (sym (same ∙ none)) refl), refl)
  jobless_due OutOfMemory none = (Interrupted (nothing_done 0) OfMemory, inl refl, refl)
  jobless_due other none = absurd none
