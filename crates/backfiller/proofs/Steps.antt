-- What each call of a target keeps, its works keep.
use Rattle.std.proofs.Common.{inl, inr, ℕ, List, [], ◌∷◌, Option, Result, Ok, Err, IfErr, OnOk, sym, subst}
use Rattle.arch_types.specs.declared.inserted.Installed.{Installed}
use Rattle.refusals.specs.declared.refusal.Refusal.{Refusal}
use Rattle.backfiller.specs.Work.{AreAllDone, AreDone, AreHandedOn, IsCallRefused, IsOneRefused, IsWorkDone}

module _ {S T : Type 0} (begins : S → Result (Option T) Refusal → S → Type 0) (installs : S → T → Result Installed Refusal → S → Type 0) (Step : S → S → Type 0)
    (same : (s : S) → Step s s) (on : (a b c : S) → Step a b → Step b c → Step a c)
    (begun : (a b : S) (answer : Result (Option T) Refusal) → begins a answer b → Step a b)
    (installed : (a b : S) (task : T) (answer : Result Installed Refusal) → installs a task answer b → Step a b) where
  handed_on : (old new : S) (tasks : List (T × Installed)) → AreHandedOn begins installs old tasks new → Step old new
  handed_on old new [] is = subst (Step old) (sym is) (same old)
  handed_on old new (task ∷ tasks) (mid, next, b, i, rest) = on old mid new (begun old mid _ b) (on mid next new (installed mid next _ _ i) (handed_on next new tasks rest))

  work_step : (old new : S) (n : ℕ) → IsWorkDone begins installs old new n → Step old new
  work_step old new n work = on old work.last new (handed_on old work.last work.working.tasks work.working.handed_on) (begun work.last new _ work.none)

  works_step : (old new : S) (works : List (S × ℕ)) → AreDone begins installs old works new → Step old new
  works_step old new [] is = subst (Step old) (sym is) (same old)
  works_step old new (work ∷ works) (first, rest) = on old work.0 new (work_step old work.0 work.1 first) (works_step work.0 new works rest)

  all_step : (old new : S) → AreAllDone begins installs old new → Step old new
  all_step old new all = works_step old new all.works all.done

  call_step : (old new : S) (refusal : Refusal) → IsCallRefused begins installs old refusal new → Step old new
  call_step old new refusal (inl b) = begun old new _ b
  call_step old new refusal (inr (task, mid, b, i)) = on old mid new (begun old mid _ b) (installed mid new task _ i)

  refused_step : (old new : S) (refusal : Refusal) → IsOneRefused begins installs old new refusal → Step old new
  refused_step old new refusal one =
      let work = one.refused in
      on old one.last new (all_step old one.last one.before)
      (on one.last work.last new (handed_on one.last work.last work.tasks work.handed_on) (call_step work.last new refusal work.refused))

  -- of a filler who was woken
  pub woken_step : {X : Type 0} (old new : S) (answer : Result X Refusal) → OnOk answer (AreAllDone begins installs old new) → IfErr answer (IsOneRefused begins installs old new) → Step old new
  woken_step old new (Ok x) done refused = all_step old new done
  woken_step old new (Err refusal) done refused = refused_step old new refusal refused

-- what each refusal of a call says of the target, that of a filler says
module _ {S T : Type 0} (begins : S → Result (Option T) Refusal → S → Type 0) (installs : S → T → Result Installed Refusal → S → Type 0) (Cause : S → Refusal → Type 0)
    (begun : (a b : S) (refusal : Refusal) → begins a (Err refusal) b → Cause b refusal)
    (installed : (a b : S) (task : T) (refusal : Refusal) → installs a task (Err refusal) b → Cause b refusal) where
  call_cause : (old new : S) (refusal : Refusal) → IsCallRefused begins installs old refusal new → Cause new refusal
  call_cause old new refusal (inl b) = begun old new refusal b
  call_cause old new refusal (inr (task, mid, b, i)) = installed mid new task refusal i

  pub woken_cause : {X : Type 0} (old new : S) (answer : Result X Refusal) → IfErr answer (IsOneRefused begins installs old new) → IfErr answer (Cause new)
  woken_cause old new (Ok x) refused = tt
  woken_cause old new (Err refusal) refused = call_cause refused.refused.last new refusal refused.refused.refused
