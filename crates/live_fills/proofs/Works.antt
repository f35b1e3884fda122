-- The works of a target, said of what it holds.
use Rattle.std.proofs.Common.{◌≡◌, inl, inr, ℕ, List, [], ◌∷◌, Option, Some, None, Result, Ok, Err, OnOk, IfErr, sym, ap, subst}
use Rattle.arch_types.specs.declared.inserted.Installed.{Installed}
use Rattle.refusals.specs.declared.refusal.Refusal.{Refusal}
use Rattle.backfiller.specs.Work.{AreAllDone, AreDone, AreHandedOn, IsCallRefused, IsOneRefused, IsWorkDone}

-- `hold` is what a target holds. While `Same` holds of it, each call of the target is one of that.
module _ {S P T : Type 0} (begins : S → Result (Option T) Refusal → S → Type 0) (installs : S → T → Result Installed Refusal → S → Type 0)
    (begins' : P → Result (Option T) Refusal → P → Type 0) (installs' : P → T → Result Installed Refusal → P → Type 0) (hold : S → P) (Same : S → Type 0)
    (begun : (a b : S) (answer : Result (Option T) Refusal) → Same a → begins a answer b → Same b × begins' (hold a) answer (hold b))
    (installed : (a b : S) (task : T) (answer : Result Installed Refusal) → Same a → installs a task answer b → Same b × installs' (hold a) task answer (hold b)) where
  handed_on : (old new : S) (tasks : List (T × Installed)) → Same old → AreHandedOn begins installs old tasks new → Same new × AreHandedOn begins' installs' (hold old) tasks (hold new)
  handed_on old new [] same is = (subst Same (sym is) same, ap hold is)
  handed_on old new (task ∷ tasks) same (mid, next, b, i, rest) =
      let first = begun old mid (Ok (Some task.0)) same b in
      let second = installed mid next task.0 (Ok task.1) first.0 i in
      let others = handed_on next new tasks second.0 rest in
      (others.0, (hold mid, hold next, first.1, second.1, others.1))

  work_done : (old new : S) (n : ℕ) → Same old → IsWorkDone begins installs old new n → Same new × IsWorkDone begins' installs' (hold old) (hold new) n
  work_done old new n same work =
      let on = handed_on old work.last work.working.tasks same work.working.handed_on in
      let last = begun work.last new (Ok None) on.0 work.none in
      (last.0, record { last = hold work.last; working = record { tasks = work.working.tasks; handed_on = on.1; installed_are = work.working.installed_are }; none = last.1 })

  abbrev held : List (S × ℕ) → List (P × ℕ)
  held [] = []
  held (work ∷ works) = (hold work.0, work.1) ∷ held works

  works_done : (old new : S) (works : List (S × ℕ)) → Same old → AreDone begins installs old works new → Same new × AreDone begins' installs' (hold old) (held works) (hold new)
  works_done old new [] same is = (subst Same (sym is) same, ap hold is)
  works_done old new (work ∷ works) same (first, rest) =
      let one = work_done old work.0 work.1 same first in
      let others = works_done work.0 new works one.0 rest in
      (others.0, (one.1, others.1))

  call_refused : (old new : S) (refusal : Refusal) → Same old → IsCallRefused begins installs old refusal new → Same new × IsCallRefused begins' installs' (hold old) refusal (hold new)
  call_refused old new refusal same (inl b) = let last = begun old new (Err refusal) same b in (last.0, inl last.1)
  call_refused old new refusal same (inr (task, mid, b, i)) =
      let first = begun old mid (Ok (Some task)) same b in
      let last = installed mid new task (Err refusal) first.0 i in
      (last.0, inr (task, hold mid, first.1, last.1))

  one_refused : (old new : S) (refusal : Refusal) → Same old → IsOneRefused begins installs old new refusal → Same new × IsOneRefused begins' installs' (hold old) (hold new) refusal
  one_refused old new refusal same one =
      let all = one.before in
      let work = one.refused in
      let before = works_done old one.last all.works same all.done in
      let on = handed_on one.last work.last work.tasks before.0 work.handed_on in
      let last = call_refused work.last new refusal on.0 work.refused in (
        last.0,
        record {
          last = hold one.last;
          before = record { works = held all.works; done = before.1 };
          refused = record { last = hold work.last; tasks = work.tasks; handed_on = on.1; refused = last.1 };
        },
      )

  -- of a target that was woken, and held these at first and in the end
  pub held_run : {X : Type 0} (old new : S) (p q : P) (answer : Result X Refusal) → Same old → hold old ≡ p → q ≡ hold new
      → OnOk answer (AreAllDone begins installs old new) → IfErr answer (IsOneRefused begins installs old new)
      → Same new × OnOk answer (AreAllDone begins' installs' p q) × IfErr answer (IsOneRefused begins' installs' p q)
  held_run old new p q (Ok x) same first last all one =
      let done = works_done old new all.works same all.done in
      let whole : AreAllDone begins' installs' (hold old) (hold new) = record { works = held all.works; done = done.1 } in
      (done.0, subst (λ (r : P). AreAllDone begins' installs' p r) (sym last) (subst (λ (r : P). AreAllDone begins' installs' r (hold new)) first whole), tt)
  held_run old new p q (Err refusal) same first last all one =
      let refused = one_refused old new refusal same one in
      (refused.0, tt, subst (λ (r : P). IsOneRefused begins' installs' p r refusal) (sym last) (subst (λ (r : P). IsOneRefused begins' installs' r (hold new) refusal) first refused.1))
