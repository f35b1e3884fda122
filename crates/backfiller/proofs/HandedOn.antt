-- One task more.
use Rattle.std.proofs.Common.{◌≡◌, ℕ, suc, ◌+◌, ◌-◌, ◌^◌, min, List, [], ◌∷◌, ◌++◌, Option, Some, Result, Ok, refl, ap, subst, arith}
use Rattle.arch_types.specs.declared.inserted.Installed.{Installed}
use Rattle.arch_types.specs.declared.inserted.Installed.TheVariants.{Done, Stale}
use Rattle.refusals.specs.declared.refusal.Refusal.{Refusal}
use Rattle.backfiller.specs.Work.{AreAllDone, AreDone, AreHandedOn, IsWorkDone, IsWorking, installed_of}

done_last : {T : Type 0} (tasks : List (T × Installed)) (task : T) → installed_of (tasks ++ (task, Done) ∷ []) ≡ suc (installed_of tasks)
done_last [] task = refl
done_last ((t, Done) ∷ tasks) task = ap suc (done_last tasks task)
done_last ((t, Stale p) ∷ tasks) task = done_last tasks task

stale_last : {T : Type 0} (tasks : List (T × Installed)) (task : T) (position : ℕ) → installed_of (tasks ++ (task, Stale position) ∷ []) ≡ installed_of tasks
stale_last [] task position = refl
stale_last ((t, Done) ∷ tasks) task position = ap suc (stale_last tasks task position)
stale_last ((t, Stale p) ∷ tasks) task position = stale_last tasks task position

module _ {S T : Type 0} (begins : S → Result (Option T) Refusal → S → Type 0) (installs : S → T → Result Installed Refusal → S → Type 0) where
  one_more : (old now mid next : S) (tasks : List (T × Installed)) (task : T) (became : Installed) → AreHandedOn begins installs old tasks now → begins now (Ok (Some task)) mid → installs mid task (Ok became) next
      → AreHandedOn begins installs old (tasks ++ (task, became) ∷ []) next
  one_more old now mid next [] task became is b i = (mid, next, subst (λ (s : S). begins s (Ok (Some task)) mid) is b, i, refl)
  one_more old now mid next (first ∷ tasks) task became (m, n, p, q, rest) b i = (m, n, p, q, one_more n now mid next tasks task became rest b i)

  pub works_none : (s : S) → IsWorking begins installs s s 0
  works_none s = record { tasks = []; handed_on = refl; installed_are = refl }

  pub works_done : (old now mid next : S) (n n' : ℕ) (task : T) → IsWorking begins installs old now n → begins now (Ok (Some task)) mid → installs mid task (Ok Done) next → n' ≡ min (n + 1) (2 ^ 64 - 1) → IsWorking begins installs old next n'
  works_done old now mid next n n' task w b i is = record {
    tasks = w.tasks ++ (task, Done) ∷ [];
    handed_on = one_more old now mid next w.tasks task Done w.handed_on b i;
    installed_are = let h = w.installed_are in let d = done_last w.tasks task in omega (arith, is, h, d);
  }

  pub works_stale : (old now mid next : S) (n : ℕ) (task : T) (position : ℕ) → IsWorking begins installs old now n → begins now (Ok (Some task)) mid → installs mid task (Ok (Stale position)) next → IsWorking begins installs old next n
  works_stale old now mid next n task position w b i = record {
    tasks = w.tasks ++ (task, Stale position) ∷ [];
    handed_on = one_more old now mid next w.tasks task (Stale position) w.handed_on b i;
    installed_are = let h = w.installed_are in let d = stale_last w.tasks task position in omega (arith, h, d);
  }

  one_work_more : (old now new : S) (works : List (S × ℕ)) (n : ℕ) → AreDone begins installs old works now → IsWorkDone begins installs now new n → AreDone begins installs old (works ++ (new, n) ∷ []) new
  one_work_more old now new [] n is done = (subst (λ (s : S). IsWorkDone begins installs s new n) is done, refl)
  one_work_more old now new (work ∷ works) n (first, rest) done = (first, one_work_more work.0 now new works n rest done)

  pub none_done : (s : S) → AreAllDone begins installs s s
  none_done s = record { works = []; done = refl }

  pub all_done : (old now new : S) (n : ℕ) → AreAllDone begins installs old now → IsWorkDone begins installs now new n → AreAllDone begins installs old new
  all_done old now new n before done = record { works = before.works ++ (new, n) ∷ []; done = one_work_more old now new before.works n before.done done }
