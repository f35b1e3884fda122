-- What the work of a filler comes to.
use Rattle.std.specs.Prelude.{◌≡◌, ◌⊎◌, ℕ, suc, ◌-◌, ◌^◌, min, List, [], ◌∷◌, Option, Some, None, Result, Ok, Err}
use Rattle.arch_types.specs.declared.inserted.Installed.{Installed}
use Rattle.arch_types.specs.declared.inserted.Installed.TheVariants.{Done, Stale}
use Rattle.refusals.specs.declared.refusal.Refusal.{Refusal}

-- how many of the tasks that were handed to an install were installed
abbrev pub installed_of : {T : Type 0} → List (T × Installed) → ℕ
installed_of [] = 0
installed_of ((task, Done) ∷ tasks) = suc (installed_of tasks)
installed_of ((task, Stale position) ∷ tasks) = installed_of tasks

-- a counter that stands still at its last value
abbrev pub counted : ℕ → ℕ
counted n = min n (2 ^ 64 - 1)

-- by what a begin says, and what an install of a task says
module _ {S T : Type 0} (begins : S → Result (Option T) Refusal → S → Type 0)
    (installs : S → T → Result Installed Refusal → S → Type 0) where
  -- each of these tasks was begun and then handed to an install, which answered so, one after the other
  abbrev pub AreHandedOn : S → List (T × Installed) → S → Type 0
  AreHandedOn old [] new = new ≡ old
  AreHandedOn old (task ∷ tasks) new =
      (mid : S) × (next : S) × begins old (Ok (Some task.0)) mid × installs mid task.0 (Ok task.1) next
      × AreHandedOn next tasks new

  -- so were some, as far as now
  pub record IsWorking (old now : S) (installed : ℕ) : Type 0 where
    pub tasks : List (T × Installed)
    pub handed_on : AreHandedOn old tasks now
    pub installed_are : installed ≡ counted (installed_of tasks)

  -- so were some, and then a begin gave none
  pub record IsWorkDone (old new : S) (installed : ℕ) : Type 0 where
    pub last : S
    pub working : IsWorking old last installed
    pub none : begins last (Ok None) new

  -- the last call was a begin that was refused so, or an install, of the task just begun
  abbrev pub IsCallRefused : S → Refusal → S → Type 0
  IsCallRefused old refusal new =
      begins old (Err refusal) new
      ⊎ ((task : T) × (mid : S) × begins old (Ok (Some task)) mid × installs mid task (Err refusal) new)

  -- so were some, and then a call was refused
  pub record IsWorkRefused (old new : S) (refusal : Refusal) : Type 0 where
    pub last : S
    pub tasks : List (T × Installed)
    pub handed_on : AreHandedOn old tasks last
    pub refused : IsCallRefused last refusal new

  -- works were done one after the other, which left these
  abbrev pub AreDone : S → List (S × ℕ) → S → Type 0
  AreDone old [] new = new ≡ old
  AreDone old (work ∷ works) new = IsWorkDone old work.0 work.1 × AreDone work.0 works new

  -- works were done, and no other call was made
  pub record AreAllDone (old new : S) : Type 0 where
    pub works : List (S × ℕ)
    pub done : AreDone old works new

  -- works were done, and then one was refused
  pub record IsOneRefused (old new : S) (refusal : Refusal) : Type 0 where
    pub last : S
    pub before : AreAllDone old last
    pub refused : IsWorkRefused last new refusal
