-- How the plans go by which commands read rows.
use Rattle.std.proofs.Common.{◌≡◌, ◌∙◌, inl, inr, ℕ, false, List, Option, Some, None, refl, sym}
use Rattle.std.specs.Prelude.{IsTrue}
use Rattle.arch_disk.specs.Disk.{Device}
use Rattle.refusals.specs.declared.refusal.Refusal.{Refusal}
use Rattle.refusals.specs.declared.refusal.Refusal.TheVariants.{Damaged, DiskFault, OutOfMemory, WriteFault}
use Rattle.archive_store.specs.Pages.{TellsRows}
use Rattle.archive_store.specs.StoreView.{StoreView}
use Rattle.command_plans.specs.Ledger.{UsedOutput}
use Rattle.command_plans.specs.Plan.{OfMemory, OfDisk, OfOutput, CommandPlan, EachEnd, Interrupted, IsDetermined, Stopped}
use Rattle.command_runs.specs.Command.{AppendsAs, Effects, HasDiskOutcome, Progress, Ran}
use Rattle.command_runs.specs.Reading.{AreUnread, InMemory, IsPageAnswer, IsReadText, IsRowsText, OnPages, RowsPlace, after_pages, is_disk_fault, printing_read_plan, printing_rows_plan, reading_plan}
use Rattle.command_runs.proofs.Commands.{IsUntold, ran_printed}
use Rattle.command_runs.proofs.OverInputs.{HasRead}

-- ---- which answer is due

-- what pages have is determined where the disk tells it
pub pages_once : (Tells : Type 0) → Tells → (a b : Option Refusal) → IsPageAnswer Tells a → IsPageAnswer Tells b → a ≡ b
pages_once Tells tells None None h k = refl
pages_once Tells tells None (Some (Damaged file at)) h k = absurd (k tells)
pages_once Tells tells None (Some other) h k = absurd k
pages_once Tells tells (Some (Damaged file at)) b h k = absurd (h tells)
pages_once Tells tells (Some other) b h k = absurd h

-- a disk that has rows on pages tells them
abbrev pub AreTold : RowsPlace → Type 0
AreTold InMemory = Unit {0}
AreTold (OnPages Tells) = Tells

-- the rows of a store stand there
abbrev pub StandAt : {D : Type 0} → Device D → StoreView D → RowsPlace → Type 0
StandAt device store InMemory = store.sealed ≡ 0
StandAt device store (OnPages Tells) = Tells → TellsRows device store

pub reading_determined : (rows : RowsPlace) (s : Progress) (next : CommandPlan Progress ⊥) → AreTold rows → IsDetermined next → IsDetermined (reading_plan rows s next)
reading_determined InMemory s next told d = d
reading_determined (OnPages Tells) s next told d = (pages_once Tells told, λ found was. after found)
  where
    after : (found : Option Refusal) → IsDetermined (after_pages s next found)
    after None = d
    after (Some refusal) = tt

pub rows_printing_determined : (Tells : Type 0) (s : Progress) (text : List ℕ) → Tells → IsDetermined (printing_rows_plan Tells s text)
rows_printing_determined Tells s text tells = (λ a b h k. h tells ∙ sym (k tells), λ printed is. reading_determined (OnPages Tells) (record s { text = printed; is_whole = false }) _ tells tt)

-- ---- over inputs

-- nothing is asked of them
pub reading_reads : (n : ℕ) (rows : RowsPlace) (s : Progress) (next : CommandPlan Progress ⊥) → HasRead n (Stopped s None) → EachEnd (HasRead n) next → EachEnd (HasRead n) (reading_plan rows s next)
reading_reads n InMemory s next before rest = rest
reading_reads n (OnPages Tells) s next before rest = (before, λ found was. after found)
  where
    after : (found : Option Refusal) → EachEnd (HasRead n) (after_pages s next found)
    after None = rest
    after (Some refusal) = before

pub rows_printing_reads : (n : ℕ) (Tells : Type 0) (s : Progress) (text : List ℕ) → HasRead n (Stopped s None) → EachEnd (HasRead n) (printing_rows_plan Tells s text)
rows_printing_reads n Tells s text before printed is = (before, reading_reads n (OnPages Tells) (record s { text = printed; is_whole = false }) _ before (before, before))

-- ---- how it went

-- a store whose rows stand on pages that are told tells them
pub tells_so : {D : Type 0} (device : Device D) (store : StoreView D) → IsTrue device.is_transparent → TellsRows device store
tells_so device store known paged = known

module _ {D : Type 0} (device : Device D) (e : Effects D) (s : Progress) where
  -- rows were read, and what follows ran
  pub ran_over : (rows : RowsPlace) (next : CommandPlan Progress ⊥) → Ran device next e → Ran device (reading_plan rows s next) e
  ran_over InMemory next ran = ran
  ran_over (OnPages Tells) next ran = record { way = ran.way; allows = inr (None, tt, ran.allows); did = ran.did }

  -- they weren't
  module _ (Tells : Type 0) (store : StoreView D) (next : CommandPlan Progress ⊥) (told : Tells → TellsRows device store) (no_output : s.failed OfOutput ≡ false) (no_disk : s.failed OfDisk ≡ false) (untold : IsUntold s)
      (printed : AppendsAs s.is_whole e.output.written e.output'.written s.text) (output : UsedOutput e.output e.output' false) where
    pub ran_unread : (refusal : Refusal) → AreUnread device store refusal → HasDiskOutcome device e.disk e.disk' (is_disk_fault (Some refusal)) s.disk → e.report ≡ record s.report { refusal = Some refusal }
        → Ran device (reading_plan (OnPages Tells) s next) e
    ran_unread DiskFault unread disk report = record {
      way = Interrupted s OfDisk;
      allows = inl refl;
      did = record { report = report; printed = printed; output = rw no_output output; disk = disk; log = rw untold.0 tt; pending = rw untold.1 tt };
    }
    ran_unread (Damaged file at) unread disk report = record {
      way = Stopped s (Some (Damaged file at));
      allows = inr (Some (Damaged file at), λ tells. unread.1 (told tells), refl);
      did = record { report = report; printed = printed; output = rw no_output output; disk = rw no_disk disk; log = rw untold.0 tt; pending = rw untold.1 tt };
    }
    ran_unread other unread disk report = absurd unread

-- a text of rows was printed, or not to its end
module _ {D : Type 0} (device : Device D) (e : Effects D) (s : Progress) (Tells : Type 0) (store : StoreView D) (told : Tells → TellsRows device store) (no_output : s.failed OfOutput ≡ false)
    (no_disk : s.failed OfDisk ≡ false) (untold : IsUntold s) where
  abbrev so_far : List ℕ → Progress
  so_far text = record s { text = text; is_whole = false }

  ran_read_text : (text : List ℕ) (refusal : Option Refusal) → IsReadText device store refusal e.output e.output' text → HasDiskOutcome device e.disk e.disk' (is_disk_fault refusal) s.disk
      → e.report ≡ record s.report { refusal = refusal } → Ran device (printing_read_plan (OnPages Tells) s text) e
  ran_read_text text None printed disk report =
      let ran = ran_over device e (so_far text) (OnPages Tells) _ (ran_printed device e s text None no_output no_disk untold printed report disk) in
      record { way = ran.way; allows = inr ran.allows; did = ran.did }
  ran_read_text text (Some WriteFault) printed disk report =
      let ran = ran_over device e (so_far text) (OnPages Tells) _ (ran_printed device e s text (Some WriteFault) no_output no_disk untold printed report disk) in
      record { way = ran.way; allows = inr ran.allows; did = ran.did }
  ran_read_text text (Some OutOfMemory) printed disk report = record {
    way = Interrupted (so_far text) OfMemory;
    allows = inl refl;
    did = record { report = report; printed = printed.some; output = rw no_output (record { counted = printed.no_fault }); disk = rw no_disk disk; log = rw untold.0 tt; pending = rw untold.1 tt };
  }
  ran_read_text text (Some DiskFault) printed disk report =
      let ran = ran_unread device e (so_far text) Tells store _ told no_output no_disk untold printed.1.some (record { counted = printed.1.no_fault }) DiskFault printed.0 disk report in
      record { way = ran.way; allows = inr ran.allows; did = ran.did }
  ran_read_text text (Some (Damaged file at)) printed disk report =
      let ran = ran_unread device e (so_far text) Tells store _ told no_output no_disk untold printed.1.some (record { counted = printed.1.no_fault }) (Damaged file at) printed.0 disk report in
      record { way = ran.way; allows = inr ran.allows; did = ran.did }
  ran_read_text text (Some other) printed disk report = absurd printed.0

  pub ran_rows_text : (text : List ℕ) (refusal : Option Refusal) → IsRowsText device store refusal e.output e.output' text → HasDiskOutcome device e.disk e.disk' (is_disk_fault refusal) s.disk
      → e.report ≡ record s.report { refusal = refusal } → Ran device (printing_rows_plan Tells s text) e
  ran_rows_text text refusal (printed, is, text_read) disk report =
      let ran = ran_read_text printed refusal text_read disk report in
      record { way = ran.way; allows = (printed, (λ tells. is (told tells)), ran.allows); did = ran.did }
