-- How the plan goes by which a command fills what is late.
use Rattle.std.proofs.Common.{◌≡◌, ◌∙◌, ◌⊎◌, inl, inr, ℕ, zero, suc, ◌+◌, ◌≤◌, Bool, false, true, List, length, Some, None, refl, sym, ap, arith}
use Rattle.std.specs.Prelude.{IfErr, IfOk, Result, Ok, Err, nat_lt, if◌then◌else◌}
use Rattle.arch_disk.specs.Disk.{Device}
use Rattle.refusals.specs.declared.refusal.Refusal.{Refusal}
use Rattle.refusals.specs.declared.refusal.Refusal.TheVariants.{Damaged, DiskFault, Limit, NeedsReopen, OutOfMemory}
use Rattle.refusals.specs.declared.refusal.Which.TheVariants.{Records}
use Rattle.refusals.specs.Limits.{limit_of}
use Rattle.history_items.specs.Fills.{pending_fault_of}
use Rattle.command_plans.specs.Plan.{OfMemory, OfDisk, OfOutput, CommandPlan, May, Choose, EachEnd, Interrupted, IsDetermined, Stopped}
use Rattle.history_items.specs.declared.items.Item.{Item}
use Rattle.interval_walks.specs.Counts.{late_intervals}
use Rattle.command_plans.specs.Ledger.{UsedOutput}
use Rattle.archive_store.specs.Entries.{FilledArchive}
use Rattle.archive_store.specs.Pages.{HasPages, TellsRows}
use Rattle.archive_store.specs.StoreView.{StoreView}
use Rattle.command_runs.specs.Causes.{IsCountedSince, IsLogNear}
use Rattle.command_runs.specs.Command.{AllFilled, AppendsAs, Effects, EndedAt, FillingFailed, HasDiskOutcome, Progress, Ran}
use Rattle.load_session.specs.Filling.{AllLateFilled, IsFillFailed, IsFillUnread, IsFillingRefusal, IsUnfailed, filling_refusal}
use Rattle.command_runs.specs.FillingPlan.{FillingEnd, Refused, Unread, Unwritten, Whole, after_filling, fill_failed, filled_to, filling_behind_plan, filling_plan}
use Rattle.command_runs.specs.Reading.{InMemory, OnPages, RowsPlace, reading_plan}
use Rattle.command_runs.proofs.Commands.{IsUntold, ran_later}
use Rattle.command_runs.proofs.Reading.{AreTold, StandAt, ran_over, reading_determined, reading_reads}
use Rattle.command_runs.proofs.OverInputs.{HasRead}

-- why a log can't take fills
pub limit_filling : (records late : ℕ) (refusal : Refusal) → filling_refusal records late ≡ Some refusal
    → (refusal ≡ Limit Records (limit_of Records)) × (nat_lt (limit_of Records) (records + late) ≡ true)
limit_filling records zero refusal is = absurd (cc (is))
limit_filling records (suc late) refusal is = go (nat_lt (limit_of Records) (records + suc late)) refl is
  where
    go : (b : Bool) → nat_lt (limit_of Records) (records + suc late) ≡ b → (if b then Some (Limit Records (limit_of Records)) else None) ≡ Some refusal
        → (refusal ≡ Limit Records (limit_of Records)) × (nat_lt (limit_of Records) (records + suc late) ≡ true)
    go true passed e = let same : Limit Records (limit_of Records) ≡ refusal = cc (e) in (sym same, passed)
    go false within e = absurd (cc (e))

-- and why it can
pub room_filling : (records late : ℕ) → filling_refusal records (suc late) ≡ None → nat_lt (limit_of Records) (records + suc late) ≡ false
room_filling records late is = go (nat_lt (limit_of Records) (records + suc late)) refl is
  where
    go : (b : Bool) → nat_lt (limit_of Records) (records + suc late) ≡ b → (if b then Some (Limit Records (limit_of Records)) else None) ≡ None
        → nat_lt (limit_of Records) (records + suc late) ≡ false
    go true passed e = absurd (cc (e))
    go false within e = within

-- a refusal says that a page breaks its format
abbrev pub IsDamage : Refusal → Type 0
IsDamage (Damaged file at) = Unit {0}
IsDamage other = ⊥

module _ (rows : RowsPlace) (IsFull : Bool → Type 0) (opened : FilledArchive) (reached : List Item) (s : Progress) (next : CommandPlan Progress ⊥) where
  abbrev behind_reading : CommandPlan Progress ⊥
  behind_reading = May OfDisk (fill_failed opened reached s) (Choose IsFull (after_filling s next))

  -- one answer is due
  pub filling_determined : AreTold rows → IsDetermined next → IsDetermined (filling_plan rows IsFull opened reached s next)
  filling_determined told d = reading_determined rows s behind_reading told (λ is_full is. each is_full)
    where
      each : (is_full : Bool) → IsDetermined (after_filling s next is_full)
      each true = tt
      each false = d

  -- as many sources are given at each end of it as before
  pub filling_reads : (n : ℕ) → HasRead n (Stopped s None) → EachEnd (HasRead n) next → EachEnd (HasRead n) (filling_plan rows IsFull opened reached s next)
  filling_reads n before rest = (before, reading_reads n rows s behind_reading before (before, λ is_full is. each is_full))
    where
      each : (is_full : Bool) → EachEnd (HasRead n) (after_filling s next is_full)
      each true = before
      each false = rest

  module _ {D : Type 0} (device : Device D) (e : Effects D) where
    -- rows were read, and what is behind that ran
    pub ran_behind_reading : Ran device behind_reading e → Ran device (filling_plan rows IsFull opened reached s next) e
    ran_behind_reading ran = ran_later device e OfMemory s (reading_plan rows s behind_reading) (ran_over device e s rows behind_reading ran)

    -- each was filled, and what follows ran
    pub ran_all_filled : IsFull false → Ran device next e → Ran device (filling_plan rows IsFull opened reached s next) e
    ran_all_filled room ran = ran_behind_reading (record { way = ran.way; allows = inr (false, room, ran.allows); did = ran.did })

-- ---- what filling came to, of a store in which no failed write was pending

module _ (opened : FilledArchive) (reached : List Item) (s : Progress) {D : Type 0} (device : Device D) (e : Effects D) (old mid : StoreView D)
    (healed : pending_fault_of old.fills ≡ None) (no_output : s.failed OfOutput ≡ false)
    (printed : AppendsAs s.is_whole e.output.written e.output'.written s.text) (output : UsedOutput e.output e.output' false)
    (still : IsUnfailed device old mid → HasDiskOutcome device e.disk e.disk' (s.failed OfDisk) s.disk) (failed : IsFillFailed device old mid → HasDiskOutcome device e.disk e.disk' true (FillingFailed opened reached))
    (unread : IsFillUnread device old mid → HasDiskOutcome device e.disk e.disk' true s.disk) where
  never_pending : (faults : ℕ) → pending_fault_of old.fills ≡ Some faults → ⊥
  never_pending faults pending = cc (healed, pending)

  -- not each was filled, which is told
  module _ (rows : RowsPlace) (stands : StandAt device old rows) (IsFull : Bool → Type 0) (next : CommandPlan Progress ⊥) (untold : IsUntold s)
      (full : (refusal : Refusal) → filling_refusal old.records (length (late_intervals old.exponent old.history old.fills)) ≡ Some refusal → IsFull true)
      (near : limit_of Records ≤ mid.records → IsLogNear device e.disk' (Some 0)) where
    abbrev plan : CommandPlan Progress ⊥
    plan = filling_plan rows IsFull opened reached s next

    -- rows weren't read, of which some stand on pages
    ran_not_read : (at : RowsPlace) → StandAt device old at → HasPages old → (refusal : Refusal) → e.report ≡ record s.report { refusal = Some refusal }
        → ((refusal ≡ DiskFault) × IsFillUnread device old mid) ⊎ (IsDamage refusal × (TellsRows device old → ⊥) × IsUnfailed device old mid)
        → Ran device (filling_plan at IsFull opened reached s next) e
    ran_not_read InMemory plain paged refusal report is = absurd (omega (arith, plain, paged))
    ran_not_read (OnPages Tells) told paged refusal report (inl fault) = record {
      way = Interrupted s OfDisk;
      allows = inr (inl refl);
      did = record {
        report = report ∙ ap (λ (r : Refusal). record s.report { refusal = Some r }) fault.0;
        printed = printed;
        output = rw no_output output;
        disk = unread fault.1;
        log = rw untold.0 tt;
        pending = rw untold.1 tt;
      };
    }
    ran_not_read (OnPages Tells) told paged (Damaged file at) report (inr damaged) = record {
      way = Stopped s (Some (Damaged file at));
      allows = inr (inr (Some (Damaged file at), (λ tells. damaged.1 (told tells)), refl));
      did = record { report = report; printed = printed; output = rw no_output output; disk = still damaged.2; log = rw untold.0 tt; pending = rw untold.1 tt };
    }
    ran_not_read (OnPages Tells) told paged other report (inr damaged) = absurd damaged.0

    pub ran_unfilled : (refusal : Refusal) → IsFillingRefusal device old mid refusal → e.report ≡ record s.report { refusal = Some refusal } → Ran device plan e
    ran_unfilled OutOfMemory r report = record {
      way = Interrupted s OfMemory;
      allows = inl refl;
      did = record { report = report; printed = printed; output = rw no_output output; disk = still r; log = rw untold.0 tt; pending = rw untold.1 tt };
    }
    ran_unfilled (NeedsReopen faults) r report = absurd (never_pending faults r.0)
    ran_unfilled (Limit which number) r report =
        let is = limit_filling old.records (length (late_intervals old.exponent old.history old.fills)) (Limit which number) r.0 in
        let at : Progress = record s { log = Some 0 } in
        ran_behind_reading rows IsFull opened reached s next device e (record {
          way = Stopped at (Some (Limit which number));
          allows = inr (true, full (Limit which number) r.0, ap (λ (x : Refusal). Stopped at (Some x)) is.0);
          did = record {
            report = report;
            printed = printed;
            output = rw no_output output;
            disk = still r.2;
            log = near r.1;
            pending = rw untold.1 tt;
          };
        })
    ran_unfilled DiskFault (inl r) report =
        ran_behind_reading rows IsFull opened reached s next device e (record {
          way = Interrupted (fill_failed opened reached s) OfDisk;
          allows = inl refl;
          did = record { report = report; printed = printed; output = rw no_output output; disk = failed r; log = rw untold.0 tt; pending = rw untold.1 tt };
        })
    ran_unfilled DiskFault (inr r) report = ran_not_read rows stands r.paged DiskFault report (inl (refl, r))
    ran_unfilled (Damaged file at) r report = ran_not_read rows stands r.0 (Damaged file at) report (inr (tt, r.1, r.2))
    ran_unfilled _ r report = absurd r

  -- another refusal is told, whatever it came to
  module _ (all : (filled : ℕ) → AllLateFilled device old mid filled → HasDiskOutcome device e.disk e.disk' (s.failed OfDisk) (AllFilled opened reached)) (refusal : Refusal)
      (report : e.report ≡ record s.report { refusal = Some refusal })
      (log : IsLogNear device e.disk' s.log) (pending : IsCountedSince device e.disk e.disk' s.pending) where
    ended : (end : FillingEnd) (told : EndedAt device e (filled_to opened reached s end) (Some refusal) (filled_to opened reached s end).failed)
        → Ran device (filling_behind_plan opened reached s refusal) e
    ended end told = record { way = Stopped (filled_to opened reached s end) (Some refusal); allows = (end, tt, refl); did = told }

    as_before : IsUnfailed device old mid → Ran device (filling_behind_plan opened reached s refusal) e
    as_before unfailed =
        ended Refused (record { report = report; printed = printed; output = rw no_output output; disk = still unfailed; log = log; pending = pending })

    pub ran_behind : (r : Result ℕ Refusal) → IfOk r (AllLateFilled device old mid) → IfErr r (IsFillingRefusal device old mid) → Ran device (filling_behind_plan opened reached s refusal) e
    ran_behind (Ok filled) done refused =
        ended Whole (record {
          report = report;
          printed = printed;
          output = rw no_output output;
          disk = all filled done;
          log = log;
          pending = pending;
        })
    ran_behind (Err OutOfMemory) done refused = as_before refused
    ran_behind (Err (NeedsReopen faults)) done refused = absurd (never_pending faults refused.0)
    ran_behind (Err (Limit which number)) done refused = as_before refused.2
    ran_behind (Err (Damaged file at)) done refused = as_before refused.2
    ran_behind (Err DiskFault) done (inl refused) =
        ended Unwritten (record {
          report = report;
          printed = printed;
          output = rw no_output output;
          disk = failed refused;
          log = log;
          pending = pending;
        })
    ran_behind (Err DiskFault) done (inr refused) =
        ended Unread (record {
          report = report;
          printed = printed;
          output = rw no_output output;
          disk = unread refused;
          log = log;
          pending = pending;
        })
    ran_behind (Err other) done refused = absurd refused

-- as many sources are given at its end as before
pub behind_reads : (opened : FilledArchive) (reached : List Item) (n : ℕ) (s : Progress) (refusal : Refusal) → HasRead n (Stopped s None)
    → EachEnd (HasRead n) (filling_behind_plan opened reached s refusal)
behind_reads opened reached n s refusal before = λ end is. each end
  where
    each : (end : FillingEnd) → HasRead n (Stopped (filled_to opened reached s end) (Some refusal))
    each Whole = before
    each Unwritten = before
    each Unread = before
    each Refused = before
