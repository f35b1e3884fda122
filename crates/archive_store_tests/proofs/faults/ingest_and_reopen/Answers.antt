use Rattle.std.proofs.Common.{◌≡◌, ◌<◌, List, None, ⊎_elim, ap, subst, ◌∙◌, arith}
use Rattle.std.specs.Prelude.{IsTrue, Result, Ok, Err, OnOk, IfErr}
use Rattle.arch_disk.specs.Image.{Image}
use Rattle.arch_disk.specs.Disk.{Device, raised}
use Rattle.refusals.specs.declared.refusal.Refusal.{Refusal}
use Rattle.arch_types.specs.declared.row.Row.{Row}
use Rattle.history_items.specs.Fills.{pending_fault_of}
use Rattle.archive_store.specs.Batches.{batch_rows}
use Rattle.archive_store.specs.Calls.{IsIngestRefusal, IsStoreReopened, IsStoreReopenRefusal}
use Rattle.archive_store.specs.Stands.{StandsFilled}
use Rattle.archive_store.specs.StoreView.{StoreView, filled_of}
use Rattle.archive_store.proofs.Calls.{ingest_left, reopen_failed}
use Rattle.archive_store.proofs.ReadOn.{pending_after}
use Rattle.archive_store_tests.proofs.faults.ingest_and_reopen.Goals as goal

-- a reopen that fails after a refused ingest is the second fault
healed_or_two : {D : Type 0} (device : Device D) (old mid new : StoreView D) (rows : List Row) (e : Refusal) (result : Result Unit Refusal) → pending_fault_of old.fills ≡ None
    → IsIngestRefusal device old mid rows e → OnOk result (IsStoreReopened device mid new) → IfErr result (IsStoreReopenRefusal device mid new) → IsTrue device.is_transparent
    → device.fault_count new.disk < raised (raised (device.fault_count old.disk)) → (c : Image) → device.images new.disk c → StandsFilled c (filled_of new)
healed_or_two device old mid new rows e (Ok x) none refused ok err transparent few c left = ok.images transparent c left
healed_or_two device old mid new rows e (Err r) none refused ok err transparent few c left =
    let failed = subst (IsStoreReopenRefusal device mid new) (reopen_failed device mid new r err) err in
    ⊎_elim (λ wrote. absurd (omega (arith, few, failed.rose, wrote.1.fault.rose))) (λ on. absurd (failed.unhealed (pending_after device old mid on ∙ none)))
    (ingest_left device old mid rows e refused)

-- no failed write is pending after it
pub returns-in-Ok : goal.returns-in-Ok
returns-in-Ok g c transparent few image left = c.is_kept.ensures.kept transparent (ap pending_fault_of c.in-Ok.ensures.ingested.fills ∙ c.requires.healed) image left

pub returns : goal.returns
returns g c transparent few image left =
    healed_or_two g.D.Disk.device c.args.store.now c.ingest.new.self c.reopen.new.self (batch_rows c.args.batch.now) c.in-Err.field-0 c.reopen.result c.requires.healed c.in-Err.ensures.refused
    c.reopen.ensures.reopened c.reopen.ensures.refused transparent few image left
