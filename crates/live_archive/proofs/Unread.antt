-- Why rows aren't read.
use Rattle.std.proofs.Common.{◌≡◌, ℕ, ◌<◌, Bool, true≢false, sym, subst}
use Rattle.std.specs.Prelude.{IsNone, IsTrue}
use Rattle.arch_disk.specs.Disk.{Device}
use Rattle.arch_types.specs.declared.row_fault.RowFault.{RowFault}
use Rattle.arch_types.specs.declared.row_fault.RowFault.TheVariants.{DiskFault, Damaged, OutOfMemory}
use Rattle.refusals.specs.declared.refusal.Refusal.{Refusal}
use Rattle.refusals.specs.Refusal.{refusal_of_rows}
use Rattle.replay_merge.specs.RowSource.{told_if}
use Rattle.archive_store.specs.Pages.{TellsRows}
use Rattle.archive_store.specs.Replays.{rows_below}
use Rattle.archive_store.specs.StoreView.{StoreView}
use Rattle.archive_store.specs.UnreadRows.{IsReadFault, IsReadRefusal}
use Rattle.archive_store.proofs.ReadOn.{told_is}
use Rattle.live_archive.specs.Reads.{IsUnread}

module _ {D : Type 0} (device : Device D) where
  unread_for : (old new : StoreView D) (fault : RowFault) → IsReadFault device old new fault → IsUnread (TellsRows device old) old.sealed (refusal_of_rows fault)
  unread_for old new DiskFault is = is.0
  unread_for old new (Damaged file at) is = λ told. true≢false (subst (λ (b : Bool). IsNone (told_if b (rows_below old.history))) (told_is device old told) is.1)
  unread_for old new OutOfMemory is = tt

  -- what a store says
  pub unread_is : (old new : StoreView D) (refusal : Refusal) → IsReadRefusal device old new refusal → IsUnread (TellsRows device old) old.sealed refusal
  unread_is old new refusal (fault, is, of) = subst (IsUnread (TellsRows device old) old.sealed) (sym of) (unread_for old new fault is)

  -- holds of each of which as many rows stand in runs
  pub unread_on : (a b : StoreView D) → b.sealed ≡ a.sealed → (refusal : Refusal) → IsUnread (TellsRows device b) b.sealed refusal → IsUnread (TellsRows device a) a.sealed refusal
  unread_on a b same refusal is = subst (λ (n : ℕ). IsUnread (0 < n → IsTrue device.is_transparent) n refusal) same is
