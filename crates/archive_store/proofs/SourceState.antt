-- A store whose rows all stand in memory, as a source.
use Rattle.std.proofs.Common.{◌≡◌, ℕ, Bool, true, List, [], ◌∷◌, refl, sym, subst, arith}
use Rattle.std.specs.Prelude.{Result, Ok, Err, IfErr, IfOk, IfSome, OnOk, Contains, ◌==◌, ◌||◌}
use Rattle.std.specs.List.{AllByRecursion}
use Rattle.arch_disk.specs.Disk.{Device}
use Rattle.arch_types.specs.declared.row.Row.{Row}
use Rattle.arch_types.specs.declared.row_fault.RowFault.{RowFault}
use Rattle.arch_types.specs.declared.row_fault.RowFault.TheVariants.{DiskFault, Damaged, OutOfMemory}
use Rattle.history_items.specs.declared.items.Item.{Item}
use Rattle.history_items.specs.Items.{rows_in}
use Rattle.replay_merge.specs.RowSource.{AreRowSourceHistories, IsRowFault, UsedRowSource, told_if}
use Rattle.archive_images.specs.Entries.{IsArchivedRow}
use Rattle.archive_images.proofs.Archived.{among_archived}
use Rattle.archive_store.specs.Pages.{is_told}
use Rattle.archive_store.specs.Replays.{MayGive, memory_state, rows_below, source_state}
use Rattle.archive_store.specs.StoreView.{StoreView}

-- it tells what its source told once it was used
pub used_same : {D : Type 0} (device : Device D) (store : StoreView D) → UsedRowSource (source_state device store) (source_state device store)
used_same device store = record { told = refl; no_others = λ row may. may; no_other_fault = λ may. may; later = omega arith }

-- rows in memory are refused for want of memory alone
pub fault_as : {D X : Type 0} (device : Device D) (store : StoreView D) (r : Result X RowFault) (before after : List Item) → IfErr r (IsRowFault (memory_state before) (memory_state after)) → IfErr r (IsRowFault (source_state device store) (source_state device store))
fault_as device store (Ok x) before after is = tt
fault_as device store (Err DiskFault) before after is = absurd is.0
fault_as device store (Err (Damaged file at)) before after is = absurd is.0
fault_as device store (Err OutOfMemory) before after is = refl

-- and meet no fault
pub calm_as : {D X : Type 0} (device : Device D) (store : StoreView D) (r : Result X RowFault) → OnOk r ((source_state device store).faults ≡ (source_state device store).faults)
calm_as device store (Ok x) = refl
calm_as device store (Err fault) = tt

module _ {D : Type 0} (device : Device D) (store : StoreView D) (plain : store.sealed ≡ 0) where
  all_told : is_told device store ≡ true
  all_told = subst (λ (n : ℕ). ((n == 0) || device.is_transparent) ≡ true) (sym plain) refl

  pub told_as : {X : Type 0} (r : Result X RowFault) (P : X → (ℕ → List Row) → Type 0) → IfOk r (λ x. P x (rows_below store.history)) → IfOk r (λ x. IfSome (source_state device store).history (P x))
  told_as (Ok x) P is = subst (λ (b : Bool). IfSome (told_if b (rows_below store.history)) (P x)) (sym all_told) is
  told_as (Err fault) P is = tt

  pub history_as : AreRowSourceHistories (rows_below store.history) → IfSome (source_state device store).history AreRowSourceHistories
  history_as are = subst (λ (b : Bool). IfSome (told_if b (rows_below store.history)) AreRowSourceHistories) (sym all_told) are

each_may : {D : Type 0} (device : Device D) (store : StoreView D) (rows : List Row) → AllByRecursion (Contains (rows_in store.history)) rows → AllByRecursion (IsArchivedRow store.head store.history) rows → AllByRecursion (MayGive device store) rows
each_may device store [] own archived = tt
each_may device store (row ∷ rows) own archived = (record { own = λ told. own.0; archived = archived.0 }, each_may device store rows own.1 archived.1)

-- each of its rows is one of its archive
pub given_as : {D : Type 0} (device : Device D) (store : StoreView D) → AllByRecursion (IsArchivedRow store.head store.history) (rows_in store.history) → (r : Result (List Row) RowFault)
    → IfOk r (AllByRecursion (Contains (rows_in store.history))) → IfOk r (AllByRecursion (source_state device store).may_give)
given_as device store all (Ok rows) own = each_may device store rows own (among_archived store.head store.history (rows_in store.history) rows all own)
given_as device store all (Err fault) own = tt
