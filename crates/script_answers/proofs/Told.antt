-- What a store tells as a source, where it tells its rows.
use Rattle.std.proofs.Common.{ℕ, List}
use Rattle.std.specs.Prelude.{IfOk, IfSome, Result, Ok, Err}
use Rattle.arch_disk.specs.Disk.{Device}
use Rattle.arch_types.specs.declared.row.Row.{Row}
use Rattle.archive_store.specs.Pages.{TellsRows}
use Rattle.archive_store.specs.Replays.{rows_below, source_state}
use Rattle.archive_store.specs.StoreView.{StoreView}
use Rattle.archive_store.proofs.ReadOn.{told_is}

module _ {D : Type 0} (device : Device D) (store : StoreView D) (told : TellsRows device store) where
  pub told_history : (P : (ℕ → List Row) → Type 0) → IfSome (source_state device store).history P → P (rows_below store.history)
  told_history P is = rw (told_is device store told) at is

  pub told_ok : {X E : Type 0} (r : Result X E) (P : X → (ℕ → List Row) → Type 0) → IfOk r (λ x. IfSome (source_state device store).history (P x)) → IfOk r (λ x. P x (rows_below store.history))
  told_ok (Ok x) P is = told_history (P x) is
  told_ok (Err e) P is = tt
