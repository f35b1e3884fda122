-- What is built of a task that began in a turn.
use Rattle.std.proofs.Common.{ℕ, List, length, refl, sym, ap, ◌∙◌, subst, le_refl}
use Rattle.std.proofs.lemmas.List.{take_all}
use mathlib.Core.List.{IsPrefix}
use Rattle.arch_disk.specs.Disk.{Device}
use Rattle.arch_types.specs.declared.row.Row.{Row}
use Rattle.intervals.specs.declared.interval.Interval.{Interval}
use Rattle.history_items.specs.declared.fills.Fill.{Fill}
use Rattle.history_items.specs.declared.items.Item.{Item}
use Rattle.history_items.specs.Databases.{database_in}
use Rattle.history_items.specs.Items.{prefix}
use Rattle.mdb_items.specs.Database.{Database}
use Rattle.param_segments.specs.Extracted.{IsSetOf}
use Rattle.store_fills.specs.declared.task.FillTask.{FillTask}
use Rattle.store_fills.specs.Built.{BuiltFill}
use Rattle.store_fills.specs.Filled.{HoldsRows, IsRightFill}
use Rattle.store_fills.proofs.RightFills.{whole_fill_is_right}
use Rattle.turn_cell.specs.Pass.{PassView}
use Rattle.archive_store.specs.Installs.{IsRightFor}
use Rattle.archive_store.specs.StoreView.{StoreView}
use Rattle.archive_store.specs.Tasks.{BeginsTask}
use Rattle.archive_store.specs.Pages.{TellsRows}
use Rattle.live_archive.specs.Laws.{BuiltIsRight, IsBuiltOf, RightStays}
use Rattle.live_archive.specs.Turns.{as_seen}
use Rattle.live_archive.proofs.Going.{told_on}
use Rattle.live_archive.proofs.Later.{right_later}

-- what is built of a task is right for the store in which it began
right_there : {D : Type 0} (device : Device D) (store after : StoreView D) (task : FillTask) (done : BuiltFill) → TellsRows device store → BeginsTask device store after task → IsBuiltOf task done → IsRightFor store done
right_there device store after task done told begun of =
    let step = begun.step told in
    let db = database_in store.head.mdb store.history in
    let i : Interval = task.interval in
    let set = done.set in
    let base = of.base ∙ step.base_is in
    let fits = subst (λ (e : ℕ). IsSetOf db e i.0 set) begun.exponent (subst (λ (d : Database). IsSetOf d task.exponent i.0 set) begun.mdb of.fits) in
    let holds = subst (λ (rows : List Row). HoldsRows db set rows) step.rows_are (subst (λ (d : Database). HoldsRows d set task.rows) begun.mdb of.holds) in
    let whole : IsRightFill store.exponent store.head.mdb store.history i (length store.history) set =
    whole_fill_is_right store.exponent store.head.mdb store.history store.fills i set step.next.0.late fits holds in
    let right = subst (λ (j : Interval). IsRightFill store.exponent store.head.mdb store.history j done.base set) (sym of.interval)
    (subst (λ (n : ℕ). IsRightFill store.exponent store.head.mdb store.history i n set) (sym base) whole) in
    let below = ap (λ (n : ℕ). prefix n store.history) base ∙ take_all (length store.history) store.history (le_refl _) in
    ((of.mdb ∙ begun.mdb ∙ ap (database_in store.head.mdb) (sym below), of.exponent ∙ begun.exponent), right)

module _ {D : Type 0} (T : Type 0) (device : Device D) where
  pub built_right : BuiltIsRight T device
  built_right first before after old new task done told t begun of =
      let seen = ap (λ (p : PassView Item Fill T). p.history.seen) t.pass in
      right_later before (as_seen first new) done (subst (IsPrefix before.history) (sym seen) t.goes.appends.history) (sym t.found.appends.head) (sym t.found.appends.exponent)
      (right_there device before after task done (told_on device first before t.found.appends.sealed told) begun of)

  pub right_stays : RightStays T device
  right_stays first old new done more right = right_later (as_seen first old) (as_seen first new) done more refl refl right
