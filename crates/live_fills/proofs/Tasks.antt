-- Tasks that began in a turn.
use Rattle.std.proofs.Common.{ℕ, List, Option, Some, None, Result, Ok, Err, IfOk, sym, ap, subst}
use Rattle.std.specs.Prelude.{IfSome}
use mathlib.Core.List.{IsPrefix}
use Rattle.arch_disk.specs.Disk.{Device}
use Rattle.intervals.specs.declared.interval.Interval.{Interval}
use Rattle.refusals.specs.declared.refusal.Refusal.{Refusal}
use Rattle.history_items.specs.declared.fills.Fill.{Fill}
use Rattle.history_items.specs.declared.items.Item.{Item}
use Rattle.history_items.specs.Late.{IsLate}
use Rattle.store_fills.specs.declared.task.FillTask.{FillTask}
use Rattle.store_fills.specs.Built.{IsTaskRows}
use Rattle.turn_cell.specs.Pass.{PassView}
use Rattle.archive_store.specs.StoreView.{StoreView}
use Rattle.archive_store.specs.Tasks.{BeginsTask}
use Rattle.live_archive.specs.Turns.{Turned}
use Rattle.live_archive.proofs.Built.{built_right}
use Rattle.live_archive.proofs.Going.{prefix_trans}
use Rattle.live_fills.specs.LiveTarget.{BeginsInTurn, IsOwnTask, WasLate}

-- what was late by beginnings of two lists was late by beginnings of longer ones
pub late_on : (exponent : ℕ) (first : List Fill) (front history : List Item) (noted fills : List Fill) (i : Interval) → IsPrefix front history → IsPrefix noted fills
    → WasLate exponent first front noted i → WasLate exponent first history fills i
late_on exponent first front history noted fills i p q was = record {
  front = was.front;
  noted = was.noted;
  begins = prefix_trans was.front front history was.begins p;
  since = was.since;
  fills_begin = prefix_trans was.noted noted fills was.fills_begin q;
  late = was.late;
}

module _ {D T : Type 0} (device : Device D) (first before after : StoreView D) (old new : PassView Item Fill T) (task : FillTask) where
  -- the interval of a task that began was late then
  began_late : Turned device first before after old new → BeginsTask device before after task → WasLate first.exponent first.fills new.history.seen new.fills.seen task.interval
  began_late t begun = record {
    front = before.history;
    noted = before.fills;
    begins = subst (IsPrefix before.history) (sym (ap (λ (p : PassView Item Fill T). p.history.seen) t.pass)) t.goes.appends.history;
    since = t.found.appends.fills;
    fills_begin = subst (IsPrefix before.fills) (sym (ap (λ (p : PassView Item Fill T). p.fills.seen) t.pass)) t.goes.appends.fills;
    late = subst (λ (e : ℕ). IsLate e task.interval before.history before.fills) t.found.appends.exponent begun.next.0.late;
  }

  began : Turned device first before after old new → BeginsTask device before after task → IsTaskRows task.exponent task.interval task.rows → IsOwnTask device first new task
  began t begun rows = record { in_order = rows; late = began_late t begun; right = λ told done of. built_right T device first before after old new task done told t begun of }

pub own_task : {D T : Type 0} (device : Device D) (first : StoreView D) (old new : PassView Item Fill T) (answer : Result (Option FillTask) Refusal) → BeginsInTurn device first old answer new
    → IfOk answer (λ begun. IfSome begun (λ task. IsTaskRows task.exponent task.interval task.rows)) → IfOk answer (λ begun. IfSome begun (IsOwnTask device first new))
own_task device first old new (Ok (Some task)) turn rows = began device first turn.before turn.after old new task turn.turned turn.said rows
own_task device first old new (Ok None) turn rows = tt
own_task device first old new (Err refusal) turn rows = tt
