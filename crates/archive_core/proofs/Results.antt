-- What events leave of a state, whether they are answered or refused.
use Rattle.std.proofs.Common.{◌≡◌, ℕ, List, Result, Ok, Err, sym, subst}
use Rattle.std.specs.Prelude.{IfOk, OnErr}
use Rattle.intervals.specs.declared.interval.Interval.{Interval}
use Rattle.arch_types.specs.declared.row.Row.{Row}
use Rattle.history_items.specs.declared.fills.Fill.{Fill}
use Rattle.history_items.specs.declared.items.Item.{Item}
use Rattle.history_items.specs.Items.{items_of}
use Rattle.archive_core.specs.declared.event.Event.TheVariants.{Ingest, Begin, Install, Abandon}
use Rattle.archive_core.specs.declared.reply.Reply.{Reply}
use Rattle.archive_core.specs.Replies.{RepliesToIngest, RepliesToBegin, RepliesToInstall, RepliesToAbandon}
use Rattle.interval_fills.specs.Invariant.{MachineInvariant}
use Rattle.interval_fills.specs.Steps.{state_of}
use Rattle.mdb_items.specs.Database.{Database}
use Rattle.archive_core.proofs.Runs.{keeps}

module _ {E : Type 0} (e : ℕ) (tables : List (List ℕ)) (db : Database) where
  pub ingest_kept : (rows grown : List Row) (fills : List Fill) (batch : List Row) (r : Result Reply E) → MachineInvariant e (state_of (items_of rows) fills)
      → IfOk r (λ reply. (f : List Fill) → RepliesToIngest (state_of (items_of rows) f) batch reply (state_of (items_of grown) f)) → OnErr r (grown ≡ rows) → MachineInvariant e (state_of (items_of grown) fills)
  ingest_kept rows grown fills batch (Ok reply) inv step same = keeps e tables db (state_of (items_of rows) fills) (state_of (items_of grown) fills) (Ingest 0 batch) reply inv (step fills)
  ingest_kept rows grown fills batch (Err error) inv step same = subst (λ (l : List Row). MachineInvariant e (state_of (items_of l) fills)) (sym same) inv

  pub begin_kept : (rows : List Row) (fills noted : List Fill) (r : Result Reply E) → MachineInvariant e (state_of (items_of rows) fills)
      → IfOk r (λ reply. RepliesToBegin e (state_of (items_of rows) fills) reply (state_of (items_of rows) noted)) → OnErr r (noted ≡ fills) → MachineInvariant e (state_of (items_of rows) noted)
  begin_kept rows fills noted (Ok reply) inv step same = keeps e tables db (state_of (items_of rows) fills) (state_of (items_of rows) noted) (Begin 0) reply inv step
  begin_kept rows fills noted (Err error) inv step same = subst (λ (l : List Fill). MachineInvariant e (state_of (items_of rows) l)) (sym same) inv

  pub install_kept : (rows : List Row) (fills noted : List Fill) (interval : Interval) (base : ℕ) (r : Result Reply E) → MachineInvariant e (state_of (items_of rows) fills)
      → IfOk r (λ reply. RepliesToInstall e (state_of (items_of rows) fills) interval base reply (state_of (items_of rows) noted)) → OnErr r (noted ≡ fills) → MachineInvariant e (state_of (items_of rows) noted)
  install_kept rows fills noted interval base (Ok reply) inv step same = keeps e tables db (state_of (items_of rows) fills) (state_of (items_of rows) noted) (Install 0 interval base) reply inv step
  install_kept rows fills noted interval base (Err error) inv step same = subst (λ (l : List Fill). MachineInvariant e (state_of (items_of rows) l)) (sym same) inv

  pub abandon_kept : (rows : List Row) (fills noted : List Fill) (interval : Interval) (r : Result Reply E) → MachineInvariant e (state_of (items_of rows) fills)
      → IfOk r (λ reply. (history : List Item) → RepliesToAbandon (state_of history fills) interval reply (state_of history noted)) → OnErr r (noted ≡ fills) → MachineInvariant e (state_of (items_of rows) noted)
  abandon_kept rows fills noted interval (Ok reply) inv step same = keeps e tables db (state_of (items_of rows) fills) (state_of (items_of rows) noted) (Abandon 0 interval) reply inv (step (items_of rows))
  abandon_kept rows fills noted interval (Err error) inv step same = subst (λ (l : List Fill). MachineInvariant e (state_of (items_of rows) l)) (sym same) inv
