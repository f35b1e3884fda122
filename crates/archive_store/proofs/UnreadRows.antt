-- Rows that aren't read, and what reading them leaves, where all stand in memory.
use Rattle.std.proofs.Common.{◌≡◌, inl, inr, List, Result, Ok, Err, IfErr, refl, sym, ap, ◌∙◌, subst, arith}
use Rattle.std.specs.Prelude.{IsErrAnd}
use Rattle.arch_disk.specs.Disk.{Device}
use Rattle.arch_disk.proofs.Moments.{looked_none}
use Rattle.arch_types.specs.declared.row_fault.RowFault.{RowFault}
use Rattle.arch_types.specs.declared.row_fault.RowFault.TheVariants.{DiskFault, Damaged, OutOfMemory}
use Rattle.refusals.specs.declared.refusal.Refusal.{Refusal}
use Rattle.refusals.specs.declared.refusal.Refusal.TheVariants as refused
use Rattle.refusals.specs.Refusal.{refusal_of_rows}
use Rattle.history_items.specs.declared.items.Item.{Item}
use Rattle.store_fills.specs.declared.task.FillTask.{FillTask}
use Rattle.replay_merge.specs.RowSource.{IsRowFault}
use Rattle.archive_store.specs.UnreadRows.{IsLeftByAnswer, IsLeftByRead, IsLeftByRefusal, IsReadFault, IsReadRefusal, ReadsPages, ReadsRows}
use Rattle.archive_store.specs.Pages.{HasPages, TellsRows}
use Rattle.archive_store.specs.Replays.{memory_state}
use Rattle.archive_store.specs.StoreView.{StoreView}
use Rattle.archive_store.specs.Tasks.{BeginsTask}

no_pages : {D : Type 0} (store : StoreView D) → store.sealed ≡ 0 → HasPages store → ⊥
no_pages store plain paged = omega (arith, paged, plain)

-- rows in memory are told
pub told_in_memory : {D : Type 0} (device : Device D) (store : StoreView D) → store.sealed ≡ 0 → TellsRows device store
told_in_memory device store plain paged = absurd (no_pages store plain paged)

module _ {D : Type 0} (device : Device D) (old new : StoreView D) where
  -- ---- why

  -- memory that is wanting is why
  pub memory_unread : {X : Type 0} (r : Result X RowFault) → IsErrAnd r (λ e. e ≡ OutOfMemory) → IfErr r (IsReadFault device old new)
  memory_unread (Ok x) is = tt
  memory_unread (Err e) is = subst (IsReadFault device old new) (sym is) tt

  -- rows in memory are refused for nothing else
  pub fault_unread : (fault : RowFault) (before after : List Item) → IsRowFault (memory_state before) (memory_state after) fault → IsReadFault device old new fault
  fault_unread DiskFault before after is = absurd is.0
  fault_unread (Damaged file at) before after is = absurd is.0
  fault_unread OutOfMemory before after is = tt

  pub rows_unread : {X : Type 0} (r : Result X RowFault) (before after : List Item) → IfErr r (IsRowFault (memory_state before) (memory_state after)) → IfErr r (IsReadFault device old new)
  rows_unread (Ok x) before after is = tt
  rows_unread (Err fault) before after is = fault_unread fault before after is

  -- ---- what is left

  -- a call leaves it so that changed nothing and met no failed read
  pub left_by : (refusal : Refusal) → (refusal ≡ refused.DiskFault → ⊥) → new ≡ old → IsLeftByRefusal device old new refusal
  left_by refused.DiskFault other same = absurd (other refl)
  left_by _ other same = inl same

  pub left_by_memory : {X : Type 0} (answer : Result X Refusal) → IsErrAnd answer (λ e. e ≡ refused.OutOfMemory) → new ≡ old → IsLeftByAnswer device old new answer
  left_by_memory (Ok x) is same = inl same
  left_by_memory (Err refusal) is same = subst (IsLeftByRefusal device old new) (sym is) (inl same)

  pub memory_left : (fault : RowFault) → IsReadFault device old new fault → new ≡ old → IsLeftByRefusal device old new (refusal_of_rows fault)
  memory_left DiskFault is same = subst (ReadsPages device old) (sym same) (record { paged = is.0; same = refl; disk = looked_none device old.disk })
  memory_left (Damaged file at) is same = inl same
  memory_left OutOfMemory is same = inl same

  pub left_by_read : {X : Type 0} (answer : Result X RowFault) → IfErr answer (IsReadFault device old new) → new ≡ old → IsLeftByRead device old new answer
  left_by_read (Ok x) is same = inl same
  left_by_read (Err fault) is same = memory_left fault is same

  -- a fault that is handed on leaves what it left
  pub left_passed_on : {X : Type 0} (answer : Result X RowFault) (fault : RowFault) → IsErrAnd answer (λ e. e ≡ fault) → IsLeftByRefusal device old new (refusal_of_rows fault) → IsLeftByRead device old new answer
  left_passed_on (Ok x) fault is left = absurd is
  left_passed_on (Err e) fault is left = subst (λ (f : RowFault). IsLeftByRefusal device old new (refusal_of_rows f)) (sym is) left

  -- ---- where no row stands in a run

  module _ (plain : old.sealed ≡ 0) where
    -- memory is wanting, and nothing else
    pub unread_is_memory : (fault : RowFault) → IsReadFault device old new fault → fault ≡ OutOfMemory
    unread_is_memory DiskFault is = absurd (no_pages old plain is.0)
    unread_is_memory (Damaged file at) is = absurd (no_pages old plain is.0)
    unread_is_memory OutOfMemory is = refl

    pub refusal_is_memory : (refusal : Refusal) → IsReadRefusal device old new refusal → refusal ≡ refused.OutOfMemory
    refusal_is_memory refusal (fault, is, of) = of ∙ ap refusal_of_rows (unread_is_memory fault is)

    -- all is as it was
    pub read_same : ReadsRows device old new → new ≡ old
    read_same (inl same) = same
    read_same (inr pages) = absurd (no_pages old plain pages.0.paged)

    -- but for the fill list, where a fill began
    pub begun_same : (task : FillTask) → BeginsTask device old new task → new ≡ record old { fills = new.fills }
    begun_same task begun = ap (λ (s : StoreView D). record s { fills = new.fills }) (reads_none (record new { fills = old.fills }) begun.reads)
      where
        reads_none : (store : StoreView D) → ReadsRows device old store → store ≡ old
        reads_none store (inl same) = same
        reads_none store (inr pages) = absurd (no_pages old plain pages.0.paged)

    pub refusal_same : (refusal : Refusal) → IsLeftByRefusal device old new refusal → new ≡ old
    refusal_same refused.DiskFault left = absurd (no_pages old plain left.paged)
    refusal_same _ left = read_same left

    pub answer_same : {X : Type 0} (answer : Result X Refusal) → IsLeftByAnswer device old new answer → new ≡ old
    answer_same (Ok x) left = read_same left
    answer_same (Err refusal) left = refusal_same refusal left

    pub unread_same : {X : Type 0} (answer : Result X RowFault) → IsLeftByRead device old new answer → new ≡ old
    unread_same (Ok x) left = read_same left
    unread_same (Err fault) left = refusal_same (refusal_of_rows fault) left
