-- What any number of reads of a store leaves.
use Rattle.std.proofs.Common.{◌≡◌, inl, inr, ℕ, ◌≤◌, Bool, true, false, Option, Some, None, List, [], ◌∷◌, ◌++◌, refl, sym, ap, ◌∙◌, subst, arith}
use Rattle.std.specs.Prelude.{Result, Ok, Err, IfErr, IsNone, IsTrue, Contains, ◌==◌, ◌||◌}
use Rattle.std.specs.List.{AllByRecursion}
use Rattle.std.specs.Option.{option_or}
use Rattle.std.proofs.lemmas.Bool.Decides.{nat_tests}
use Rattle.std.proofs.lemmas.List.{append-nil}
use Rattle.arch_disk.specs.Disk.{Device, NoFault, OnlyReads, raised}
use Rattle.arch_disk.proofs.Moments.{looked_none, looked_on}
use Rattle.arch_types.specs.declared.row_fault.RowFault.{RowFault}
use Rattle.arch_types.specs.declared.row_fault.RowFault.TheVariants.{DiskFault, Damaged, OutOfMemory}
use Rattle.arch_types.specs.declared.row.Row.{Row}
use Rattle.history_items.specs.declared.fills.Addition.TheVariants.{Nothing}
use Rattle.history_items.specs.declared.fills.Fill.{Fill}
use Rattle.history_items.specs.declared.fills.Fill.TheVariants.{Fault}
use Rattle.refusals.specs.declared.refusal.Refusal.{Refusal}
use Rattle.refusals.specs.declared.refusal.Refusal.TheVariants as refused
use Rattle.refusals.specs.Refusal.{refusal_of_rows}
use Rattle.history_items.specs.Fills.{pending_fault_of}
use Rattle.history_items.specs.Items.{rows_in}
use Rattle.history_items.proofs.FillLists.{pending_fault_of-append}
use Rattle.replay_merge.specs.RowSource.{UsedRowSource, told_if}
use Rattle.archive_images.specs.Entries.{IsArchivedRow}
use Rattle.archive_store.specs.ReadOn.{read_none}
use Rattle.archive_store.specs.Pages.{HasPages, TellsRows, is_told}
use Rattle.archive_store.specs.Replays.{rows_below, source_state}
use Rattle.archive_store.specs.StoreView.{AddsFault, StoreView}
use Rattle.archive_store.specs.UnreadRows.{IsFaultOfRead, IsLeftByAnswer, IsLeftByRead, IsLeftByRefusal, IsReadFault, IsReadOn, IsReadRefusal, IsSourceFault, ReadsPages, ReadsRows}

-- no fault of a read is pending
none_pending : (reads : List Fill) → AllByRecursion IsFaultOfRead reads → pending_fault_of reads ≡ None
none_pending [] each = refl
none_pending (item ∷ reads) each = subst (λ (f : Fill). pending_fault_of (f ∷ reads) ≡ None) (sym each.0.1) (none_pending reads each.1)

or_none : (o : Option ℕ) → option_or o None ≡ o
or_none None = refl
or_none (Some n) = refl

module _ {D : Type 0} (device : Device D) where
  -- ---- rows that are read again

  reads_pages : (a b c : StoreView D) → ReadsPages device a b → ReadsPages device b c → ReadsPages device a c
  reads_pages a b c one two = record {
    paged = one.paged;
    same = two.same ∙ ap (λ (s : StoreView D). record s { disk = c.disk; fills = c.fills }) one.same;
    disk = looked_on device a.disk b.disk c.disk one.disk two.disk;
  }

  pub reads_more : (a b c : StoreView D) → ReadsRows device a b → ReadsRows device b c → ReadsRows device a c
  reads_more a b c (inl same) two = subst (λ (s : StoreView D). ReadsRows device s c) same two
  reads_more a b c (inr one) (inl same) = subst (ReadsRows device a) (sym same) (inr one)
  reads_more a b c (inr one) (inr two) = inr (reads_pages a b c one.0 two.0, two.1 ∙ one.1, two.2 ∙ one.2)

  -- no call of the disk failed
  pub reads_calm : (a b : StoreView D) → ReadsRows device a b → NoFault device a.disk b.disk
  reads_calm a b (inl same) = ap (λ (s : StoreView D). device.fault_count s.disk) same
  reads_calm a b (inr pages) = pages.2

  -- and it was only read
  pub reads_disk : (a b : StoreView D) → ReadsRows device a b → OnlyReads device a.disk b.disk
  reads_disk a b (inl same) = subst (λ (s : StoreView D). OnlyReads device a.disk s.disk) (sym same) (looked_none device a.disk)
  reads_disk a b (inr pages) = pages.0.disk

  -- all but the disk is as it was
  pub reads_but_disk : (a b : StoreView D) → ReadsRows device a b → b ≡ record a { disk = b.disk }
  reads_but_disk a b (inl same) = same ∙ ap (λ (d : D). record a { disk = d }) (sym (ap (λ (s : StoreView D). s.disk) same))
  reads_but_disk a b (inr pages) = pages.0.same ∙ ap (λ (l : List Fill). record a { disk = b.disk; fills = l }) pages.1

  after_pages : (a b c : StoreView D) → ReadsPages device a b → b.fills ≡ a.fills → NoFault device a.disk b.disk → (fault : RowFault) → IsReadFault device b c fault → IsReadFault device a c fault
  after_pages a b c pages fills none DiskFault is = (
    pages.paged,
    record {
      history = is.1.history ∙ ap (λ (s : StoreView D). s.history) pages.same;
      filled = is.1.filled ∙ ap (λ (s : StoreView D). s.filled) pages.same;
      records = is.1.records ∙ ap (λ (s : StoreView D). s.records) pages.same;
      count = is.1.count;
      count_is = is.1.count_is;
      fills = is.1.fills ∙ ap (λ (l : List Fill). l ++ Fault is.1.count false Nothing ∷ []) fills;
      rose = subst (λ (n : ℕ). raised n ≤ device.fault_count c.disk) none is.1.rose;
      writes = is.1.writes ∙ pages.disk.no_write;
    },
  )
  after_pages a b c pages fills none (Damaged file at) is = (pages.paged, subst (λ (s : StoreView D). IsNone (source_state device s).history) pages.same is.1)
  after_pages a b c pages fills none OutOfMemory is = tt

  -- a fault behind reads that went well is one of all of them
  pub fault_after : (a b c : StoreView D) → ReadsRows device a b → (fault : RowFault) → IsReadFault device b c fault → IsReadFault device a c fault
  fault_after a b c (inl same) fault is = subst (λ (s : StoreView D). IsReadFault device s c fault) same is
  fault_after a b c (inr pages) fault is = after_pages a b c pages.0 pages.1 pages.2 fault is

  -- and leaves what they all leave
  pub left_after : (a b c : StoreView D) → ReadsRows device a b → (refusal : Refusal) → IsLeftByRefusal device b c refusal → IsLeftByRefusal device a c refusal
  left_after a b c (inl same) refusal left = subst (λ (s : StoreView D). IsLeftByRefusal device s c refusal) same left
  left_after a b c (inr pages) refused.DiskFault left = reads_pages a b c pages.0 left
  left_after a b c (inr pages) _ left = reads_more a b c (inr pages) left

  -- ---- a store as a source

  pub read_used : (old new : StoreView D) → IsReadOn device old new → UsedRowSource (source_state device old) (source_state device new)
  read_used old new on = record {
    told = ap (λ (s : StoreView D). told_if (is_told device s) (rows_below s.history)) on.same;
    no_others = λ row may. record {
      own = λ told. subst (λ (s : StoreView D). Contains (rows_in s.history) row) on.same (may.own (subst (λ (s : StoreView D). IsTrue (is_told device s)) (sym on.same) told));
      archived = subst (λ (s : StoreView D). IsArchivedRow s.head s.history row) on.same may.archived;
    };
    no_other_fault = λ paged. subst HasPages on.same paged;
    later = on.disk.later;
  }

  -- a fault behind reads that met none is one of all of them
  pub source_fault_after : (a b c : StoreView D) → IsReadOn device a b → NoFault device a.disk b.disk → (fault : RowFault) → IsSourceFault device b c fault → IsSourceFault device a c fault
  source_fault_after a b c on calm DiskFault is =
      let used = read_used a b on in
      let rose = is.1 in (used.no_other_fault is.0, omega (arith, used.later, rose))
  source_fault_after a b c on calm (Damaged file at) is = let used = read_used a b on in (used.no_other_fault is.0, subst (λ (o : Option (ℕ → List Row)). IsNone o) used.told is.1, is.2 ∙ calm)
  source_fault_after a b c on calm OutOfMemory is = is ∙ calm

  -- what was told still is
  pub told_after : (old new : StoreView D) → IsReadOn device old new → TellsRows device old → TellsRows device new
  told_after old new on told paged = told (subst HasPages on.same paged)

  -- and a failed write that was pending still is, and no other
  pub pending_after : (old new : StoreView D) → IsReadOn device old new → pending_fault_of new.fills ≡ pending_fault_of old.fills
  pending_after old new on =
      ap (λ (s : StoreView D). pending_fault_of s.fills) on.same ∙ pending_fault_of-append old.fills on.faults
      ∙ ap (option_or (pending_fault_of old.fills)) (none_pending on.faults on.each) ∙ or_none (pending_fault_of old.fills)

  -- and where a store tells its rows its source tells them
  pub told_is : (store : StoreView D) → TellsRows device store → is_told device store ≡ true
  told_is store told = by (store.sealed == 0) refl
    where
      by : (b : Bool) → (store.sealed == 0) ≡ b → (b || device.is_transparent) ≡ true
      by true e = refl
      by false e = told (grind (arith, nat_tests, e))

  module _ (old new : StoreView D) where
    not_plain : ReadsPages device old new → old.sealed ≡ 0 → new ≡ old
    not_plain pages none = absurd (omega (arith, pages.paged, none))

    -- rows were read
    pub reads_on : ReadsRows device old new → IsReadOn device old new
    reads_on (inl same) = subst (IsReadOn device old) (sym same) (read_none device old)
    reads_on (inr (pages, fills, none)) = record {
      faults = [];
      each = tt;
      same = pages.same ∙ ap (λ (l : List Fill). record old { disk = new.disk; fills = l }) (fills ∙ sym (append-nil old.fills));
      disk = pages.disk;
      no_fault = λ _. none;
      plain = not_plain pages;
    }

    -- a read failed, which added its fault
    failed_on : ReadsPages device old new → AddsFault device old new false Nothing → IsReadOn device old new
    failed_on pages fault = record {
      faults = Fault fault.count false Nothing ∷ [];
      each = ((fault.count, refl), tt);
      same = pages.same ∙ ap (λ (l : List Fill). record old { disk = new.disk; fills = l }) fault.fills;
      disk = pages.disk;
      no_fault = λ none. absurd (cc none);
      plain = not_plain pages;
    }

    of_fault : (fault : RowFault) → IsReadFault device old new fault → IsLeftByRefusal device old new (refusal_of_rows fault) → IsReadOn device old new
    of_fault DiskFault is left = failed_on left is.1
    of_fault (Damaged file at) is left = reads_on left
    of_fault OutOfMemory is left = reads_on left

    -- rows weren't read
    pub left_on : (refusal : Refusal) → IsReadRefusal device old new refusal → IsLeftByRefusal device old new refusal → IsReadOn device old new
    left_on refusal (fault, is, of) left = of_fault fault is (subst (IsLeftByRefusal device old new) of left)

    -- they were, or weren't
    pub answer_on : {X : Type 0} (answer : Result X Refusal) → IfErr answer (IsReadRefusal device old new) → IsLeftByAnswer device old new answer → IsReadOn device old new
    answer_on (Ok x) refused left = reads_on left
    answer_on (Err refusal) refused left = left_on refusal refused left

    pub read_on : {X : Type 0} (answer : Result X RowFault) → IfErr answer (IsReadFault device old new) → IsLeftByRead device old new answer → IsReadOn device old new
    read_on (Ok x) unread left = reads_on left
    read_on (Err fault) unread left = of_fault fault unread left
