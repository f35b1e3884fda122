-- One fill more.
use Rattle.std.proofs.Common.{◌≡◌, ◌≢◌, ◌⊎◌, inl, inr, ℕ, ◌+◌, ◌<◌, ◌≤◌, List, [], ◌∷◌, ◌++◌, length, Bool, true, false, Option, Some, None, refl, sym, ap, subst, ◌∙◌, arith, append-nil}
use Rattle.std.specs.Prelude.{zero, suc, filter, nat_lt, IsNone, if◌then◌else◌}
use Rattle.std.specs.Option.{is_some, option_map, option_map_or}
use Rattle.std.proofs.Math.Path.{fun_ext}
use Rattle.std.proofs.lemmas.Bool.Decides.{nat_tests}
use Rattle.std.proofs.lemmas.List.{take_all}
use Rattle.std.proofs.lemmas.Option.{slice_get_within}
use Rattle.arch_disk.specs.Disk.{Device, NoFault, OnlyReads, raised}
use Rattle.arch_types.specs.declared.inserted.Installed.{Installed}
use Rattle.arch_types.specs.declared.inserted.Installed.TheVariants.{Done as BecameDone, Stale}
use Rattle.intervals.specs.declared.interval.Interval.{Interval}
use Rattle.refusals.specs.declared.refusal.Refusal.{Refusal}
use Rattle.refusals.specs.declared.refusal.Refusal.TheVariants.{DiskFault, Limit, NeedsReopen, OutOfMemory}
use Rattle.refusals.specs.declared.refusal.Which.TheVariants.{Records}
use Rattle.refusals.specs.Limits.{limit_of}
use Rattle.history_items.specs.declared.fills.Addition.TheVariants as additions
use Rattle.history_items.specs.declared.fills.Fill.{Fill}
use Rattle.history_items.specs.declared.fills.Fill.TheVariants.{Begun, Done, Fault, Freed}
use Rattle.history_items.specs.declared.items.Item.{Item}
use Rattle.history_items.specs.Fills.{base_in, is_same, flight_after, in_flight, pending_fault_of}
use Rattle.history_items.specs.Databases.{database_in}
use Rattle.history_items.specs.Items.{database_item, prefix, row_item}
use Rattle.history_items.specs.Late.{IsLate, IsLastIn, is_late_in, last_in}
use Rattle.history_items.proofs.FillLists.{base_after_item, flight_after_item}
use Rattle.history_items.proofs.Late.{last_is_greatest, late_by_last}
use Rattle.late_marks.specs.Mark.{is_late_by}
use Rattle.interval_fills.specs.Intervals.{NoneSince, rows_of_interval}
use Rattle.interval_fills.specs.Steps.{AllLateInFlight, IsFillBase, IsNextToFill, MachineState, freed}
use Rattle.interval_fills.proofs.Steps.{same_interval}
use Rattle.interval_walks.specs.Counts.{intervals_in, late_intervals}
use Rattle.interval_walks.proofs.Counts.{none_late, one_late_less}
use Rattle.param_segments.specs.Rows.{SetRow}
use Rattle.mdb_items.specs.Database.{Database}
use Rattle.std.specs.Arc.{arc_value}
use Rattle.store_fills.specs.Built.{BuiltFill, IsTaskRows, built_fill}
use Rattle.store_fills.specs.declared.task.FillTask.{FillTask}
use Rattle.store_fills.specs.Faults.{faults_in}
use Rattle.store_fills.proofs.Faults.{faults_in-append, pending_fault_of-in}
use Rattle.store_fills.specs.Filled.{HoldsRows}
use Rattle.store_fills.specs.LastFills.{PlacedFills, fill_over, fillings_in}
use Rattle.store_fills.specs.Sound.{Filling, Fillings, base_of_filling, with_filling}
use Rattle.archive_store.proofs.CurrentSets.{late_by_fill}
use Rattle.archive_store.proofs.ReadOn.{reads_but_disk, reads_calm, reads_disk, reads_on, told_is}
use Rattle.archive_store.specs.Pages.{TellsRows}
use Rattle.archive_store.specs.Replays.{rows_below}
use Rattle.archive_store.specs.UnreadRows.{IsLeftByRefusal, IsReadFault, IsReadOn, IsReadRefusal, ReadsRows}
use Rattle.arch_disk.proofs.Moments.{looked_none}
use Rattle.arch_types.specs.declared.row_fault.RowFault.{RowFault}
use Rattle.arch_types.specs.declared.row_fault.RowFault.TheVariants as unread
use Rattle.refusals.specs.Refusal.{refusal_of_rows}
use Rattle.replay_merge.specs.RowSource.{told_if}
use Rattle.archive_store.specs.Head.{Head}
use Rattle.archive_store.specs.Entries.{filled_archive}
use Rattle.archive_store.specs.Installs.{FillIsAppended, IsAbandoned, IsInstallRefusal, IsStoreInstalled}
use Rattle.archive_store.specs.StoreView.{AddsFault, StoreView}
use Rattle.archive_store.specs.Tasks.{BeginsTask, IsFillBegun, machine_state}
use Rattle.archive_store.specs.AddedFills.{AddsRightFills, IsAddedFill}
use Rattle.load_session.specs.Filling.{AllLateFilled, IsBegunTask, IsFillFailed, IsFilledOn, IsFillingRefusal, IsTaskFilled, IsTaskRefusal, IsUnfailed, filling_refusal, task_fill}
use Rattle.archive_store.specs.LateFills.{is_late_in_archive}

abbrev pub begun : List Fill → Interval → ℕ → List Fill
begun fills i base = fills ++ Begun i base ∷ []

abbrev pub begun_and_done : List Fill → Interval → ℕ → List Fill
begun_and_done fills i base = begun fills i base ++ Done i base ∷ []

-- ---- a beginning leaves which intervals are late

late_begun_at : (exponent : ℕ) (history : List Item) (fills : List Fill) (i j : Interval) (base : ℕ) → is_late_in exponent j history (begun fills i base) ≡ is_late_in exponent j history fills
late_begun_at exponent history fills i j base = ap (λ (b : Option ℕ). option_map_or (λ last. is_late_by last b) (last_in exponent j history) false) (base_after_item j fills (Begun i base))

late_begun : (exponent : ℕ) (history : List Item) (fills : List Fill) (i : Interval) (base : ℕ) → late_intervals exponent history (begun fills i base) ≡ late_intervals exponent history fills
late_begun exponent history fills i base = ap (λ (p : Interval → Bool). filter p (intervals_in exponent history)) (fun_ext (λ j. late_begun_at exponent history fills i j base))

is_late_begun : (exponent : ℕ) (history : List Item) (fills : List Fill) (i j : Interval) (base : ℕ) → IsLate exponent j history fills → IsLate exponent j history (begun fills i base)
is_late_begun exponent history fills i j base late = (late_by_last exponent j history (begun fills i base)).0 (late_begun_at exponent history fills i j base ∙ (late_by_last exponent j history fills).1 late)

-- ---- a fill over the whole history

none_since_end : (exponent : ℕ) (history : List Item) (i : Interval) → NoneSince exponent i (length history) history
none_since_end exponent history i p (inl stands) = slice_get_within history p (row_item stands.row) stands.there
none_since_end exponent history i p (inr stands) = slice_get_within history p (database_item stands.0) stands.1

never_stale : (exponent : ℕ) (history : List Item) (i : Interval) (base position : ℕ) → base ≡ length history → base ≤ position → last_in exponent i history ≡ Some position → ⊥
never_stale exponent history i base position is le last =
    let p = subst (IsLastIn exponent i history) last (last_is_greatest exponent i history) in
    omega (arith, is, le, none_since_end exponent history i position p.1)

one_less : (exponent : ℕ) (history : List Item) (fills : List Fill) (i : Interval) (base : ℕ) → base ≡ length history → IsLate exponent i history fills
    → length (late_intervals exponent history (begun_and_done fills i base)) + 1 ≡ length (late_intervals exponent history fills)
one_less exponent history fills i base is late =
    one_late_less exponent history (begun fills i base) i base (is_late_begun exponent history fills i i base late) (subst (λ (n : ℕ). NoneSince exponent i n history) (sym is) (none_since_end exponent history i))
    ∙ ap length (late_begun exponent history fills i base)

-- the flight has ended
idle_again : (fills : List Fill) (i : Interval) (base : ℕ) → ((j : Interval) → in_flight j fills ≡ None) → (j : Interval) → in_flight j (begun_and_done fills i base) ≡ None
idle_again fills i base idle j =
    flight_after_item j (begun fills i base) (Done i base) ∙ ap (λ (o : Option ℕ). flight_after j o (Done i base)) (flight_after_item j fills (Begun i base) ∙ ap (λ (o : Option ℕ). flight_after j o (Begun i base)) (idle j)) ∙ go (is_same j i)
  where
    go : (b : Bool) → (if b then None else (if b then Some base else None)) ≡ None
    go true = refl
    go false = refl

-- what it tells of faults
faults_begun : (fills : List Fill) (i : Interval) (base : ℕ) → faults_in (begun fills i base) ≡ faults_in fills
faults_begun fills i base = faults_in-append fills (Begun i base ∷ []) ∙ append-nil (faults_in fills)

faults_begun_and_done : (fills : List Fill) (i : Interval) (base : ℕ) → faults_in (begun_and_done fills i base) ≡ faults_in fills
faults_begun_and_done fills i base = faults_in-append (begun fills i base) (Done i base ∷ []) ∙ append-nil (faults_in (begun fills i base)) ∙ faults_begun fills i base

faults_freed : (i : Interval) (fills : List Fill) → faults_in (freed i fills) ≡ faults_in fills
faults_freed i fills = go (is_some (in_flight i fills))
  where
    go : (b : Bool) → faults_in (if b then fills ++ Freed i ∷ [] else fills) ≡ faults_in fills
    go true = faults_in-append fills (Freed i ∷ []) ∙ append-nil (faults_in fills)
    go false = refl

-- ---- where each late interval is in flight, and nothing is, none is late

none_left : (exponent : ℕ) (s : MachineState) → AllLateInFlight exponent s → ((j : Interval) → in_flight j s.fills ≡ None) → (i : Interval) → IsLate exponent i s.history s.fills → ⊥
none_left exponent s all idle i late = all i late (idle i)

none_counted : (exponent : ℕ) (s : MachineState) → AllLateInFlight exponent s → ((j : Interval) → in_flight j s.fills ≡ None) → length (late_intervals exponent s.history s.fills) ≡ 0
none_counted exponent s all idle = ap length (none_late exponent s.history s.fills (none_left exponent s all idle))

-- ---- what an install answers to a task over the whole history

module _ {D : Type 0} (device : Device D) (old new : StoreView D) (done : BuiltFill) (task : FillTask) (at : done.interval ≡ task.interval) (over : done.base ≡ task.base)
    (by : (done.exponent ≡ task.exponent) × (done.mdb ≡ arc_value task.mdb)) where
  same_built : done ≡ task_fill task done.set
  same_built =
      ap (λ (j : Interval). built_fill j done.exponent done.base done.mdb done.set) at ∙ ap (λ (n : ℕ). built_fill task.interval done.exponent n done.mdb done.set) over
      ∙ ap (λ (e : ℕ). built_fill task.interval e task.base done.mdb done.set) by.0 ∙ ap (λ (db : Database). built_fill task.interval task.exponent task.base db done.set) by.1

  pub task_filled : (became : Installed) → task.base ≡ length old.history → (TellsRows device old → HoldsRows (database_in old.head.mdb old.history) done.set (rows_of_interval old.exponent task.interval old.history)) → IsStoreInstalled device old new done became
      → IsTaskFilled device old new task
  task_filled BecameDone whole holds both = record { set = done.set; installable = both.0; appended = subst (FillIsAppended device old new) same_built both.1; holds = holds }
  task_filled (Stale position) whole holds stale = absurd (never_stale old.exponent old.history done.interval done.base position (over ∙ whole) stale.1.0 stale.1.1)

  pub task_refused : (e : Refusal) → IsInstallRefusal device old new done e → IsTaskRefusal device old new task e
  task_refused (NeedsReopen faults) r = (r.0, subst (λ (j : Interval). IsAbandoned old new j) at r.1)
  task_refused (Limit which number) r = (r.2, r.3, r.4, subst (λ (j : Interval). IsAbandoned old new j) at r.5)
  task_refused OutOfMemory r = subst (λ (j : Interval). IsAbandoned old new j) at r.2
  task_refused DiskFault r = (
    r.0.healed,
    (
      r.2.0,
      subst (λ (j : Interval). AddsFault device old r.2.0 true (additions.Fill j task.base)) at
          (subst (λ (n : ℕ). AddsFault device old r.2.0 true (additions.Fill done.interval n)) over r.2.1),
      subst (λ (j : Interval). IsAbandoned r.2.0 new j) at r.2.2,
    ),
  )
  task_refused _ r = absurd r

-- a refused task leaves the rows and the fills, and while a failed write is pending the disk
module _ {D : Type 0} (device : Device D) (old new : StoreView D) (task : FillTask) where
  refused_history : (e : Refusal) → IsTaskRefusal device old new task e → new.history ≡ old.history
  refused_history OutOfMemory r = ap (λ (s : StoreView D). s.history) r
  refused_history (NeedsReopen faults) r = ap (λ (s : StoreView D). s.history) r.1
  refused_history (Limit which number) r = ap (λ (s : StoreView D). s.history) r.3
  refused_history DiskFault r = ap (λ (s : StoreView D). s.history) r.1.2 ∙ r.1.1.history
  refused_history _ r = absurd r

  refused_filled : (e : Refusal) → IsTaskRefusal device old new task e → new.filled ≡ old.filled
  refused_filled OutOfMemory r = ap (λ (s : StoreView D). s.filled) r
  refused_filled (NeedsReopen faults) r = ap (λ (s : StoreView D). s.filled) r.1
  refused_filled (Limit which number) r = ap (λ (s : StoreView D). s.filled) r.3
  refused_filled DiskFault r = ap (λ (s : StoreView D). s.filled) r.1.2 ∙ r.1.1.filled
  refused_filled _ r = absurd r

  refused_records : (e : Refusal) → IsTaskRefusal device old new task e → new.records ≡ old.records
  refused_records OutOfMemory r = ap (λ (s : StoreView D). s.records) r
  refused_records (NeedsReopen faults) r = ap (λ (s : StoreView D). s.records) r.1
  refused_records (Limit which number) r = ap (λ (s : StoreView D). s.records) r.3
  refused_records DiskFault r = ap (λ (s : StoreView D). s.records) r.1.2 ∙ r.1.1.records
  refused_records _ r = absurd r

  refused_disk : (e : Refusal) → pending_fault_of old.fills ≢ None → IsTaskRefusal device old new task e → new.disk ≡ old.disk
  refused_disk OutOfMemory unhealed r = ap (λ (s : StoreView D). s.disk) r
  refused_disk (NeedsReopen faults) unhealed r = ap (λ (s : StoreView D). s.disk) r.1
  refused_disk (Limit which number) unhealed r = ap (λ (s : StoreView D). s.disk) r.3
  refused_disk DiskFault unhealed r = absurd (unhealed r.0)
  refused_disk _ unhealed r = absurd r

-- ---- the fills that came

module _ (head : Head) (exponent : ℕ) (history : List Item) (old now : Fillings (List SetRow)) (adds : AddsRightFills head exponent history old now) (i : Interval) where
  abbrev late_by : Option (Filling (List SetRow)) → Bool
  late_by f = option_map_or (λ last. is_late_by last (option_map (λ g. g.base) f)) (last_in exponent i history) false

  -- an interval that is late now was so at first
  was_late : is_late_in_archive (filled_archive head exponent history now) i ≡ true → is_late_in_archive (filled_archive head exponent history old) i ≡ true
  was_late late = go (adds i)
    where
      go : (now i ≡ old i) ⊎ IsAddedFill head exponent history old i (now i) → is_late_in_archive (filled_archive head exponent history old) i ≡ true
      go (inl same) = ap late_by (sym same) ∙ late
      go (inr whole) = whole.0

  one_whole : (base : ℕ) (set : List SetRow) → base ≡ length history → IsFillBase exponent i base history → is_late_in_archive (filled_archive head exponent history now) i ≡ true → HoldsRows (database_in head.mdb history) set (rows_of_interval exponent i history)
      → AddsRightFills head exponent history old (with_filling now i (fill_over base set))
  one_whole base set over may late holds j = go (is_same j i) refl
    where
      go : (b : Bool) → is_same j i ≡ b → ((if b then Some (fill_over base set) else now j) ≡ old j) ⊎ IsAddedFill head exponent history old j (if b then Some (fill_over base set) else now j)
      go true same =
          let whole : prefix base history ≡ history = take_all base history (omega (arith, over)) in
          inr (subst (λ (k : Interval). IsAddedFill head exponent history old k (Some (fill_over base set))) (sym (same_interval j i same))
          (was_late late, (base, set, may, refl, subst (λ (h : List Item). HoldsRows (database_in head.mdb h) set (rows_of_interval exponent i h)) (sym whole) holds)))
      go false other = adds j

-- ---- whether the log has room for the fills

filling_fits : (records late : ℕ) → (0 < late → records + late ≤ limit_of Records) → filling_refusal records late ≡ None
filling_fits records zero fits = refl
filling_fits records (suc late) fits = go (nat_lt (limit_of Records) (records + suc late)) refl
  where
    go : (b : Bool) → nat_lt (limit_of Records) (records + suc late) ≡ b → (if b then Some (Limit Records (limit_of Records)) else None) ≡ None
    go true more =
        let passed : limit_of Records < records + suc late = grind (arith, nat_tests, more) in
        let within = fits (omega arith) in
        absurd (omega (arith, passed, within))
    go false within = refl

filling_full : (records late : ℕ) → 0 < late → limit_of Records < records + late → filling_refusal records late ≡ Some (Limit Records (limit_of Records))
filling_full records zero some more = absurd (omega (arith, some))
filling_full records (suc late) some more = go (nat_lt (limit_of Records) (records + suc late)) refl
  where
    go : (b : Bool) → nat_lt (limit_of Records) (records + suc late) ≡ b → (if b then Some (Limit Records (limit_of Records)) else None) ≡ Some (Limit Records (limit_of Records))
    go true passed = refl
    go false not_passed =
        let within : records + suc late ≤ limit_of Records = grind (arith, nat_tests, not_passed) in
        absurd (omega (arith, more, within))

-- ---- filling, as far as it came

pub record IsFilling {D : Type 0} (device : Device D) (old now : StoreView D) (filled : ℕ) : Type 0 where
  pub idle : (i : Interval) → in_flight i now.fills ≡ None
  pub history : now.history ≡ old.history
  pub count : filled + length (late_intervals now.exponent now.history now.fills) ≡ length (late_intervals old.exponent old.history old.fills)
  pub records : now.records ≡ old.records + filled
  pub room : 0 < filled → now.records ≤ limit_of Records
  pub healed : 0 < filled → pending_fault_of old.fills ≡ None
  pub unfailed : IsUnfailed device old now
  pub sets : TellsRows device old → AddsRightFills old.head old.exponent old.history (fillings_in old.filled) (fillings_in now.filled)
  pub head : now.head ≡ old.head
  pub exponent : now.exponent ≡ old.exponent
  pub opened : now.opened ≡ old.opened
  pub sealed : now.sealed ≡ old.sealed
  pub unchanged : filled ≡ 0 → now ≡ old

-- where a fill has what there isn't, none was filled
nothing_filled : (filled : ℕ) (P : Type 0) → (0 < filled → P) → (P → ⊥) → filled ≡ 0
nothing_filled zero P some never = refl
nothing_filled (suc filled) P some never = absurd (never (some (omega arith)))

pub filling_first : {D : Type 0} (device : Device D) (store : StoreView D) → ((i : Interval) → in_flight i store.fills ≡ None) → IsFilling device store store 0
filling_first device store idle = record {
  idle = idle;
  history = refl;
  count = omega arith;
  records = omega arith;
  room = λ some. absurd (omega (arith, some));
  healed = λ some. absurd (omega (arith, some));
  unfailed = record { same_faults = refl; no_failed_write = refl; no_fault = refl };
  sets = λ told i. inl refl;
  head = refl;
  exponent = refl;
  opened = refl;
  sealed = refl;
  unchanged = λ none. refl;
}

-- no interval is late any more
pub filling_done : {D : Type 0} (device : Device D) (old now new : StoreView D) (filled : ℕ) → IsFilling device old now filled → IsFillBegun device now new None → AllLateFilled device old new filled
filling_done {D = D} device old now new filled f none = subst (λ (x : StoreView D). AllLateFilled device old x filled) (sym none.1) (record {
  none_late = none_left now.exponent (machine_state now) none.0 f.idle;
  count = omega (arith, f.count, none_counted now.exponent (machine_state now) none.0 f.idle);
  fits = filling_fits old.records filled (λ some. let room = f.room some in omega (arith, room, f.records));
  records = f.records;
  unfailed = f.unfailed;
})

-- what one of them tells the other does
told_alike : {D : Type 0} (device : Device D) (a b : StoreView D) → b.sealed ≡ a.sealed → TellsRows device a → TellsRows device b
told_alike device a b same told paged = told (omega (arith, paged, same))

module _ {D : Type 0} (device : Device D) (old now begun_store : StoreView D) (filled : ℕ) (f : IsFilling device old now filled) (task : FillTask) (began : BeginsTask device now begun_store task) where
  abbrev i : Interval
  i = task.interval

  -- what a store tells at first it tells now
  told_now : TellsRows device old → TellsRows device now
  told_now = told_alike device old now f.sealed

  -- rows were read, and a fill began
  same : begun_store ≡ record now { disk = begun_store.disk; fills = begun_store.fills }
  same = ap (λ (s : StoreView D). record s { fills = begun_store.fills }) (reads_but_disk device now (record begun_store { fills = now.fills }) began.reads)

  calm : NoFault device now.disk begun_store.disk
  calm = reads_calm device now (record begun_store { fills = now.fills }) began.reads

  only_read : OnlyReads device now.disk begun_store.disk
  only_read = reads_disk device now (record begun_store { fills = now.fills }) began.reads

  not_read : now.sealed ≡ 0 → begun_store.disk ≡ now.disk
  not_read plain = ap (λ (s : StoreView D). s.disk) ((reads_on device now (record begun_store { fills = now.fills }) began.reads).plain plain)

  late : IsLate now.exponent i now.history now.fills
  late = began.next.0.late

  same_records : begun_store.records ≡ now.records
  same_records = ap (λ (x : StoreView D). x.records) same

  same_filled : begun_store.filled ≡ now.filled
  same_filled = ap (λ (x : StoreView D). x.filled) same

  same_head : begun_store.head ≡ now.head
  same_head = ap (λ (x : StoreView D). x.head) same

  same_exponent : begun_store.exponent ≡ now.exponent
  same_exponent = ap (λ (x : StoreView D). x.exponent) same

  same_opened : begun_store.opened ≡ now.opened
  same_opened = ap (λ (x : StoreView D). x.opened) same

  same_sealed : begun_store.sealed ≡ now.sealed
  same_sealed = ap (λ (x : StoreView D). x.sealed) same

  same_history : begun_store.history ≡ now.history
  same_history = ap (λ (x : StoreView D). x.history) same

  told_begun : TellsRows device old → TellsRows device begun_store
  told_begun told = told_alike device now begun_store same_sealed (told_now told)

  begun_history : begun_store.history ≡ old.history
  begun_history = same_history ∙ f.history

  -- by the database in force
  by_database : arc_value task.mdb ≡ database_in begun_store.head.mdb begun_store.history
  by_database = began.mdb ∙ ap (λ (h : Head). database_in h.mdb now.history) (sym same_head) ∙ ap (database_in begun_store.head.mdb) (sym same_history)

  -- of the task that begins
  pub begun_task : IsTaskRows task.exponent i task.rows → IsBegunTask device begun_store task
  begun_task in_order = record {
    base = began.base ∙ ap length (sym same_history);
    exponent = began.exponent ∙ sym same_exponent;
    late =
        subst (λ (e : ℕ). IsLate e i begun_store.history begun_store.fills) (sym same_exponent)
        (subst (λ (l : List Fill). IsLate now.exponent i begun_store.history l) (sym began.fills)
        (subst (λ (h : List Item). IsLate now.exponent i h (begun now.fills i task.base)) (sym same_history) (is_late_begun now.exponent now.history now.fills i i task.base late)));
    rows = λ told.
        (began.step (told_alike device begun_store now (sym same_sealed) told)).rows_are ∙ ap (rows_of_interval now.exponent i) (sym same_history)
        ∙ ap (λ (e : ℕ). rows_of_interval e i begun_store.history) (sym same_exponent);
    in_order = in_order;
    mdb = by_database;
  }

  begun_unfailed : IsUnfailed device old begun_store
  begun_unfailed = record {
    same_faults = ap faults_in began.fills ∙ faults_begun now.fills i task.base ∙ f.unfailed.same_faults;
    no_failed_write = only_read.no_write ∙ f.unfailed.no_failed_write;
    no_fault = calm ∙ f.unfailed.no_fault;
  }

  -- the same failed write is pending
  same_pending : pending_fault_of begun_store.fills ≡ pending_fault_of old.fills
  same_pending = pending_fault_of-in begun_store.fills ∙ ap pending_fault_of begun_unfailed.same_faults ∙ sym (pending_fault_of-in old.fills)

  -- one late interval at least is left
  some_left : length (late_intervals now.exponent now.history (begun_and_done now.fills i task.base)) + 1 ≡ length (late_intervals now.exponent now.history now.fills)
  some_left = one_less now.exponent now.history now.fills i task.base began.base late

  module _ (new : StoreView D) where
    module _ (done : IsTaskFilled device begun_store new task) where
      new_fills : new.fills ≡ begun_and_done now.fills i task.base
      new_fills = ap (λ m. m.fills) done.appended.step.1 ∙ ap (λ (l : List Fill). l ++ Done i task.base ∷ []) began.fills

      new_history : new.history ≡ now.history
      new_history = ap (λ m. m.history) done.appended.step.1 ∙ same_history

      pub less_left : new.exponent ≡ begun_store.exponent → length (late_intervals new.exponent new.history new.fills) + 1 ≡ length (late_intervals now.exponent now.history now.fills)
      less_left same =
          ap (λ (e : ℕ). length (late_intervals e new.history new.fills) + 1) (same ∙ same_exponent)
          ∙ ap (λ (l : List Fill). length (late_intervals now.exponent new.history l) + 1) new_fills
          ∙ ap (λ (h : List Item). length (late_intervals now.exponent h (begun_and_done now.fills i task.base)) + 1) new_history ∙ some_left

      -- one more was filled
      pub filling_next : ((j : Interval) → base_in j now.fills ≡ base_of_filling (fillings_in now.filled) j) → (new.head ≡ begun_store.head) × (new.exponent ≡ begun_store.exponent) × (new.opened ≡ begun_store.opened) × (new.sealed ≡ begun_store.sealed) → IsFilling device old new (filled + 1)
      filling_next bases same = record {
        idle = subst (λ (l : List Fill). (j : Interval) → in_flight j l ≡ None) (sym new_fills) (idle_again now.fills i task.base f.idle);
        history = new_history ∙ f.history;
        count = omega (arith, less_left same.1, f.count);
        records = omega (arith, done.appended.records, same_records, f.records);
        room = λ some. omega (arith, done.appended.records, done.installable.below);
        healed = λ some. sym same_pending ∙ done.installable.healed;
        unfailed = record {
          same_faults = ap faults_in new_fills ∙ faults_begun_and_done now.fills i task.base ∙ f.unfailed.same_faults;
          no_failed_write = done.appended.no_failed_write ∙ begun_unfailed.no_failed_write;
          no_fault = done.appended.no_fault ∙ begun_unfailed.no_fault;
        };
        sets = λ told.
            subst (AddsRightFills old.head old.exponent old.history (fillings_in old.filled)) (sym (done.appended.filled ∙ ap (λ (x : PlacedFills). with_filling (fillings_in x) i (fill_over task.base done.set)) same_filled))
            (one_whole old.head old.exponent old.history (fillings_in old.filled) (fillings_in now.filled) (f.sets told) i task.base done.set (began.base ∙ ap length f.history) may late_now (held told));
        head = same.0 ∙ same_head ∙ f.head;
        exponent = same.1 ∙ same_exponent ∙ f.exponent;
        opened = same.2 ∙ same_opened ∙ f.opened;
        sealed = same.3 ∙ same_sealed ∙ f.sealed;
        unchanged = λ none. absurd (omega (arith, none));
      }
        where
          may : IsFillBase old.exponent i task.base old.history
          may =
              subst (IsFillBase old.exponent i task.base) begun_history
              (subst (λ (e : ℕ). IsFillBase e i task.base begun_store.history) (same_exponent ∙ f.exponent) done.appended.may)

          late_now : is_late_in_archive (filled_archive old.head old.exponent old.history (fillings_in now.filled)) i ≡ true
          late_now =
              ap (λ (h : List Item). is_late_in_archive (filled_archive old.head old.exponent h (fillings_in now.filled)) i) (sym f.history)
              ∙ ap (λ (e : ℕ). is_late_in_archive (filled_archive old.head e now.history (fillings_in now.filled)) i) (sym f.exponent)
              ∙ late_by_fill now.exponent now.history now.fills now.filled i bases late

          held : TellsRows device old → HoldsRows (database_in old.head.mdb old.history) done.set (rows_of_interval old.exponent i old.history)
          held told =
              subst (λ (h : List Item). HoldsRows (database_in old.head.mdb h) done.set (rows_of_interval old.exponent i h)) begun_history
              (subst (λ (e : ℕ). HoldsRows (database_in old.head.mdb begun_store.history) done.set (rows_of_interval e i begun_store.history)) (same_exponent ∙ f.exponent)
              (subst (λ (h : Head). HoldsRows (database_in h.mdb begun_store.history) done.set (rows_of_interval begun_store.exponent i begun_store.history)) (same_head ∙ f.head) (done.holds (told_begun told))))

    -- while a failed write is pending nothing was filled
    was : pending_fault_of old.fills ≢ None → now ≡ old
    was unhealed = f.unchanged (nothing_filled filled (pending_fault_of old.fills ≡ None) f.healed unhealed)

    -- it was refused
    pub given_up : (e : Refusal) → IsTaskRefusal device begun_store new task e → (new.head ≡ begun_store.head) × (new.exponent ≡ begun_store.exponent) × (new.opened ≡ begun_store.opened) × (new.sealed ≡ begun_store.sealed) → IsFilledOn device old new
    given_up e refused same = record {
      rows = refused_history device begun_store new task e refused ∙ begun_history;
      head = same.0 ∙ same_head ∙ f.head;
      exponent = same.1 ∙ same_exponent ∙ f.exponent;
      opened = same.2 ∙ same_opened ∙ f.opened;
      sealed = same.3 ∙ same_sealed ∙ f.sealed;
      records = omega (arith, refused_records device begun_store new task e refused, same_records, f.records);
      sets = λ told. subst (λ (x : PlacedFills). AddsRightFills old.head old.exponent old.history (fillings_in old.filled) (fillings_in x)) (sym (refused_filled device begun_store new task e refused ∙ same_filled)) (f.sets told);
      unchanged = λ none. absurd (omega (arith, f.count, ap length none, some_left));
      no_write = λ unhealed.
          subst (λ (d : D). OnlyReads device d new.disk) (ap (λ (x : StoreView D). x.disk) (was unhealed))
          (subst (OnlyReads device now.disk) (sym (refused_disk device begun_store new task e (λ healed. unhealed (sym same_pending ∙ healed)) refused)) only_read);
      no_call = λ unhealed plain.
          refused_disk device begun_store new task e (λ healed. unhealed (sym same_pending ∙ healed)) refused ∙ not_read (f.sealed ∙ plain)
          ∙ ap (λ (x : StoreView D). x.disk) (was unhealed);
    }

    unfailed_still : IsAbandoned begun_store new i → IsUnfailed device old new
    unfailed_still is = record {
      same_faults = ap (λ (x : StoreView D). faults_in x.fills) is ∙ faults_freed i begun_store.fills ∙ begun_unfailed.same_faults;
      no_failed_write = ap (λ (x : StoreView D). device.failed_writes x.disk) is ∙ begun_unfailed.no_failed_write;
      no_fault = ap (λ (x : StoreView D). device.fault_count x.disk) is ∙ begun_unfailed.no_fault;
    }

    failed_then : (failed : StoreView D) → pending_fault_of begun_store.fills ≡ None → AddsFault device begun_store failed true (additions.Fill i task.base) → IsAbandoned failed new i → IsFillFailed device old new
    failed_then failed healed fault is = record {
      healed = sym same_pending ∙ healed;
      count = fault.count;
      interval = i;
      base = task.base;
      fault =
          ap (λ (x : StoreView D). faults_in x.fills) is ∙ faults_freed i failed.fills ∙ ap faults_in fault.fills
          ∙ faults_in-append begun_store.fills (Fault fault.count true (additions.Fill i task.base) ∷ []) ∙ ap (λ (l : List Fill). l ++ Fault fault.count true (additions.Fill i task.base) ∷ []) begun_unfailed.same_faults;
      wrote = ap (λ (x : StoreView D). device.failed_writes x.disk) is ∙ fault.writes ∙ ap raised begun_unfailed.no_failed_write;
    }

    pub filling_refused : (e : Refusal) → IsTaskRefusal device begun_store new task e → IsFillingRefusal device old new e
    filling_refused OutOfMemory r = unfailed_still r
    filling_refused (NeedsReopen faults) r = (sym same_pending ∙ r.0, unfailed_still r.1)
    filling_refused (Limit which number) r =
        let late_at_first = length (late_intervals old.exponent old.history old.fills) in (
          filling_full old.records late_at_first (omega (arith, f.count, some_left)) (omega (arith, r.2, same_records, f.records, f.count, some_left))
              ∙ ap (λ (n : ℕ). Some (Limit Records n)) (sym r.1) ∙ ap (λ w. Some (Limit w number)) (sym r.0),
          omega (arith, r.2, ap (λ (x : StoreView D). x.records) r.3),
          unfailed_still r.3,
        )
    filling_refused DiskFault r = inl (failed_then r.1.0 r.0 r.1.1 r.1.2)
    filling_refused _ r = absurd r

-- what is left where filling goes no further
pub filled_so_far : {D : Type 0} (device : Device D) (old now : StoreView D) (filled : ℕ) → IsFilling device old now filled → IsFilledOn device old now
filled_so_far {D = D} device old now filled f = record {
  rows = f.history;
  head = f.head;
  exponent = f.exponent;
  opened = f.opened;
  sealed = f.sealed;
  records = omega (arith, f.records);
  sets = f.sets;
  unchanged = λ none. f.unchanged (omega (arith, f.count, ap length none));
  no_write = λ unhealed. subst (λ (x : StoreView D). OnlyReads device old.disk x.disk) (sym (was unhealed)) (looked_none device old.disk);
  no_call = λ unhealed plain. ap (λ (x : StoreView D). x.disk) (was unhealed);
}
  where
    was : pending_fault_of old.fills ≢ None → now ≡ old
    was unhealed = f.unchanged (nothing_filled filled (pending_fault_of old.fills ≡ None) f.healed unhealed)

-- ---- rows of the next interval aren't read

module _ {D : Type 0} (device : Device D) (old now new : StoreView D) (filled : ℕ) (f : IsFilling device old now filled) (interval : Interval) (next : IsNextToFill now.exponent (machine_state now) (Some interval)) where
  one_late : 0 < length (late_intervals now.exponent now.history now.fills)
  one_late = let one = one_less now.exponent now.history now.fills interval (length now.history) refl next.0.late in omega (arith, one)

  at_first : pending_fault_of old.fills ≢ None → now ≡ old
  at_first unhealed = f.unchanged (nothing_filled filled (pending_fault_of old.fills ≡ None) f.healed unhealed)

  -- all is as it was, but for what was read, and its fault
  pub unread_so_far : IsReadOn device now new → IsFilledOn device old new
  unread_so_far on = record {
    rows = ap (λ (s : StoreView D). s.history) on.same ∙ f.history;
    head = ap (λ (s : StoreView D). s.head) on.same ∙ f.head;
    exponent = ap (λ (s : StoreView D). s.exponent) on.same ∙ f.exponent;
    opened = ap (λ (s : StoreView D). s.opened) on.same ∙ f.opened;
    sealed = ap (λ (s : StoreView D). s.sealed) on.same ∙ f.sealed;
    records = omega (arith, ap (λ (s : StoreView D). s.records) on.same, f.records);
    sets = λ told. subst (λ (x : PlacedFills). AddsRightFills old.head old.exponent old.history (fillings_in old.filled) (fillings_in x)) (sym (ap (λ (s : StoreView D). s.filled) on.same)) (f.sets told);
    unchanged = λ none. absurd (omega (arith, f.count, ap length none, one_late));
    no_write = λ unhealed. subst (λ (s : StoreView D). OnlyReads device s.disk new.disk) (at_first unhealed) on.disk;
    no_call = λ unhealed plain. ap (λ (s : StoreView D). s.disk) (on.plain (f.sealed ∙ plain) ∙ at_first unhealed);
  }

  -- no fault came
  read_unfailed : ReadsRows device now new → IsUnfailed device old new
  read_unfailed reads = record {
    same_faults = ap (λ (s : StoreView D). faults_in s.fills) (reads_but_disk device now new reads) ∙ f.unfailed.same_faults;
    no_failed_write = (reads_disk device now new reads).no_write ∙ f.unfailed.no_failed_write;
    no_fault = reads_calm device now new reads ∙ f.unfailed.no_fault;
  }

  some_late : late_intervals old.exponent old.history old.fills ≢ []
  some_late none = omega (arith, f.count, ap length none, one_late)

  of_fault : (fault : RowFault) → IsReadFault device now new fault → IsLeftByRefusal device now new (refusal_of_rows fault) → IsFillingRefusal device old new (refusal_of_rows fault)
  of_fault unread.DiskFault is left = inr (record {
    paged = omega (arith, is.0, f.sealed);
    late = some_late;
    count = is.1.count;
    fault = ap faults_in is.1.fills ∙ faults_in-append now.fills (Fault is.1.count false additions.Nothing ∷ [])
        ∙ ap (λ (l : List Fill). l ++ Fault is.1.count false additions.Nothing ∷ []) f.unfailed.same_faults;
    rose = subst (λ (n : ℕ). raised n ≤ device.fault_count new.disk) f.unfailed.no_fault is.1.rose;
    no_failed_write = is.1.writes ∙ f.unfailed.no_failed_write;
  })
  of_fault (unread.Damaged file at) is left = (
    omega (arith, is.0, f.sealed),
    λ told.
        (let no : ◌≡◌ {A = Bool} true false = subst (λ (t : Bool). IsNone (told_if t (rows_below now.history))) (told_is device now (told_alike device old now f.sealed told)) is.1 in
        cc (no)),
    read_unfailed left,
    some_late,
  )
  of_fault unread.OutOfMemory is left = read_unfailed left

  pub filling_unread : (refusal : Refusal) → IsReadRefusal device now new refusal → IsLeftByRefusal device now new refusal → IsFillingRefusal device old new refusal
  filling_unread refusal (fault, is, of) left = subst (IsFillingRefusal device old new) (sym of) (of_fault fault is (subst (IsLeftByRefusal device now new) of left))
