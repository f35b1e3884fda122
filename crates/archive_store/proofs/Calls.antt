-- What the words on a store's calls say, one fact at a time.
use Rattle.std.proofs.Common.{◌≡◌, ◌≢◌, ◌⊎◌, inl, inr, ⊎_elim, ◌≤◌, ℕ, List, [], true, Option, Some, None, refl, sym, ◌∙◌, ap, subst, arith}
use Rattle.std.specs.Prelude.{IsTrue, Result, Ok, Err, OnOk, IfErr, IsErrAnd}
use Rattle.arch_disk.specs.Image.{Image}
use Rattle.arch_disk.specs.Disk.{Device, HasCause, CountsFailure, raised}
use Rattle.refusals.specs.declared.refusal.Refusal.{Refusal}
use Rattle.refusals.specs.declared.refusal.Refusal.TheVariants.{Usage, Missing, ReadFault, WriteFault, BadPacket, BadSheet, BadSql, NoArchive, Exists, Damaged, DiskFault, NeedsReopen, UnknownParameter, BadRange, UnknownTable, Limit, Mismatch, Late, OutOfMemory}
use Rattle.refusals.specs.declared.refusal.Which.{Which}
use Rattle.arch_types.specs.declared.inserted.Inserted.{Inserted}
use Rattle.arch_types.specs.declared.row.Row.{Row}
use Rattle.arch_types.specs.declared.row_fault.RowFault.{RowFault}
use Rattle.arch_types.specs.declared.row_fault.RowFault.TheVariants as unread
use Rattle.refusals.specs.Refusal.{refusal_of_rows}
use Rattle.history_items.specs.declared.items.Item.{Item}
use Rattle.replay_merge.specs.RowSource.{IsRowFault}
use Rattle.history_items.specs.Items.{after_rows}
use Rattle.history_items.specs.declared.fills.Addition.TheVariants.{Rows}
use Rattle.history_items.specs.Fills.{pending_fault_of}
use Rattle.history_items.specs.Outcomes.{fresh_of}
use Rattle.archive_store.specs.Limits.{IsBelowLimits}
use Rattle.disk_journal.specs.Calls.{IsJournalCreateFailed, CountsNeverFall}
use Rattle.archive_store.specs.Calls.{AreIngested, IsBatchUnread, IsOutsideRefusal, IsIngestFailed, IsIngestRefusal, IsRowsRefusal, IsStoreReopened, IsStoreReopenRefusal, IsStoreOpenRefusal, IsStoreCreateRefusal, IsDecidedByImage}
use Rattle.archive_store.specs.Replays.{memory_state}
use Rattle.archive_images.specs.Stands.{StandsFor}
use Rattle.archive_store.specs.StoreView.{StoreView, AddsFault, archive_of}
use Rattle.archive_store.proofs.Ingesting.{added, few_fresh, fresh_in}
use Rattle.archive_store.specs.Pages.{TellsRows}
use Rattle.archive_store.specs.UnreadRows.{IsReadOn}
use Rattle.archive_store.specs.ReadOn.{read_none}
use Rattle.archive_store.proofs.ReadOn.{left_on, reads_on}
use Rattle.archive_images.proofs.Exact.{stands_once, stands_not_damaged, damaged_once, none_not_damaged, none_not_stands}

-- what holds of the refusal that a `?` hands on
pub passed_on : {T E : Type 0} (r : Result T E) (refusal : E) (P : E → Type 0) → IsErrAnd r (λ e. e ≡ refusal) → P refusal → IfErr r P
passed_on (Ok x) refusal P is p = absurd is
passed_on (Err e) refusal P is p = subst P (sym is) p

-- the count in a NeedsReopen
abbrev pub store_asks_reopen : {T : Type 0} → Result T Refusal → Option ℕ
store_asks_reopen (Err (NeedsReopen faults)) = Some faults
store_asks_reopen _ = None

module _ {D : Type 0} (device : Device D) where
  -- ---- ingests

  -- rows that were not appended are those of a batch
  pub rows_refused : (old new : StoreView D) (rows fresh : List Row) (e : Refusal) → fresh ≡ fresh_of old.history rows → pending_fault_of old.fills ≡ None → fresh_of old.history rows ≢ []
      → IsBelowLimits old.exponent old.records old.history rows → IsRowsRefusal device old new fresh e → IsIngestRefusal device old new rows e
  rows_refused old new rows fresh DiskFault is healed some_new below refusal = inl (record { healed = healed; fresh = fresh; some_new = λ none. some_new (sym is ∙ none); of_batch = fresh_in old.history rows fresh is; few = few_fresh old.history rows fresh is; told = λ _. record { fresh_is = is; below = below }; fault = refusal })
  rows_refused old new rows fresh OutOfMemory is healed some_new below refusal = (healed, inl refusal)
  rows_refused old new rows fresh _ is healed some_new below refusal = absurd refusal

  -- rows in memory of which the batch wasn't classified
  pub batch_unread : (store : StoreView D) (rows : List Row) (before after : List Item) (fault : RowFault) → pending_fault_of store.fills ≡ None → IsRowFault (memory_state before) (memory_state after) fault → IsIngestRefusal device store store rows (refusal_of_rows fault)
  batch_unread store rows before after unread.DiskFault healed is = absurd is.0
  batch_unread store rows before after (unread.Damaged file at) healed is = absurd is.0
  batch_unread store rows before after unread.OutOfMemory healed is = (healed, inl refl)

  -- an ingest is refused by one of four, or since rows aren't read,
  pub ingest_cases : (old new : StoreView D) (rows : List Row) (P : Refusal → Type 0) (e : Refusal) → IsIngestRefusal device old new rows e
      → ((faults : ℕ) → IsIngestRefusal device old new rows (NeedsReopen faults) → P (NeedsReopen faults))
      → ((which : Which) (number : ℕ) → IsIngestRefusal device old new rows (Limit which number) → P (Limit which number))
      → (IsIngestFailed device old new rows → P DiskFault)
      → ((refusal : Refusal) → IsBatchUnread device old new refusal → P refusal)
      → (IsIngestRefusal device old new rows OutOfMemory → P OutOfMemory) → P e
  ingest_cases old new rows P (Damaged file at) is reopen limit fault unread memory = unread (Damaged file at) is
  ingest_cases old new rows P DiskFault (inl failed) reopen limit fault unread memory = fault failed
  ingest_cases old new rows P DiskFault (inr is) reopen limit fault unread memory = unread DiskFault is
  ingest_cases old new rows P (NeedsReopen faults) is reopen limit fault unread memory = reopen faults is
  ingest_cases old new rows P (Limit which number) is reopen limit fault unread memory = limit which number is
  ingest_cases old new rows P OutOfMemory is reopen limit fault unread memory = memory is
  ingest_cases old new rows P _ is reopen limit fault unread memory = absurd is

  -- a fault holds the new rows of the batch, where the store tells its rows,
  pub failed_fault : (old new : StoreView D) (rows : List Row) → TellsRows device old → IsIngestFailed device old new rows → AddsFault device old new true (Rows (fresh_of old.history rows))
  failed_fault old new rows told failed = subst (λ (l : List Row). AddsFault device old new true (Rows l)) (failed.told told).fresh_is failed.fault

  -- as the history does once they came,
  pub ingested_rows : (old new : StoreView D) (rows : List Row) (outcomes : List Inserted) → TellsRows device old → AreIngested device old new rows outcomes → new.history ≡ after_rows old.history rows
  ingested_rows old new rows outcomes told is = is.history ∙ added old.history rows is.fresh (is.told told).fresh_is

  -- and all but where a write failed is as reads leave it
  pub ingest_left : (old new : StoreView D) (rows : List Row) (e : Refusal) → IsIngestRefusal device old new rows e → ((e ≡ DiskFault) × IsIngestFailed device old new rows) ⊎ IsReadOn device old new
  ingest_left old new rows e is =
      ingest_cases old new rows (λ r. ((r ≡ DiskFault) × IsIngestFailed device old new rows) ⊎ IsReadOn device old new) e is
      (λ faults r. inr (subst (IsReadOn device old) (sym r.1) (read_none device old))) (λ which number r. inr (reads_on device old new r.2)) (λ failed. inl (refl, failed))
      (λ refusal r. inr (left_on device old new refusal r.unread r.left)) (λ r. inr (reads_on device old new r.1))

  -- ---- reopens

  -- a reopen is refused only where the disk failed
  pub reopen_failed : (old new : StoreView D) (e : Refusal) → IsStoreReopenRefusal device old new e → e ≡ DiskFault
  reopen_failed old new DiskFault is = refl
  reopen_failed old new _ is = absurd is

  -- it leaves the history, the head, the disk of the opening and the number of records
  pub reopen_same : (old new : StoreView D) (result : Result Unit Refusal) → OnOk result (IsStoreReopened device old new) → IfErr result (IsStoreReopenRefusal device old new)
      → (new.history ≡ old.history) × (new.head ≡ old.head) × (new.opened ≡ old.opened) × (new.records ≡ old.records)
  reopen_same old new (Ok x) ok err =
      (ap (λ (s : StoreView D). s.history) ok.store, ap (λ (s : StoreView D). s.head) ok.store, ap (λ (s : StoreView D). s.opened) ok.store, ap (λ (s : StoreView D). s.records) ok.store)
  reopen_same old new (Err e) ok err =
      let is = (subst (IsStoreReopenRefusal device old new) (reopen_failed old new e err) err).store in
      (ap (λ (s : StoreView D). s.history) is, ap (λ (s : StoreView D). s.head) is, ap (λ (s : StoreView D). s.opened) is, ap (λ (s : StoreView D). s.records) is)

  -- and where it is refused the fill list
  pub reopen_fills : (old new : StoreView D) (e : Refusal) → IsStoreReopenRefusal device old new e → new.fills ≡ old.fills
  reopen_fills old new e is = ap (λ (s : StoreView D). s.fills) (subst (IsStoreReopenRefusal device old new) (reopen_failed old new e is) is).store

  -- where nothing was pending it makes no call of the disk
  pub reopen_no_call : (old new : StoreView D) (result : Result Unit Refusal) → OnOk result (IsStoreReopened device old new) → IfErr result (IsStoreReopenRefusal device old new)
      → pending_fault_of old.fills ≡ None → new.disk ≡ old.disk
  reopen_no_call old new (Ok x) ok err none = ok.no_call none
  reopen_no_call old new (Err e) ok err none = absurd ((subst (IsStoreReopenRefusal device old new) (reopen_failed old new e err) err).unhealed none)

  -- faults and failed writes are counted
  pub reopen_counted : (old new : StoreView D) (result : Result Unit Refusal) → OnOk result (IsStoreReopened device old new) → IfErr result (IsStoreReopenRefusal device old new)
      → CountsNeverFall device old.disk new.disk → CountsFailure device old.disk new.disk result × HasCause device old.disk new.disk result
  reopen_counted old new (Ok x) ok err counts = (ok.no_failed_write, record { later = counts.faults; failed = tt; told = ok.no_fault })
  reopen_counted old new (Err e) ok err counts =
      let failed = subst (IsStoreReopenRefusal device old new) (reopen_failed old new e err) err in
      (failed.wrote, record { later = counts.faults; failed = failed.rose; told = tt })

  -- ---- openings

  -- an opening is refused by one of four
  pub open_cases : (before after : D) (P : Refusal → Type 0) (e : Refusal) → IsStoreOpenRefusal device before after e
      → (IsStoreOpenRefusal device before after NoArchive → P NoArchive)
      → ((file at : ℕ) → IsStoreOpenRefusal device before after (Damaged file at) → P (Damaged file at))
      → (IsStoreOpenRefusal device before after DiskFault → P DiskFault)
      → (IsStoreOpenRefusal device before after OutOfMemory → P OutOfMemory) → P e
  open_cases before after P Usage is none damaged fault memory = absurd is
  open_cases before after P (Missing name) is none damaged fault memory = absurd is
  open_cases before after P ReadFault is none damaged fault memory = absurd is
  open_cases before after P WriteFault is none damaged fault memory = absurd is
  open_cases before after P (BadPacket at kind) is none damaged fault memory = absurd is
  open_cases before after P (BadSheet sheet row rule) is none damaged fault memory = absurd is
  open_cases before after P (BadSql at rule) is none damaged fault memory = absurd is
  open_cases before after P NoArchive is none damaged fault memory = none is
  open_cases before after P Exists is none damaged fault memory = absurd is
  open_cases before after P (Damaged file at) is none damaged fault memory = damaged file at is
  open_cases before after P DiskFault is none damaged fault memory = fault is
  open_cases before after P (NeedsReopen faults) is none damaged fault memory = absurd is
  open_cases before after P UnknownParameter is none damaged fault memory = absurd is
  open_cases before after P (BadRange from to) is none damaged fault memory = absurd is
  open_cases before after P (UnknownTable name) is none damaged fault memory = absurd is
  open_cases before after P (Limit which number) is none damaged fault memory = absurd is
  open_cases before after P (Mismatch interval parameter key stored replayed) is none damaged fault memory = absurd is
  open_cases before after P (Late interval) is none damaged fault memory = absurd is
  open_cases before after P OutOfMemory is none damaged fault memory = memory is

  -- a write failed only at a fault of the disk
  pub open_counted : (before after : D) (e : Refusal) → IsStoreOpenRefusal device before after e
      → (device.failed_writes after ≡ device.failed_writes before) ⊎ ((e ≡ DiskFault) × (device.failed_writes after ≡ raised (device.failed_writes before)))
  open_counted before after e is =
      open_cases before after (λ r. (device.failed_writes after ≡ device.failed_writes before) ⊎ ((r ≡ DiskFault) × (device.failed_writes after ≡ raised (device.failed_writes before)))) e is
      (λ r. inl r.no_failed_write) (λ file at r. inl r.no_failed_write) (λ r. ⊎_elim (λ same. inl same) (λ rose. inr (refl, rose)) r.wrote_most) (λ r. inl r.0)

  -- which was counted
  pub open_cause : (before after : D) (e : Refusal) → IsStoreOpenRefusal device before after e → e ≡ DiskFault → raised (device.fault_count before) ≤ device.fault_count after
  open_cause before after e is fault = (subst (IsStoreOpenRefusal device before after) fault is).rose

  -- the disk decides
  pub decided_refused : (before after : D) (e : Refusal) → IsTrue device.is_transparent → IsStoreOpenRefusal device before after e → IsDecidedByImage (device.reads before) (Err (after, e))
  decided_refused before after e transparent is = let reads = device.reads before in record {
    none = λ none. open_cases before after (λ r. (r ≡ NoArchive) ⊎ IsOutsideRefusal r) e is (λ r. inl refl) (λ file at r. absurd (none_not_damaged reads at none (r.damaged transparent).1)) (λ r. inr (inl refl)) (λ r. inr (inr refl));
    damaged = λ at there. open_cases before after (λ r. (r ≡ Damaged 0 at) ⊎ IsOutsideRefusal r) e is (λ r. absurd (none_not_damaged reads at (r.none transparent) there))
        (λ file other r. inl (ap (λ (f : ℕ). Damaged f other) (r.damaged transparent).0 ∙ ap (λ (n : ℕ). Damaged 0 n) (damaged_once reads other at (r.damaged transparent).1 there))) (λ r. inr (inl refl)) (λ r. inr (inr refl));
    stands = λ x there. open_cases before after IsOutsideRefusal e is (λ r. absurd (none_not_stands reads x (r.none transparent) there)) (λ file other r. absurd (stands_not_damaged reads x other there (r.damaged transparent).1))
        (λ r. inl refl) (λ r. inr refl);
  }

  pub decided_opened : (image : Image) (store : StoreView D) → StandsFor image (archive_of store) → IsDecidedByImage image (Ok store)
  decided_opened image store stands = record {
    none = λ none. absurd (none_not_stands image (archive_of store) none stands);
    damaged = λ at there. absurd (stands_not_damaged image (archive_of store) at stands there);
    stands = λ x there. stands_once image (archive_of store) x stands there;
  }

  -- ---- creations

  -- a creation is refused by one of three
  pub create_cases : (before after : D) (P : Refusal → Type 0) (e : Refusal) → IsStoreCreateRefusal device before after e
      → (IsStoreCreateRefusal device before after Exists → P Exists) → (IsStoreCreateRefusal device before after DiskFault → P DiskFault) → (IsStoreCreateRefusal device before after OutOfMemory → P OutOfMemory) → P e
  create_cases before after P Usage is exists fault memory = absurd is
  create_cases before after P (Missing name) is exists fault memory = absurd is
  create_cases before after P ReadFault is exists fault memory = absurd is
  create_cases before after P WriteFault is exists fault memory = absurd is
  create_cases before after P (BadPacket at kind) is exists fault memory = absurd is
  create_cases before after P (BadSheet sheet row rule) is exists fault memory = absurd is
  create_cases before after P (BadSql at rule) is exists fault memory = absurd is
  create_cases before after P NoArchive is exists fault memory = absurd is
  create_cases before after P Exists is exists fault memory = exists is
  create_cases before after P (Damaged file at) is exists fault memory = absurd is
  create_cases before after P DiskFault is exists fault memory = fault is
  create_cases before after P (NeedsReopen faults) is exists fault memory = absurd is
  create_cases before after P UnknownParameter is exists fault memory = absurd is
  create_cases before after P (BadRange from to) is exists fault memory = absurd is
  create_cases before after P (UnknownTable name) is exists fault memory = absurd is
  create_cases before after P (Limit which number) is exists fault memory = absurd is
  create_cases before after P (Mismatch interval parameter key stored replayed) is exists fault memory = absurd is
  create_cases before after P (Late interval) is exists fault memory = absurd is
  create_cases before after P OutOfMemory is exists fault memory = memory is

  -- want of memory leaves the very disk
  pub create_memory : (before after : D) (e : Refusal) → IsStoreCreateRefusal device before after e → e ≡ OutOfMemory → after ≡ before
  create_memory before after e is memory = subst (IsStoreCreateRefusal device before after) memory is

  -- what a fault of the disk leaves: it was counted, and after one alone a crash leaves no archive, or what it could have left before
  pub create_failed : (before after : D) (e : Refusal) → IsStoreCreateRefusal device before after e → e ≡ DiskFault → IsJournalCreateFailed device 0 before after
  create_failed before after e is fault = subst (IsStoreCreateRefusal device before after) fault is

  -- a write failed only then, and two at most
  pub store_create_counted : (before after : D) (e : Refusal) → IsStoreCreateRefusal device before after e → device.failed_writes after ≢ device.failed_writes before → e ≡ DiskFault
  store_create_counted before after e is differs = create_cases before after (λ r. r ≡ DiskFault) e is (λ r. absurd (differs r.no_failed_write)) (λ r. refl) (λ r. absurd (differs (ap device.failed_writes r)))

  pub store_create_most : (before after : D) (e : Refusal) → IsStoreCreateRefusal device before after e → device.failed_writes after ≤ raised (raised (device.failed_writes before))
  store_create_most before after e is =
      create_cases before after (λ _. device.failed_writes after ≤ raised (raised (device.failed_writes before))) e is (λ r. omega (arith, r.no_failed_write)) (λ r. r.wrote_most) (λ r. omega (arith, ap device.failed_writes r))
