-- Each call of a store goes on from what there was.
use Rattle.std.proofs.Common.{◌≡◌, ◌≢◌, ◌⊎◌, inl, inr, ⊎_elim, ℕ, suc, ◌+◌, ◌<◌, ◌≤◌, Bool, true, false, List, [], ◌∷◌, ◌++◌, length, fold, IsTrue, Option, Some, None, Result, Ok, Err, IfErr, MatchResult, if◌then◌else◌, refl, sym, ap, ◌∙◌, subst, arith, append_assoc, append-nil, length-append, le_refl}
use Rattle.std.specs.List.{AllByRecursion, filter_map}
use Rattle.std.specs.Option.{is_some, option_or}
use Rattle.std.specs.Prelude.{slice_get}
use Rattle.std.proofs.lemmas.List.Elements.{filter_map-append}
use mathlib.Core.List.{IsPrefix}
use Rattle.arch_disk.specs.Disk.{Device, LeavesOnly, raised}
use Rattle.intervals.specs.declared.interval.Interval.{Interval}
use Rattle.arch_types.specs.declared.inserted.Inserted.{Inserted}
use Rattle.arch_types.specs.declared.inserted.Installed.{Installed}
use Rattle.arch_types.specs.declared.inserted.Installed.TheVariants as became
use Rattle.refusals.specs.declared.refusal.Refusal.{Refusal}
use Rattle.refusals.specs.declared.refusal.Refusal.TheVariants as refused
use Rattle.arch_types.specs.declared.row.Row.{Row}
use Rattle.arch_types.specs.declared.row_fault.RowFault.{RowFault}
use Rattle.arch_types.specs.declared.row_fault.RowFault.TheVariants as unread
use Rattle.refusals.specs.Refusal.{refusal_of_rows}
use Rattle.history_items.specs.declared.fills.Addition.{Addition}
use Rattle.history_items.specs.declared.fills.Addition.TheVariants as additions
use Rattle.history_items.specs.declared.fills.Fill.{Fill}
use Rattle.history_items.specs.declared.fills.Addition.TheVariants.{Nothing}
use Rattle.history_items.specs.declared.fills.Fill.TheVariants.{Begun, Done, Freed, Fault, Closed}
use Rattle.mdb_items.specs.Database.{Database}
use Rattle.history_items.specs.declared.items.Item.{Item}
use Rattle.history_items.specs.Items.{databases_in, items_of}
use Rattle.history_items.specs.Databases.{database_in, names_in}
use Rattle.history_items.specs.Fills.{in_flight, is_same, pending_fault_of}
use Rattle.history_items.specs.FillList.{flights_of}
use Rattle.history_items.proofs.ItemLists.{databases_in-append, no_databases}
use Rattle.history_items.proofs.Databases.{rows_keep_database, rows_keep_names}
use Rattle.history_items.proofs.Outcomes.{fresh_new}
use Rattle.interval_fills.specs.Steps.{freed, all_freed}
use Rattle.interval_fills.proofs.Steps.{same_interval}
use Rattle.param_segments.specs.Rows.{SetRow}
use Rattle.store_fills.specs.declared.task.FillTask.{FillTask}
use Rattle.store_fills.specs.Built.{BuiltFill}
use Rattle.store_fills.specs.Filled.{IsRightFill}
use Rattle.store_fills.specs.LastFills.{fillings_in, fill_over}
use Rattle.store_fills.specs.Sound.{Fillings}
use Rattle.store_fills.proofs.RightFills.{right_fill_stays}
use Rattle.archive_store.specs.Head.{Head}
use Rattle.archive_store.specs.Pages.{TellsRows}
use Rattle.archive_store.specs.UnreadRows.{IsFaultOfRead, IsLeftByRead, IsLeftByRefusal, IsReadFault, IsReadRefusal, ReadsPages, ReadsRows}
use Rattle.archive_store.proofs.Calls.{failed_fault, ingest_cases, ingested_rows}
use Rattle.archive_store.specs.StoreView.{StoreView, OnlyAppends, AddsFault, filled_of}
use Rattle.archive_store.specs.Stands.{StandsFilled}
use Rattle.archive_store.specs.Calls.{AreIngested, CrashLeavesEither, IsIngestRefusal, archive_with}
use Rattle.archive_store.specs.Installs.{IsStoreInstalled, IsInstallRefusal, IsAbandoned, IsRightFor, FillIsAppended, filled_with}
use Rattle.archive_store.specs.Tasks.{IsFillBegun}
use Rattle.store_fills.specs.Faults.{faults_in}
use Rattle.store_fills.proofs.Faults.{faults_in-append, pending_fault_of-in}
use Rattle.history_items.proofs.FillLists.{pending_fault_of-append}
use Rattle.live_archive.proofs.Places.{at_behind, at_later}
use Rattle.live_archive.proofs.Images.{batch_came, batch_failed, fill_tried, looked, same_pending, without_disk}
use Rattle.live_archive.specs.Images.{LeavesBetween}
use Rattle.live_archive.specs.Shelving.{with_closing}
use Rattle.live_archive.specs.GoesOn.{AreNewTo, GoesOn, HasFillOrNew, HasNewFill, NoneFailed, OneFailed, SameDatabase, done_of_fill, dones}

prefix_self : {A : Type 0} (xs : List A) → IsPrefix xs xs
prefix_self xs = ([], append-nil xs)

pub prefix_trans : {A : Type 0} (xs ys zs : List A) → IsPrefix xs ys → IsPrefix ys zs → IsPrefix xs zs
prefix_trans xs ys zs p q = (p.0 ++ q.0, sym (append_assoc xs p.0 q.0) ∙ (ap (λ w. w ++ q.0) p.1 ∙ q.1))

pub prefix_length : {A : Type 0} (xs ys : List A) → IsPrefix xs ys → length xs ≤ length ys
prefix_length xs ys p = omega (arith, sym (ap length p.1) ∙ length-append xs p.0)

pub dones-append : (fills more : List Fill) → dones (fills ++ more) ≡ dones fills + dones more
dones-append fills more =
    ap length (filter_map-append done_of_fill fills more) ∙ length-append (filter_map done_of_fill fills) (filter_map done_of_fill more)

-- a failed write is pending behind whatever came before it
still_pending : (fills : List Fill) (count : ℕ) (addition : Addition) (behind : List Fill) → pending_fault_of (fills ++ Fault count true addition ∷ behind) ≡ None → ⊥
still_pending fills count addition behind none = go (pending_fault_of fills) (sym (pending_fault_of-append fills (Fault count true addition ∷ behind)) ∙ none)
  where
    go : (o : Option ℕ) → option_or o (Some count) ≡ None → ⊥
    go None e = absurd (cc e)
    go (Some n) e = absurd (cc e)

-- what is healed was so before
healed_before : (fills more : List Fill) → pending_fault_of (fills ++ more) ≡ None → pending_fault_of fills ≡ None
healed_before fills more none = go (pending_fault_of fills) (sym (pending_fault_of-append fills more) ∙ none)
  where
    go : (o : Option ℕ) → option_or o (pending_fault_of more) ≡ None → o ≡ None
    go None e = refl
    go (Some n) e = absurd (cc e)

-- what was pending is, whatever comes behind it
pending_later : (fills more : List Fill) → pending_fault_of fills ≢ None → pending_fault_of (fills ++ more) ≢ None
pending_later fills more pending none = go (pending_fault_of fills) pending (sym (pending_fault_of-append fills more) ∙ none)
  where
    go : (o : Option ℕ) → o ≢ None → option_or o (pending_fault_of more) ≡ None → ⊥
    go None pending e = absurd (pending refl)
    go (Some n) pending e = absurd (cc e)

-- what a flight's end adds
freed_is : (i : Interval) (fills : List Fill) → (dones (freed i fills) ≡ dones fills) × (faults_in (freed i fills) ≡ faults_in fills) × IsPrefix fills (freed i fills)
freed_is i fills = by_flight (is_some (in_flight i fills))
  where
    by_flight : (b : Bool) → (dones (if b then fills ++ Freed i ∷ [] else fills) ≡ dones fills) × (faults_in (if b then fills ++ Freed i ∷ [] else fills) ≡ faults_in fills) × IsPrefix fills (if b then fills ++ Freed i ∷ [] else fills)
    by_flight true = (let h = dones-append fills (Freed i ∷ []) in omega (arith, h), faults_in-append fills (Freed i ∷ []) ∙ append-nil (faults_in fills), (Freed i ∷ [], refl))
    by_flight false = (refl, refl, prefix_self fills)

pub all_freed_is : (flights : List Interval) (fills : List Fill) → (dones (fold (λ ended i. freed i ended) fills flights) ≡ dones fills) × (faults_in (fold (λ ended i. freed i ended) fills flights) ≡ faults_in fills)
    × IsPrefix fills (fold (λ ended i. freed i ended) fills flights)
all_freed_is [] fills = (refl, refl, prefix_self fills)
all_freed_is (i ∷ flights) fills = let a = freed_is i fills in let b = all_freed_is flights (freed i fills) in (b.0 ∙ a.0, b.1 ∙ a.1, prefix_trans fills (freed i fills) _ a.2 b.2)

-- ---- faults of reads

each_both : (a b : List Fill) → AllByRecursion IsFaultOfRead a → AllByRecursion IsFaultOfRead b → AllByRecursion IsFaultOfRead (a ++ b)
each_both [] b x y = y
each_both (item ∷ a) b x y = (x.0, each_both a b x.1 y)

-- they are no fills that are there
dones_of_reads : (reads : List Fill) → AllByRecursion IsFaultOfRead reads → dones reads ≡ 0
dones_of_reads [] each = refl
dones_of_reads (item ∷ reads) each = subst (λ (f : Fill). dones (f ∷ reads) ≡ 0) (sym each.0.1) (dones_of_reads reads each.1)

-- and are all faults
faults_of_reads : (reads : List Fill) → AllByRecursion IsFaultOfRead reads → faults_in reads ≡ reads
faults_of_reads [] each = refl
faults_of_reads (item ∷ reads) each =
    subst (λ (f : Fill). faults_in (f ∷ reads) ≡ f ∷ reads) (sym each.0.1) (ap (λ (l : List Fill). Fault each.0.0 false Nothing ∷ l) (faults_of_reads reads each.1))

both_none : (a b : List Fill) → a ≡ [] → b ≡ [] → a ++ b ≡ []
both_none a b first second = ap (λ (l : List Fill). l ++ b) first ∙ second

first_none : (a b : List Fill) → a ++ b ≡ [] → a ≡ []
first_none [] b none = refl
first_none (item ∷ a) b none = absurd (cc none)

then_none : (a b : List Fill) → a ++ b ≡ [] → b ≡ []
then_none [] b none = none
then_none (item ∷ a) b none = absurd (cc none)

-- what was told is told by a store of which as many rows stand in runs
pub told_on : {D : Type 0} (device : Device D) (a b : StoreView D) → b.sealed ≡ a.sealed → TellsRows device a → TellsRows device b
told_on device a b same told paged = told (subst (λ (n : ℕ). 0 < n) same paged)

-- ---- databases

-- rows bring no database
rows_same : {D : Type 0} (a b : StoreView D) (rows : List Row) → b.head ≡ a.head → b.history ≡ a.history ++ items_of rows → SameDatabase a b
rows_same a b rows head history = record {
  alone = ap databases_in history ∙ databases_in-append a.history (items_of rows) ∙ ap (λ (l : List Database). databases_in a.history ++ l) (no_databases rows) ∙ append-nil (databases_in a.history);
  in_force = ap (λ (h : Head). database_in h.mdb b.history) head ∙ ap (database_in a.head.mdb) history ∙ rows_keep_database a.head.mdb a.history rows;
  names = ap (λ (h : Head). names_in h.mdb b.history) head ∙ ap (names_in a.head.mdb) history ∙ rows_keep_names a.head.mdb a.history rows;
}

-- nor does what leaves a history as it was
history_same : {D : Type 0} (a b : StoreView D) → b.head ≡ a.head → b.history ≡ a.history → SameDatabase a b
history_same a b head history = rows_same a b [] head (history ∙ sym (append-nil a.history))

module _ {D : Type 0} (device : Device D) where
  -- ---- faults

  -- no read failed
  none_read : (a b : StoreView D) → faults_in b.fills ≡ faults_in a.fills ++ [] → device.failed_writes b.disk ≡ device.failed_writes a.disk → device.fault_count b.disk ≡ device.fault_count a.disk → NoneFailed device a b
  none_read a b faults writes none = record {
    reads = [];
    each = tt;
    faults = faults;
    no_failed_write = writes;
    no_fault = λ _. none;
    rose = λ some. absurd (some refl);
    plain = λ _. refl;
  }

  -- the disk's count never falls
  count_later : (a b : StoreView D) → NoneFailed device a b → device.fault_count a.disk ≤ device.fault_count b.disk
  count_later a b x = go x.reads x.no_fault x.rose
    where
      go : (reads : List Fill) → (reads ≡ [] → device.fault_count b.disk ≡ device.fault_count a.disk) → (reads ≢ [] → raised (device.fault_count a.disk) ≤ device.fault_count b.disk) → device.fault_count a.disk ≤ device.fault_count b.disk
      go [] same rose = let e = same refl in omega (arith, e)
      go (item ∷ reads) same rose = let more = rose (λ none. cc none) in omega (arith, more)

  -- one write failed at most, whatever reads failed
  none_none : (a b c : StoreView D) → b.sealed ≡ a.sealed → NoneFailed device a b → NoneFailed device b c → NoneFailed device a c
  none_none a b c sealed x y = record {
    reads = x.reads ++ y.reads;
    each = each_both x.reads y.reads x.each y.each;
    faults = y.faults ∙ (ap (λ (l : List Fill). l ++ y.reads) x.faults ∙ append_assoc (faults_in a.fills) x.reads y.reads);
    no_failed_write = y.no_failed_write ∙ x.no_failed_write;
    no_fault = λ none. y.no_fault (then_none x.reads y.reads none) ∙ x.no_fault (first_none x.reads y.reads none);
    rose = go x.reads x.no_fault x.rose;
    plain = λ none. both_none x.reads y.reads (x.plain none) (y.plain (sealed ∙ none));
  }
    where
      go : (reads : List Fill) → (reads ≡ [] → device.fault_count b.disk ≡ device.fault_count a.disk) → (reads ≢ [] → raised (device.fault_count a.disk) ≤ device.fault_count b.disk)
          → reads ++ y.reads ≢ [] → raised (device.fault_count a.disk) ≤ device.fault_count c.disk
      go [] same rose some = subst (λ (n : ℕ). raised n ≤ device.fault_count c.disk) (same refl) (y.rose some)
      go (item ∷ reads) same rose some = let first = rose (λ none. cc none) in let later = count_later b c y in omega (arith, first, later)

  none_one : (a b c : StoreView D) → b.sealed ≡ a.sealed → NoneFailed device a b → OneFailed device b c → OneFailed device a c
  none_one a b c sealed x y = record {
    healed = pending_fault_of-in a.fills ∙ healed_before (faults_in a.fills) x.reads (ap pending_fault_of (sym x.faults) ∙ (sym (pending_fault_of-in b.fills) ∙ y.healed));
    count = y.count;
    addition = y.addition;
    new_to = λ told. y.new_to (told_on device a b sealed told);
    before = x.reads ++ y.before;
    behind = y.behind;
    each = subst (AllByRecursion IsFaultOfRead) (sym (append_assoc x.reads y.before y.behind)) (each_both x.reads (y.before ++ y.behind) x.each y.each);
    faults = y.faults ∙ (ap (λ (l : List Fill). l ++ (y.before ++ Fault y.count true y.addition ∷ y.behind)) x.faults
        ∙ (append_assoc (faults_in a.fills) x.reads (y.before ++ Fault y.count true y.addition ∷ y.behind)
        ∙ ap (λ (l : List Fill). faults_in a.fills ++ l) (sym (append_assoc x.reads y.before (Fault y.count true y.addition ∷ y.behind)))));
    wrote = y.wrote ∙ ap raised x.no_failed_write;
    rose = let later = count_later a b x in let rose = y.rose in omega (arith, later, rose);
    plain = λ none. let rest = y.plain (sealed ∙ none) in (both_none x.reads y.before (x.plain none) rest.0, rest.1);
  }

  one_none : (a b c : StoreView D) → b.sealed ≡ a.sealed → (TellsRows device a → c.history ≡ b.history) → OneFailed device a b → NoneFailed device b c → OneFailed device a c
  one_none a b c sealed history x y = record {
    healed = x.healed;
    count = x.count;
    addition = x.addition;
    new_to = λ told. subst (λ (l : List Item). AreNewTo l x.addition) (sym (history told)) (x.new_to told);
    before = x.before;
    behind = x.behind ++ y.reads;
    each = subst (AllByRecursion IsFaultOfRead) (append_assoc x.before x.behind y.reads) (each_both (x.before ++ x.behind) y.reads x.each y.each);
    faults = y.faults ∙ (ap (λ (l : List Fill). l ++ y.reads) x.faults
        ∙ (append_assoc (faults_in a.fills) (x.before ++ Fault x.count true x.addition ∷ x.behind) y.reads
        ∙ ap (λ (l : List Fill). faults_in a.fills ++ l) (append_assoc x.before (Fault x.count true x.addition ∷ x.behind) y.reads)));
    wrote = y.no_failed_write ∙ x.wrote;
    rose = let later = count_later b c y in let rose = x.rose in omega (arith, later, rose);
    plain = λ none. let first = x.plain none in (first.0, both_none x.behind y.reads first.1 (y.plain (sealed ∙ none)));
  }

  -- a failed write is pending from then on
  one_pending : (a b : StoreView D) → OneFailed device a b → pending_fault_of b.fills ≡ None → ⊥
  one_pending a b x none =
      still_pending (faults_in a.fills ++ x.before) x.count x.addition x.behind
      (ap pending_fault_of (append_assoc (faults_in a.fills) x.before (Fault x.count true x.addition ∷ x.behind) ∙ sym x.faults) ∙ (sym (pending_fault_of-in b.fills) ∙ none))

  -- nothing happened
  pub goes_same : (a b : StoreView D) → b ≡ a → GoesOn device a b
  goes_same a b is = subst (GoesOn device a) (sym is) (record {
    appends = record { history = prefix_self a.history; fills = prefix_self a.fills; head = refl; exponent = refl; opened = refl; sealed = refl };
    database = record { alone = refl; in_force = refl; names = refl };
    records = le_refl _;
    recorded = le_refl _;
    faults = inl (none_read a a (sym (append-nil (faults_in a.fills))) refl refl);
    stops = λ _. refl;
    sets = λ _ i. inl refl;
    images = λ _ start since. since;
  })

  pub goes_start : (a : StoreView D) → GoesOn device a a
  goes_start a = goes_same a a refl

  pub goes_trans : (a b c : StoreView D) → GoesOn device a b → GoesOn device b c → GoesOn device a c
  goes_trans a b c p q = record {
    appends = record {
      history = prefix_trans a.history b.history c.history p.appends.history q.appends.history;
      fills = prefix_trans a.fills b.fills c.fills p.appends.fills q.appends.fills;
      head = q.appends.head ∙ p.appends.head;
      exponent = q.appends.exponent ∙ p.appends.exponent;
      opened = q.appends.opened ∙ p.appends.opened;
      sealed = q.appends.sealed ∙ p.appends.sealed;
    };
    database = record { alone = q.database.alone ∙ p.database.alone; in_force = q.database.in_force ∙ p.database.in_force; names = q.database.names ∙ p.database.names };
    records = let x = p.records in let y = q.records in omega (arith, x, y);
    recorded = let x = p.recorded in let y = q.recorded in omega (arith, x, y);
    faults = ⊎_elim
        (λ (x : NoneFailed device a b). ⊎_elim
        (λ (y : NoneFailed device b c). inl (none_none a b c p.appends.sealed x y))
        (λ (y : OneFailed device b c). inr (none_one a b c p.appends.sealed x y))
        q.faults)
        (λ (x : OneFailed device a b). ⊎_elim
        (λ (y : NoneFailed device b c). inr (one_none a b c p.appends.sealed (λ _. q.stops (one_pending a b x)) x y))
        (λ (y : OneFailed device b c). absurd (one_pending a b x y.healed))
        q.faults)
        p.faults;
    stops = λ pending. q.stops (subst (λ (l : List Fill). pending_fault_of l ≢ None) p.appends.fills.1 (pending_later a.fills p.appends.fills.0 pending)) ∙ p.stops pending;
    sets = λ clear i. ⊎_elim
        (λ (same : fillings_in c.filled i ≡ fillings_in b.filled i). ⊎_elim
        (λ (was : fillings_in b.filled i ≡ fillings_in a.filled i). inl (same ∙ was))
        (λ (f : HasNewFill a b i). inr (record {
          fill = f.fill;
          has = same ∙ f.has;
          place = f.place;
          since = f.since;
          there = at_later b.fills c.fills f.place (Done i f.fill.base) q.appends.fills f.there;
          right = subst (λ (l : List Item). IsRightFill a.exponent a.head.mdb l i f.fill.base f.fill.set) q.appends.history.1
              (right_fill_stays a.exponent a.head.mdb b.history q.appends.history.0 i f.fill.base f.fill.set f.right);
        }))
        (p.sets clear i))
        (λ (f : HasNewFill b c i). inr (record {
          fill = f.fill;
          has = f.has;
          place = f.place;
          since = let long = prefix_length a.fills b.fills p.appends.fills in let s = f.since in omega (arith, long, s);
          there = f.there;
          right = subst (λ (e : ℕ). IsRightFill e a.head.mdb c.history i f.fill.base f.fill.set) p.appends.exponent
              (subst (λ (h : Head). IsRightFill b.exponent h.mdb c.history i f.fill.base f.fill.set) p.appends.head f.right);
        }))
        (q.sets clear i);
    images = λ clear start since. q.images clear start (p.images clear start since);
  }

  -- what a crash leaves of the call of a batch, and of a fill
  abbrev LeavesBatch : StoreView D → StoreView D → List Row → Type 0
  LeavesBatch a b rows = pending_fault_of a.fills ≡ None → CrashLeavesEither device a.disk b.disk (filled_of a) (archive_with a rows)

  abbrev LeavesFill : StoreView D → StoreView D → BuiltFill → Type 0
  LeavesFill a b done = pending_fault_of a.fills ≡ None → CrashLeavesEither device a.disk b.disk (filled_of a) (filled_with a done)

  abbrev KeepsImages : StoreView D → StoreView D → Type 0
  KeepsImages a b = IsTrue device.is_transparent → (start : StoreView D) → LeavesBetween device start a → LeavesBetween device start b

  -- ---- reads

  -- pages were read, and these reads failed
  goes_pages : (a b : StoreView D) (reads : List Fill) → AllByRecursion IsFaultOfRead reads → ReadsPages device a b → b.fills ≡ a.fills ++ reads
      → (reads ≡ [] → device.fault_count b.disk ≡ device.fault_count a.disk) → (reads ≢ [] → raised (device.fault_count a.disk) ≤ device.fault_count b.disk) → GoesOn device a b
  goes_pages a b reads each pages fills none rose = record {
    appends = grew;
    database = history_same a b grew.head history;
    records = let h = ap length history in let r = records in let d = done in omega (arith, h, r, d);
    recorded = let r = records in let d = done in omega (arith, r, d);
    faults = inl (record { reads = reads; each = each; faults = noted; no_failed_write = pages.disk.no_write; no_fault = none; rose = rose; plain = λ plain. absurd (omega (arith, pages.paged, plain)) });
    stops = λ _. history;
    sets = λ _ j. inl (ap (λ (s : StoreView D). fillings_in s.filled j) pages.same);
    images = λ clear start since. looked device start a b since grew (same_pending device start a b since grew reads each noted history) pages.disk;
  }
    where
      history : b.history ≡ a.history
      history = ap (λ (s : StoreView D). s.history) pages.same

      records : b.records ≡ a.records
      records = ap (λ (s : StoreView D). s.records) pages.same

      done : dones b.fills ≡ dones a.fills
      done = let d = ap dones fills ∙ dones-append a.fills reads in let r = dones_of_reads reads each in omega (arith, d, r)

      noted : faults_in b.fills ≡ faults_in a.fills ++ reads
      noted = ap faults_in fills ∙ (faults_in-append a.fills reads ∙ ap (λ (l : List Fill). faults_in a.fills ++ l) (faults_of_reads reads each))

      grew : OnlyAppends a b
      grew = record {
        history = ([], append-nil a.history ∙ sym history);
        fills = (reads, sym fills);
        head = ap (λ (s : StoreView D). s.head) pages.same;
        exponent = ap (λ (s : StoreView D). s.exponent) pages.same;
        opened = ap (λ (s : StoreView D). s.opened) pages.same;
        sealed = ap (λ (s : StoreView D). s.sealed) pages.same;
      }

  -- rows were read
  pub goes_reads : (a b : StoreView D) → ReadsRows device a b → GoesOn device a b
  goes_reads a b (inl same) = goes_same a b same
  goes_reads a b (inr (pages, fills, none)) = goes_pages a b [] tt pages (fills ∙ sym (append-nil a.fills)) (λ _. none) (λ some. absurd (some refl))

  goes_unread_for : (a b : StoreView D) (fault : RowFault) → IsReadFault device a b fault → IsLeftByRefusal device a b (refusal_of_rows fault) → GoesOn device a b
  goes_unread_for a b unread.DiskFault is left =
      goes_pages a b (Fault is.1.count false Nothing ∷ []) ((is.1.count, refl), tt) left is.1.fills (λ none. absurd (cc none)) (λ _. is.1.rose)
  goes_unread_for a b (unread.Damaged file at) is left = goes_reads a b left
  goes_unread_for a b unread.OutOfMemory is left = goes_reads a b left

  -- or weren't
  pub goes_unread : (a b : StoreView D) (e : Refusal) → IsReadRefusal device a b e → IsLeftByRefusal device a b e → GoesOn device a b
  goes_unread a b e (fault, is, of) left = goes_unread_for a b fault is (subst (IsLeftByRefusal device a b) of left)

  pub goes_read : {X : Type 0} (a b : StoreView D) (r : Result X RowFault) → IfErr r (IsReadFault device a b) → IsLeftByRead device a b r → GoesOn device a b
  goes_read a b (Ok x) why left = goes_reads a b left
  goes_read a b (Err fault) why left = goes_unread_for a b fault why left

  -- ---- calls

  -- rows came
  pub goes_rows : (a b : StoreView D) (rows : List Row) (outcomes : List Inserted) → OnlyAppends a b → LeavesBatch a b rows → AreIngested device a b rows outcomes → GoesOn device a b
  goes_rows a b rows outcomes appends crash i = by_fresh i.fresh refl
    where
      by_fresh : (fresh : List Row) → i.fresh ≡ fresh → GoesOn device a b
      by_fresh [] none = goes_reads a b (i.no_write none)
      by_fresh (row ∷ more) some =
          let count = i.one_record (λ none. absurd (cc (some, none))) in
          let grown : length b.history ≡ length a.history + suc (length (items_of more)) = ap length (i.history ∙ ap (λ (l : List Row). a.history ++ items_of l) some) ∙ length-append a.history (items_of (row ∷ more)) in
          record {
            appends = appends;
            database = rows_same a b i.fresh appends.head i.history;
            records = let f = ap dones i.fills in omega (arith, count, grown, f);
            recorded = let f = ap dones i.fills in omega (arith, count, f);
            faults = inl (none_read a b (ap faults_in i.fills ∙ sym (append-nil (faults_in a.fills))) i.no_failed_write i.no_fault);
            stops = λ pending. absurd (pending i.healed);
            sets = λ _ j. inl (ap (λ f. fillings_in f j) i.filled);
            images = λ clear start since. batch_came device start a b since appends rows i.healed (ingested_rows device a b rows outcomes (λ _. clear) i) (crash i.healed clear);
          }

  -- a write failed
  pub goes_fault : (a b : StoreView D) (addition : Addition) → pending_fault_of a.fills ≡ None → AddsFault device a b true addition → b.head ≡ a.head → b.exponent ≡ a.exponent → b.opened ≡ a.opened → b.sealed ≡ a.sealed → (TellsRows device a → AreNewTo a.history addition) → KeepsImages a b → GoesOn device a b
  goes_fault a b addition healed f head exponent opened sealed new_to images = record {
    appends = record { history = ([], append-nil a.history ∙ sym f.history); fills = (Fault f.count true addition ∷ [], sym f.fills); head = head; exponent = exponent; opened = opened; sealed = sealed };
    database = history_same a b head f.history;
    records = let h = ap length f.history in let r = f.records in let d = ap dones f.fills ∙ dones-append a.fills (Fault f.count true addition ∷ []) in omega (arith, h, r, d);
    recorded = let r = f.records in let d = ap dones f.fills ∙ dones-append a.fills (Fault f.count true addition ∷ []) in omega (arith, r, d);
    faults = inr (record {
      healed = healed;
      count = f.count;
      addition = addition;
      new_to = λ told. subst (λ (l : List Item). AreNewTo l addition) (sym f.history) (new_to told);
      before = [];
      behind = [];
      each = tt;
      faults = ap faults_in f.fills ∙ faults_in-append a.fills (Fault f.count true addition ∷ []);
      wrote = f.writes;
      rose = f.rose;
      plain = λ _. (refl, refl);
    });
    stops = λ _. f.history;
    sets = λ _ j. inl (ap (λ g. fillings_in g j) f.filled);
    images = images;
  }

  pub goes_ingest_refused : (a b : StoreView D) (rows : List Row) (e : Refusal) → OnlyAppends a b → LeavesBatch a b rows → IsIngestRefusal device a b rows e → GoesOn device a b
  goes_ingest_refused a b rows e g crash i =
      ingest_cases device a b rows (λ _. GoesOn device a b) e i (λ n r. goes_same a b r.1) (λ w n r. goes_reads a b r.2)
      (λ failed. goes_fault a b (additions.Rows failed.fresh) failed.healed failed.fault g.head g.exponent g.opened g.sealed
      (λ told. subst (λ (l : List Row). AreNewTo a.history (additions.Rows l)) (sym (failed.told told).fresh_is) (fresh_new a.history rows))
      (λ clear start since. batch_failed device start a b since g rows failed.healed (failed_fault device a b rows (λ _. clear) failed) (crash failed.healed clear)))
      (λ refusal r. goes_unread a b refusal r.unread r.left) (λ r. goes_reads a b r.1)

  pub goes_ingest : {X : Type 0} (a b : StoreView D) (rows : List Row) (r : Result X Refusal) (outcomes : X → List Inserted) → OnlyAppends a b → LeavesBatch a b rows → MatchResult r (λ x. AreIngested device a b rows (outcomes x)) (IsIngestRefusal device a b rows) → GoesOn device a b
  goes_ingest a b rows (Ok x) outcomes g crash i = goes_rows a b rows (outcomes x) g crash i
  goes_ingest a b rows (Err e) outcomes g crash i = goes_ingest_refused a b rows e g crash i

  -- a fill list with more items of which none is there and none a fault
  goes_noted : (a : StoreView D) (fills : List Fill) → (dones fills ≡ dones a.fills) × (faults_in fills ≡ faults_in a.fills) × IsPrefix a.fills fills → GoesOn device a (record a { fills = fills })
  goes_noted a fills k = record {
    appends = grew;
    database = record { alone = refl; in_force = refl; names = refl };
    records = let d = k.0 in omega (arith, d);
    recorded = let d = k.0 in omega (arith, d);
    faults = inl (none_read a (record a { fills = fills }) noted refl refl);
    stops = λ _. refl;
    sets = λ _ j. inl refl;
    images = λ clear start since. let new = record a { fills = fills } in without_disk device start a new since grew (same_pending device start a new since grew [] tt noted refl) refl;
  }
    where
      noted : faults_in fills ≡ faults_in a.fills ++ []
      noted = k.1 ∙ sym (append-nil (faults_in a.fills))

      grew : OnlyAppends a (record a { fills = fills })
      grew = record { history = prefix_self a.history; fills = k.2; head = refl; exponent = refl; opened = refl; sealed = refl }

  pub goes_freed : (a b : StoreView D) (i : Interval) → IsAbandoned a b i → GoesOn device a b
  goes_freed a b i is = subst (GoesOn device a) (sym is) (goes_noted a (freed i a.fills) (freed_is i a.fills))

  pub goes_settled : (a : StoreView D) → GoesOn device a (record a { fills = all_freed a.fills })
  goes_settled a = goes_noted a (all_freed a.fills) (all_freed_is (flights_of a.fills) a.fills)

  -- the closing came
  pub goes_closed : (a : StoreView D) → GoesOn device a (with_closing a)
  goes_closed a = goes_noted a (a.fills ++ Closed ∷ []) (
    let h = dones-append a.fills (Closed ∷ []) in omega (arith, h),
    faults_in-append a.fills (Closed ∷ []) ∙ append-nil (faults_in a.fills),
    (Closed ∷ [], refl),
  )

  pub settled_is : (a b c : StoreView D) → a ≡ record b { fills = all_freed b.fills } → b ≡ c → a ≡ record c { fills = all_freed c.fills }
  settled_is a b c settled is = subst (λ (s : StoreView D). a ≡ record s { fills = all_freed s.fills }) is settled

  pub goes_begun : (a b : StoreView D) (o : Option FillTask) → IsFillBegun device a b o → GoesOn device a b
  goes_begun a b None i = goes_same a b i.1
  goes_begun a b (Some task) i =
      let read : StoreView D = record b { fills = a.fills } in
      goes_trans a read b (goes_reads a read i.reads) (goes_noted read b.fills (
        ap dones i.fills ∙ (dones-append a.fills (Begun task.interval task.base ∷ []) ∙ omega arith),
        ap faults_in i.fills ∙ (faults_in-append a.fills (Begun task.interval task.base ∷ []) ∙ append-nil (faults_in a.fills)),
        (Begun task.interval task.base ∷ [], sym i.fills),
      ))

  pub goes_filled : (a b : StoreView D) (done : BuiltFill) → OnlyAppends a b → (IsTrue device.is_transparent → IsRightFor a done) → LeavesFill a b done → pending_fault_of a.fills ≡ None → FillIsAppended device a b done → GoesOn device a b
  goes_filled a b done g right crash healed f = record {
    appends = g;
    database = history_same a b g.head history;
    records = let r = f.records in let h = ap length history in let d = ap dones fills ∙ dones-append a.fills (Done done.interval done.base ∷ []) in omega (arith, r, h, d);
    recorded = let r = f.records in let d = ap dones fills ∙ dones-append a.fills (Done done.interval done.base ∷ []) in omega (arith, r, d);
    faults = inl (none_read a b (ap faults_in fills ∙ faults_in-append a.fills (Done done.interval done.base ∷ [])) f.no_failed_write f.no_fault);
    stops = λ _. history;
    images = λ clear start since. fill_tried device start a b since g done healed (crash healed clear);
    sets = λ clear j. by_same (right clear).1 j (is_same j done.interval) refl (ap (λ (s : Fillings (List SetRow)). s j) f.filled);
  }
    where
      history : b.history ≡ a.history
      history = ap (λ s. s.history) f.step.1

      fills : b.fills ≡ a.fills ++ Done done.interval done.base ∷ []
      fills = ap (λ s. s.fills) f.step.1

      at_end : slice_get b.fills (length a.fills) ≡ Some (Done done.interval done.base)
      at_end =
          let here : length a.fills ≡ length a.fills + 0 = omega arith in
          ap (λ (l : List Fill). slice_get l (length a.fills)) fills ∙ (ap (slice_get (a.fills ++ Done done.interval done.base ∷ [])) here ∙ at_behind a.fills (Done done.interval done.base ∷ []) 0)

      by_same : IsRightFill a.exponent a.head.mdb a.history done.interval done.base done.set → (j : Interval) (same : Bool) → is_same j done.interval ≡ same → fillings_in b.filled j ≡ (if same then Some (fill_over done.base done.set) else fillings_in a.filled j)
          → HasFillOrNew a b j
      by_same own j true e at =
          let is : done.interval ≡ j = sym (same_interval j done.interval e) in
          inr (record {
            fill = fill_over done.base done.set;
            has = at;
            place = length a.fills;
            since = le_refl _;
            there = subst (λ (i : Interval). slice_get b.fills (length a.fills) ≡ Some (Done i done.base)) is at_end;
            right = subst (λ (l : List Item). IsRightFill a.exponent a.head.mdb l j done.base done.set) (sym history) (subst (λ (i : Interval). IsRightFill a.exponent a.head.mdb a.history i done.base done.set) is own);
          })
      by_same own j false e at = inl at

  pub goes_installed : (a b : StoreView D) (done : BuiltFill) (r : Installed) → OnlyAppends a b → (IsTrue device.is_transparent → IsRightFor a done) → LeavesFill a b done → IsStoreInstalled device a b done r → GoesOn device a b
  goes_installed a b done became.Done g right crash i = goes_filled a b done g right crash i.0.healed i.1
  goes_installed a b done (became.Stale position) g right crash i = goes_freed a b done.interval i.2

  pub goes_install_refused : (a b : StoreView D) (done : BuiltFill) (e : Refusal) → OnlyAppends a b → LeavesFill a b done → IsInstallRefusal device a b done e → GoesOn device a b
  goes_install_refused a b done refused.Usage g crash i = absurd i
  goes_install_refused a b done (refused.NeedsReopen n) g crash i = goes_freed a b done.interval i.1
  goes_install_refused a b done (refused.Limit w n) g crash i = goes_freed a b done.interval i.5
  goes_install_refused a b done refused.OutOfMemory g crash i = goes_freed a b done.interval i.2
  goes_install_refused a b done refused.DiskFault g crash i =
      let failed = i.2.0 in
      let fault = i.2.1 in
      let same = i.2.2 in
      let head = sym (ap (λ s. s.head) same) ∙ g.head in
      let exponent = sym (ap (λ s. s.exponent) same) ∙ g.exponent in
      let opened = sym (ap (λ s. s.opened) same) ∙ g.opened in
      let sealed = sym (ap (λ s. s.sealed) same) ∙ g.sealed in
      let grew : OnlyAppends a failed = record {
        history = ([], append-nil a.history ∙ sym fault.history);
        fills = (Fault fault.count true (additions.Fill done.interval done.base) ∷ [], sym fault.fills);
        head = head;
        exponent = exponent;
        opened = opened;
        sealed = sealed;
      } in
      let disk : b.disk ≡ failed.disk = ap (λ s. s.disk) same in
      goes_trans a failed b
      (goes_fault a failed (additions.Fill done.interval done.base) i.0.healed fault head exponent opened sealed (λ _. tt)
      (λ clear start since. fill_tried device start a failed since grew done i.0.healed (subst (λ (d : D). LeavesOnly device a.disk d (λ c. StandsFilled c (filled_of a) ⊎ StandsFilled c (filled_with a done))) disk (crash i.0.healed clear))))
      (goes_freed failed b done.interval same)
  goes_install_refused a b done _ g crash i = absurd i

  pub goes_install : (a b : StoreView D) (done : BuiltFill) (r : Result Installed Refusal) → OnlyAppends a b → (IsTrue device.is_transparent → IsRightFor a done) → LeavesFill a b done
      → MatchResult r (IsStoreInstalled device a b done) (IsInstallRefusal device a b done) → GoesOn device a b
  goes_install a b done (Ok o) g right crash i = goes_installed a b done o g right crash i
  goes_install a b done (Err e) g right crash i = goes_install_refused a b done e g crash i

  pub goes_begin : (a b : StoreView D) (r : Result (Option FillTask) Refusal) → MatchResult r (IsFillBegun device a b) (λ e. IsReadRefusal device a b e × IsLeftByRefusal device a b e) → GoesOn device a b
  goes_begin a b (Ok o) i = goes_begun a b o i
  goes_begin a b (Err e) i = goes_unread a b e i.0 i.1
