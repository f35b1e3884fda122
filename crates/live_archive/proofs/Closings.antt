-- No call but the last publication puts a closing behind the fill list.
use Rattle.std.proofs.Common.{◌≡◌, ◌+◌, Bool, true, false, List, [], ◌∷◌, ◌++◌, Option, Some, None, inl, inr, Result, Ok, Err, IfErr, MatchResult, if◌then◌else◌, refl, ap, ◌∙◌, subst, arith}
use Rattle.std.specs.Option.{is_some}
use Rattle.arch_disk.specs.Disk.{Device}
use Rattle.arch_types.specs.declared.inserted.Inserted.{Inserted}
use Rattle.arch_types.specs.declared.inserted.Installed.{Installed}
use Rattle.arch_types.specs.declared.inserted.Installed.TheVariants as became
use Rattle.arch_types.specs.declared.row.Row.{Row}
use Rattle.arch_types.specs.declared.row_fault.RowFault.{RowFault}
use Rattle.arch_types.specs.declared.row_fault.RowFault.TheVariants as unread
use Rattle.refusals.specs.Refusal.{refusal_of_rows}
use Rattle.intervals.specs.declared.interval.Interval.{Interval}
use Rattle.refusals.specs.declared.refusal.Refusal.{Refusal}
use Rattle.refusals.specs.declared.refusal.Refusal.TheVariants as refused
use Rattle.history_items.specs.declared.fills.Addition.{Addition}
use Rattle.history_items.specs.declared.fills.Addition.TheVariants.{Nothing}
use Rattle.history_items.specs.declared.fills.Fill.{Fill}
use Rattle.history_items.specs.declared.fills.Fill.TheVariants.{Begun, Done, Freed, Fault, Closed}
use Rattle.history_items.specs.Fills.{in_flight}
use Rattle.interval_fills.specs.Steps.{freed}
use Rattle.store_fills.specs.declared.task.FillTask.{FillTask}
use Rattle.store_fills.specs.Built.{BuiltFill}
use Rattle.archive_store.specs.Calls.{AreIngested, IsIngestRefusal}
use Rattle.archive_store.specs.Installs.{IsInstallRefusal, IsStoreInstalled}
use Rattle.archive_store.specs.StoreView.{AddsFault, StoreView}
use Rattle.archive_store.specs.Tasks.{IsFillBegun}
use Rattle.archive_store.specs.UnreadRows.{IsLeftByRead, IsLeftByRefusal, IsReadFault, IsReadRefusal, ReadsRows}
use Rattle.archive_store.proofs.Calls.{ingest_cases}
use Rattle.live_archive.specs.Closings.{TellsClosing, closings}

-- one item behind a list
closings_behind : (fills : List Fill) (item : Fill) → closings (fills ++ item ∷ []) ≡ closings fills + closings (item ∷ [])
closings_behind [] item = omega arith
closings_behind (Begun i b ∷ fills) item = closings_behind fills item
closings_behind (Done i b ∷ fills) item = closings_behind fills item
closings_behind (Freed i ∷ fills) item = closings_behind fills item
closings_behind (Fault c w a ∷ fills) item = closings_behind fills item
closings_behind (Closed ∷ fills) item = let rest = closings_behind fills item in omega (arith, rest)

-- one that is no closing
none_behind : (fills : List Fill) (item : Fill) → closings (item ∷ []) ≡ 0 → closings (fills ++ item ∷ []) ≡ closings fills
none_behind fills item none = let more = closings_behind fills item in omega (arith, more, none)

-- and the closing
pub one_behind : (fills : List Fill) → closings (fills ++ Closed ∷ []) ≡ closings fills + 1
one_behind fills = closings_behind fills Closed

-- the end of a flight
none_freed : (i : Interval) (fills : List Fill) → closings (freed i fills) ≡ closings fills
none_freed i fills = go (is_some (in_flight i fills))
  where
    go : (b : Bool) → closings (if b then fills ++ Freed i ∷ [] else fills) ≡ closings fills
    go true = none_behind fills (Freed i) refl
    go false = refl

module _ {D : Type 0} where
  -- what is told stays so while no closing comes
  pub tells_on : (first : StoreView D) (old new : List Fill) (has : Bool) → closings new ≡ closings old → TellsClosing first old has → TellsClosing first new has
  tells_on first old new true same told = same ∙ told
  tells_on first old new false same told = same ∙ told

  pub none_same : (a b : StoreView D) → b ≡ a → closings b.fills ≡ closings a.fills
  none_same a b is = ap (λ (s : StoreView D). closings s.fills) is

module _ {D : Type 0} (device : Device D) (a b : StoreView D) where
  none_fault : (wrote : Bool) (addition : Addition) → AddsFault device a b wrote addition → closings b.fills ≡ closings a.fills
  none_fault wrote addition f = ap closings f.fills ∙ none_behind a.fills (Fault f.count wrote addition) refl

  pub none_reads : ReadsRows device a b → closings b.fills ≡ closings a.fills
  none_reads (inl same) = none_same a b same
  none_reads (inr pages) = ap closings pages.1

  none_unread_for : (fault : RowFault) → IsReadFault device a b fault → IsLeftByRefusal device a b (refusal_of_rows fault) → closings b.fills ≡ closings a.fills
  none_unread_for unread.DiskFault is left = none_fault false Nothing is.1
  none_unread_for (unread.Damaged file at) is left = none_reads left
  none_unread_for unread.OutOfMemory is left = none_reads left

  pub none_unread : (e : Refusal) → IsReadRefusal device a b e → IsLeftByRefusal device a b e → closings b.fills ≡ closings a.fills
  none_unread e (fault, is, of) left = none_unread_for fault is (subst (IsLeftByRefusal device a b) of left)

  pub none_read : {X : Type 0} (r : Result X RowFault) → IfErr r (IsReadFault device a b) → IsLeftByRead device a b r → closings b.fills ≡ closings a.fills
  none_read (Ok x) why left = none_reads left
  none_read (Err fault) why left = none_unread_for fault why left

  none_ingest_refused : (rows : List Row) (e : Refusal) → IsIngestRefusal device a b rows e → closings b.fills ≡ closings a.fills
  none_ingest_refused rows e i =
      ingest_cases device a b rows (λ _. closings b.fills ≡ closings a.fills) e i (λ n r. none_same a b r.1) (λ w n r. none_reads r.2) (λ failed. none_fault true _ failed.fault)
      (λ refusal r. none_unread refusal r.unread r.left) (λ r. none_reads r.1)

  pub none_ingest : {X : Type 0} (rows : List Row) (r : Result X Refusal) (outcomes : X → List Inserted) → MatchResult r (λ x. AreIngested device a b rows (outcomes x)) (IsIngestRefusal device a b rows) → closings b.fills ≡ closings a.fills
  none_ingest rows (Ok x) outcomes i = ap closings i.fills
  none_ingest rows (Err e) outcomes i = none_ingest_refused rows e i

  none_begun : (o : Option FillTask) → IsFillBegun device a b o → closings b.fills ≡ closings a.fills
  none_begun None i = none_same a b i.1
  none_begun (Some task) i = ap closings i.fills ∙ none_behind a.fills (Begun task.interval task.base) refl

  pub none_begin : (r : Result (Option FillTask) Refusal) → MatchResult r (IsFillBegun device a b) (λ e. IsReadRefusal device a b e × IsLeftByRefusal device a b e) → closings b.fills ≡ closings a.fills
  none_begin (Ok o) i = none_begun o i
  none_begin (Err e) i = none_unread e i.0 i.1

  pub none_abandoned : (i : Interval) → b ≡ record a { fills = freed i a.fills } → closings b.fills ≡ closings a.fills
  none_abandoned i is = ap (λ (s : StoreView D). closings s.fills) is ∙ none_freed i a.fills

  none_installed : (done : BuiltFill) (installed : Installed) → IsStoreInstalled device a b done installed → closings b.fills ≡ closings a.fills
  none_installed done became.Done i = ap (λ s. closings s.fills) i.1.step.1 ∙ none_behind a.fills (Done done.interval done.base) refl
  none_installed done (became.Stale position) i = none_abandoned done.interval i.2

  none_install_refused : (done : BuiltFill) (e : Refusal) → IsInstallRefusal device a b done e → closings b.fills ≡ closings a.fills
  none_install_refused done refused.Usage i = absurd i
  none_install_refused done (refused.NeedsReopen n) i = none_abandoned done.interval i.1
  none_install_refused done (refused.Limit w n) i = none_abandoned done.interval i.5
  none_install_refused done refused.OutOfMemory i = none_abandoned done.interval i.2
  none_install_refused done refused.DiskFault i =
      let failed = i.2.0 in
      let fault = i.2.1 in
      ap (λ (s : StoreView D). closings s.fills) i.2.2 ∙ none_freed done.interval failed.fills ∙ (ap closings fault.fills ∙ none_behind a.fills _ refl)
  none_install_refused done _ i = absurd i

  pub none_install : (done : BuiltFill) (r : Result Installed Refusal) → MatchResult r (IsStoreInstalled device a b done) (IsInstallRefusal device a b done) → closings b.fills ≡ closings a.fills
  none_install done (Ok o) i = none_installed done o i
  none_install done (Err e) i = none_install_refused done e i
