-- A write that failed in a session.
use Rattle.std.proofs.Common.{◌≡◌, ◌≢◌, ◌⊎◌, inl, inr, ℕ, zero, suc, ◌≤◌, List, [], ◌∷◌, ◌++◌, length, Bool, true, false, Option, Some, None, refl, sym, ap, ◌∙◌, subst}
use Rattle.std.specs.Prelude.{slice_get, IsSome}
use Rattle.std.specs.List.{AllByRecursion}
use Rattle.std.specs.Option.{option_or}
use mathlib.Core.List.{IsPrefix}
use Rattle.arch_disk.specs.Disk.{Device, raised}
use Rattle.refusals.specs.declared.refusal.Refusal.TheVariants.{DiskFault}
use Rattle.history_items.specs.declared.fills.Addition.{Addition}
use Rattle.history_items.specs.declared.fills.Addition.TheVariants.{Nothing}
use Rattle.history_items.specs.declared.fills.Fill.{Fill}
use Rattle.history_items.specs.declared.fills.Fill.TheVariants.{Begun, Done, Freed, Fault, Closed}
use Rattle.history_items.specs.FillList.{flights_of}
use Rattle.history_items.specs.Fills.{pending_fault_of}
use Rattle.history_items.proofs.FillLists.{pending_fault_of-append}
use Rattle.interval_fills.specs.Steps.{all_freed}
use Rattle.store_fills.specs.Faults.{faults_in}
use Rattle.store_fills.proofs.Faults.{pending_fault_of-in}
use Rattle.archive_store.specs.StoreView.{StoreView}
use Rattle.archive_store.specs.UnreadRows.{IsFaultOfRead}
use Rattle.live_archive.specs.GoesOn.{GoesOn, NoneFailed, OneFailed}
use Rattle.live_archive.proofs.Going.{all_freed_is}
use Rattle.load_jobs.proofs.Closing.{among_faults, no_write, one_write}
use Rattle.load_jobs.proofs.OneLink.{some_fault}
use Rattle.shared_history.proofs.Members.{IsIn, in_from}
use Rattle.live_session.specs.Outcome.{HasFailed, IsSeenIn}
use Rattle.live_session.proofs.Lists.{at_prefix, stands_on}

-- a fault of a list stands at some place
find_among : (fills : List Fill) (item : Fill) → IsIn item (faults_in fills) → (place : ℕ) × (slice_get fills place ≡ Some item)
find_among [] item is = absurd is
find_among (Begun i b ∷ fills) item is = let p = find_among fills item is in (suc p.0, p.1)
find_among (Done i b ∷ fills) item is = let p = find_among fills item is in (suc p.0, p.1)
find_among (Freed i ∷ fills) item is = let p = find_among fills item is in (suc p.0, p.1)
find_among (Closed ∷ fills) item is = let p = find_among fills item is in (suc p.0, p.1)
find_among (Fault c w a ∷ fills) item (inl same) = (zero, ap Some same)
find_among (Fault c w a ∷ fills) item (inr more) = let p = find_among fills item more in (suc p.0, p.1)

in_middle : (before : List Fill) (item : Fill) (behind : List Fill) → IsIn item (before ++ item ∷ behind)
in_middle [] item behind = inl refl
in_middle (other ∷ before) item behind = inr (in_middle before item behind)

-- none of reads is pending
reads_pending : (reads : List Fill) → AllByRecursion IsFaultOfRead reads → pending_fault_of reads ≡ None
reads_pending [] each = refl
reads_pending (item ∷ reads) each = subst (λ (f : Fill). pending_fault_of (f ∷ reads) ≡ None) (sym each.0.1) (reads_pending reads each.1)

-- a failed write of a list that begins another is pending in both
pending_on : (fills later : List Fill) (n : ℕ) → IsPrefix fills later → pending_fault_of fills ≡ Some n → pending_fault_of later ≡ Some n
pending_on fills later n (more, is) pending =
    ap pending_fault_of (sym is) ∙ (pending_fault_of-append fills more ∙ ap (λ (o : Option ℕ). option_or o (pending_fault_of more)) pending)

-- whether a list has an item
abbrev has_some : List Fill → Bool
has_some [] = false
has_some (item ∷ items) = true

none_there : (items : List Fill) → has_some items ≡ false → items ≡ []
none_there [] e = refl
none_there (item ∷ items) e = absurd (cc e)

some_there : (items : List Fill) → has_some items ≡ true → items ≢ []
some_there [] e none = absurd (cc e)
some_there (item ∷ items) e none = absurd (cc none)

-- ending flights leaves what is pending
pub settled_pending : (fills : List Fill) → pending_fault_of (all_freed fills) ≡ pending_fault_of fills
settled_pending fills =
    pending_fault_of-in (all_freed fills) ∙ (ap pending_fault_of (all_freed_is (flights_of fills) fills).1 ∙ sym (pending_fault_of-in fills))

module _ {D : Type 0} (device : Device D) (first closed : StoreView D) (last : List Fill) (none : faults_in first.fills ≡ []) (goes : GoesOn device first closed) (settled : closed.fills ≡ all_freed last) where
  same_faults : faults_in closed.fills ≡ faults_in last
  same_faults = ap faults_in settled ∙ (all_freed_is (flights_of last) last).1

  pub settled_on : IsPrefix last closed.fills
  settled_on = subst (IsPrefix last) (sym settled) (all_freed_is (flights_of last) last).2

  -- what a failed write was to add, if one failed
  pub failed_addition : (failed : Option Addition) × (unread : Bool) × HasFailed device first closed failed unread
  failed_addition = go goes.faults
    where
      go : NoneFailed device first closed ⊎ OneFailed device first closed → (failed : Option Addition) × (unread : Bool) × HasFailed device first closed failed unread
      go (inl unfailed) = (None, has_some unfailed.reads, (unfailed, none_there unfailed.reads, some_there unfailed.reads))
      go (inr one) = (Some one.addition, has_some (one.before ++ one.behind), (one, refl, some_there (one.before ++ one.behind)))

  alone : (one : OneFailed device first closed) → faults_in closed.fills ≡ one.before ++ Fault one.count true one.addition ∷ one.behind
  alone one = one.faults ∙ ap (λ (l : List Fill). l ++ (one.before ++ Fault one.count true one.addition ∷ one.behind)) none

  module _ (failed : Option Addition) (unread : Bool) (has : HasFailed device first closed failed unread) where
    -- the fault of a failed write is that one
    pub of_fault : (place count : ℕ) (addition : Addition) → slice_get last place ≡ Some (Fault count true addition) → failed ≡ Some addition
    of_fault place count addition there = go failed has
      where
        here : slice_get closed.fills place ≡ Some (Fault count true addition)
        here = stands_on last closed.fills place (Fault count true addition) settled_on there

        among : IsIn (Fault count true addition) (faults_in closed.fills)
        among = in_from (Fault count true addition) (faults_in closed.fills) (among_faults closed.fills place count addition here)

        go : (failed : Option Addition) → HasFailed device first closed failed unread → failed ≡ Some addition
        go None (unfailed, none_read, some_read) = absurd (no_write unfailed.reads count addition unfailed.each (subst (IsIn (Fault count true addition)) (unfailed.faults ∙ ap (λ (l : List Fill). l ++ unfailed.reads) none) among))
        go (Some a) (one, is, some_read) =
            let both = one_write one.before one.behind (Fault one.count true one.addition) count addition one.each (subst (IsIn (Fault count true addition)) (alone one) among) in
            let same : one.addition ≡ addition = cc both in
            ap Some (sym is ∙ same)

    -- a write that is pending failed
    pub of_pending : (fills : List Fill) (n : ℕ) → IsPrefix fills last → pending_fault_of fills ≡ Some n → IsSome failed
    of_pending fills n begins pending = go failed has
      where
        here : pending_fault_of (faults_in closed.fills) ≡ Some n
        here = ap pending_fault_of same_faults ∙ (sym (pending_fault_of-in last) ∙ pending_on fills last n begins pending)

        go : (failed : Option Addition) → HasFailed device first closed failed unread → IsSome failed
        go None (unfailed, none_read, some_read) = absurd (let e : ◌≡◌ {A = Option ℕ} None (Some n) = sym (reads_pending unfailed.reads unfailed.each) ∙ (ap pending_fault_of (sym (unfailed.faults ∙ ap (λ (l : List Fill). l ++ unfailed.reads) none)) ∙ here) in cc e)
        go (Some a) one = refl

    -- it stands behind the first fills
    pub fault_there : (addition : Addition) → failed ≡ Some addition → (place : ℕ) × (count : ℕ) × (length first.fills ≤ place) × (slice_get last place ≡ Some (Fault count true addition))
    fault_there addition is = go failed is has
      where
        at : (one : OneFailed device first closed) → one.addition ≡ addition → (place : ℕ) × (count : ℕ) × (length first.fills ≤ place) × (slice_get last place ≡ Some (Fault count true addition))
        at one same =
            let fault = Fault one.count true one.addition in
            let found = find_among last fault (subst (IsIn fault) (sym (sym same_faults ∙ alone one)) (in_middle one.before fault one.behind)) in
            let there : slice_get last found.0 ≡ Some (Fault one.count true addition) = subst (λ (a : Addition). slice_get last found.0 ≡ Some (Fault one.count true a)) same found.1 in
            let here = stands_on last closed.fills found.0 (Fault one.count true addition) settled_on there in
            (found.0, one.count, behind found.0 one.count here, there)
          where
            behind : (place count : ℕ) → slice_get closed.fills place ≡ Some (Fault count true addition) → length first.fills ≤ place
            behind place count here = at_prefix first.fills closed.fills place (Fault count true addition) goes.appends.fills here (λ early. absurd (some_fault first.fills place count true addition early none))

        go : (failed : Option Addition) → failed ≡ Some addition → HasFailed device first closed failed unread
            → (place : ℕ) × (count : ℕ) × (length first.fills ≤ place) × (slice_get last place ≡ Some (Fault count true addition))
        go None e unfailed = absurd (cc e)
        go (Some a) e (one, same, some_read) = let b : a ≡ addition = cc e in at one (same ∙ b)

  -- where a read failed its fault stands there
  pub read_there : (unfailed : NoneFailed device first closed) → unfailed.reads ≢ [] → (place : ℕ) × (count : ℕ) × (length first.fills ≤ place) × (slice_get last place ≡ Some (Fault count false Nothing))
  read_there unfailed some = go unfailed.reads unfailed.each (unfailed.faults ∙ ap (λ (l : List Fill). l ++ unfailed.reads) none) some
    where
      at : (place count : ℕ) → slice_get last place ≡ Some (Fault count false Nothing) → length first.fills ≤ place
      at place count there =
          let here = stands_on last closed.fills place (Fault count false Nothing) settled_on there in
          at_prefix first.fills closed.fills place (Fault count false Nothing) goes.appends.fills here (λ early. absurd (some_fault first.fills place count false Nothing early none))

      go : (reads : List Fill) → AllByRecursion IsFaultOfRead reads → faults_in closed.fills ≡ reads → reads ≢ [] → (place : ℕ) × (count : ℕ) × (length first.fills ≤ place) × (slice_get last place ≡ Some (Fault count false Nothing))
      go [] each is some = absurd (some refl)
      go (item ∷ reads) each is some =
          let found = find_among last item (subst (IsIn item) (sym (sym same_faults ∙ is)) (inl refl)) in
          let there = found.1 ∙ ap (λ (f : Fill). Some f) each.0.1 in
          (found.0, each.0.0, at found.0 each.0.0 there, there)

  -- a fault that stands there came since, and was counted
  pub fault_counted : (place count : ℕ) (wrote : Bool) (addition : Addition) → slice_get last place ≡ Some (Fault count wrote addition) → IsSeenIn device first closed DiskFault
  fault_counted place count wrote addition there = (λ same. some_fault closed.fills place count wrote addition here (same ∙ none), go goes.faults)
    where
      here : slice_get closed.fills place ≡ Some (Fault count wrote addition)
      here = stands_on last closed.fills place (Fault count wrote addition) settled_on there

      go : NoneFailed device first closed ⊎ OneFailed device first closed → raised (device.fault_count first.disk) ≤ device.fault_count closed.disk
      go (inr one) = one.rose
      go (inl unfailed) = unfailed.rose (λ calm. some_fault closed.fills place count wrote addition here (unfailed.faults ∙ (ap (λ (l : List Fill). faults_in first.fills ++ l) calm ∙ ap (λ (l : List Fill). l ++ []) none)))

  -- what is pending of a beginning is, in the store
  pub pending_in : (fills : List Fill) (n : ℕ) → IsPrefix fills last → pending_fault_of fills ≡ Some n → pending_fault_of closed.fills ≡ Some n
  pending_in fills n begins pending = ap pending_fault_of settled ∙ (settled_pending last ∙ pending_on fills last n begins pending)
