-- What the store that a session's turns leave has, by what a session says of one store.
use Rattle.std.proofs.Common.{◌≡◌, ◌⊎◌, inl, inr, ℕ, zero, suc, Contains, List, [], ◌∷◌, ◌++◌, IsTrue, true, false, Some, refl, ap, subst, ◌∙◌, append-nil}
use Rattle.std.specs.Prelude.{slice_get}
use Rattle.std.specs.List.{AllByRecursion}
use mathlib.Core.List.{IsPrefix}
use Rattle.arch_disk.specs.Image.{Image}
use Rattle.arch_disk.specs.Disk.{Device, LeavesOnly}
use Rattle.arch_disk.proofs.Moments.{started, weakens}
use Rattle.arch_types.specs.declared.row.Row.{Row}
use Rattle.history_items.specs.declared.fills.Addition.{Addition}
use Rattle.history_items.specs.declared.fills.Addition.TheVariants as additions
use Rattle.history_items.specs.declared.fills.Fill.{Fill}
use Rattle.history_items.specs.declared.fills.Fill.TheVariants.{Begun, Done, Freed, Fault, Closed}
use Rattle.history_items.specs.Fills.{rows_of_faults, unacknowledged_in}
use Rattle.history_items.specs.Items.{items_of}
use Rattle.store_fills.specs.Faults.{faults_in}
use Rattle.shared_history.proofs.Members.{IsIn, contains_from, in_from}
use Rattle.archive_store.specs.UnreadRows.{IsFaultOfRead}
use Rattle.archive_store.specs.StoreView.{IsKeptWithFills, StoreView, archive_of, filled_of}
use Rattle.live_archive.specs.GoesOn.{GoesOn, NoneFailed, OneFailed}
use Rattle.live_archive.specs.Images.{HasPendingRows, IsBetween, LeavesBetween}
use Rattle.load_session.specs.During.{HasBatchInHand, IsDuring}
use Rattle.load_jobs.specs.Laws.{AFaultIsTheOne}

-- ---- failed writes

-- a list has an item
pub among_faults : (fills : List Fill) (place count : ℕ) (addition : Addition) → slice_get fills place ≡ Some (Fault count true addition) → Contains (faults_in fills) (Fault count true addition)
among_faults [] place count addition at = absurd cc
among_faults (Begun i b ∷ fills) zero count addition at = absurd cc
among_faults (Begun i b ∷ fills) (suc place) count addition at = among_faults fills place count addition at
among_faults (Done i b ∷ fills) zero count addition at = absurd cc
among_faults (Done i b ∷ fills) (suc place) count addition at = among_faults fills place count addition at
among_faults (Freed i ∷ fills) zero count addition at = absurd cc
among_faults (Freed i ∷ fills) (suc place) count addition at = among_faults fills place count addition at
among_faults (Closed ∷ fills) zero count addition at = absurd cc
among_faults (Closed ∷ fills) (suc place) count addition at = among_faults fills place count addition at
among_faults (Fault c w a ∷ fills) zero count addition at =
    let same : Fault c w a ≡ Fault count true addition = cc at in contains_from (Fault count true addition) (Fault c w a ∷ faults_in fills) (inl same)
among_faults (Fault c w a ∷ fills) (suc place) count addition at =
    contains_from (Fault count true addition) (Fault c w a ∷ faults_in fills) (inr (in_from (Fault count true addition) (faults_in fills) (among_faults fills place count addition at)))

-- none of reads is of a failed write
pub no_write : (reads : List Fill) (count : ℕ) (addition : Addition) → AllByRecursion IsFaultOfRead reads → IsIn (Fault count true addition) reads → ⊥
no_write [] count addition each is = is
no_write (item ∷ reads) count addition each (inl same) = let read = each.0.1 in cc (same, read)
no_write (item ∷ reads) count addition each (inr more) = no_write reads count addition each.1 more

-- so the one between such is the one of a failed write
pub one_write : (before behind : List Fill) (one : Fill) (count : ℕ) (addition : Addition) → AllByRecursion IsFaultOfRead (before ++ behind) → IsIn (Fault count true addition) (before ++ one ∷ behind) → one ≡ Fault count true addition
one_write [] behind one count addition each (inl same) = same
one_write [] behind one count addition each (inr more) = absurd (no_write behind count addition each more)
one_write (item ∷ before) behind one count addition each (inl same) = absurd (let read = each.0.1 in cc (same, read))
one_write (item ∷ before) behind one count addition each (inr more) = one_write before behind one count addition each.1 more

module _ {D : Type 0} (device : Device D) (first closed : StoreView D) (none : faults_in first.fills ≡ []) (goes : GoesOn device first closed) where
  abbrev IsTheOne : ℕ → Addition → Type 0
  IsTheOne count addition = (one : OneFailed device first closed) × (one.addition ≡ addition) × (faults_in closed.fills ≡ one.before ++ Fault count true addition ∷ one.behind)

  the_one : (count : ℕ) (addition : Addition) → IsIn (Fault count true addition) (faults_in closed.fills) → OneFailed device first closed → IsTheOne count addition
  the_one count addition there one =
      let alone : faults_in closed.fills ≡ one.before ++ Fault one.count true one.addition ∷ one.behind = one.faults ∙ ap (λ (l : List Fill). l ++ (one.before ++ Fault one.count true one.addition ∷ one.behind)) none in
      let same = one_write one.before one.behind (Fault one.count true one.addition) count addition one.each (subst (IsIn (Fault count true addition)) alone there) in
      let of : one.addition ≡ addition = cc same in
      (one, of, alone ∙ ap (λ (f : Fill). one.before ++ f ∷ one.behind) same)

  -- a fault at some place is the one write that failed
  pub failed_once : (place count : ℕ) (addition : Addition) → slice_get closed.fills place ≡ Some (Fault count true addition) → IsTheOne count addition
  failed_once place count addition at = go goes.faults
    where
      there : IsIn (Fault count true addition) (faults_in closed.fills)
      there = in_from (Fault count true addition) (faults_in closed.fills) (among_faults closed.fills place count addition at)

      go : NoneFailed device first closed ⊎ OneFailed device first closed → IsTheOne count addition
      go (inl unfailed) = absurd (no_write unfailed.reads count addition unfailed.each (subst (IsIn (Fault count true addition)) (unfailed.faults ∙ ap (λ (l : List Fill). l ++ unfailed.reads) none) there))
      go (inr one) = the_one count addition there one

-- ---- images

-- rows that a pending write holds are those of a fault
pending_held : (fills : List Fill) (rows : List Row) → unacknowledged_in fills ≡ Some (additions.Rows rows) → IsIn (items_of rows) (rows_of_faults fills)
pending_held [] rows some = absurd (cc some)
pending_held (Begun i b ∷ fills) rows some = pending_held fills rows some
pending_held (Done i b ∷ fills) rows some = pending_held fills rows some
pending_held (Freed i ∷ fills) rows some = pending_held fills rows some
pending_held (Closed ∷ fills) rows some = pending_held fills rows some
pending_held (Fault count true (additions.Rows held) ∷ fills) rows some =
    let same : held ≡ rows = cc some in
    inl (ap items_of same)
pending_held (Fault count true (additions.Fill interval base) ∷ fills) rows some = absurd (cc some)
pending_held (Fault count true additions.Nothing ∷ fills) rows some = absurd (cc some)
pending_held (Fault count false (additions.Rows held) ∷ fills) rows some = inr (pending_held fills rows some)
pending_held (Fault count false (additions.Fill interval base) ∷ fills) rows some = pending_held fills rows some
pending_held (Fault count false additions.Nothing ∷ fills) rows some = pending_held fills rows some

module _ {D : Type 0} (device : Device D) (first closed : StoreView D) where
  between_is_during : (c : Image) → IsBetween first closed c → IsDuring (archive_of first) closed.history (rows_of_faults closed.fills) c
  between_is_during c i = record { history = i.history; holds = i.holds; within = go i.within; stands = i.stands }
    where
      go : IsPrefix i.history closed.history ⊎ HasPendingRows closed i.history → IsPrefix i.history closed.history ⊎ HasBatchInHand closed.history (rows_of_faults closed.fills) i.history
      go (inl within) = inl within
      go (inr (rows, some, is)) = inr (items_of rows, contains_from (items_of rows) (rows_of_faults closed.fills) (pending_held closed.fills rows some), is)

  -- power lost during the turns leaves what it leaves during a session
  pub left_during : IsTrue device.is_transparent → GoesOn device first closed → IsKeptWithFills device first
      → LeavesOnly device first.disk closed.disk (IsDuring (archive_of first) closed.history (rows_of_faults closed.fills))
  left_during clear goes kept =
      let here : LeavesBetween device first first = record {
        appends = record { history = ([], append-nil first.history); fills = ([], append-nil first.fills); head = refl; exponent = refl; opened = refl; sealed = refl };
        images = started device first.disk (IsBetween first first) (λ c left. record {
          history = first.history;
          holds = ([], append-nil first.history);
          within = inl ([], append-nil first.history);
          stands = record { filled = filled_of first; plain_is = refl; stands = kept c left };
        });
      } in
      weakens device first.disk closed.disk (IsBetween first closed) (IsDuring (archive_of first) closed.history (rows_of_faults closed.fills)) (goes.images clear first here).images between_is_during

-- ---- the laws

module _ {D : Type 0} (device : Device D) where
  pub a_fault_is_the_one : AFaultIsTheOne device
  a_fault_is_the_one first closed place count addition none goes there = failed_once device first closed none goes place count addition there
