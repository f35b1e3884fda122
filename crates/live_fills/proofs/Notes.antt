-- What a filler's calls note.
use Rattle.std.proofs.Common.{◌≡◌, inl, inr, ℕ, zero, suc, ◌<◌, ◌≤◌, Bool, true, false, List, [], ◌∷◌, ◌++◌, length, Option, Some, None, Result, Ok, Err, if◌then◌else◌, refl, sym, ap, ◌∙◌, subst, arith, append-nil}
use Rattle.std.specs.Prelude.{slice_get, take}
use Rattle.std.specs.List.{AllByRecursion}
use Rattle.std.specs.Option.{is_some}
use Rattle.std.proofs.lemmas.List.{take-append-le}
use Rattle.std.proofs.lemmas.Option.{slice_get_within}
use mathlib.Core.List.{IsPrefix}
use Rattle.arch_types.specs.declared.inserted.Installed.{Installed}
use Rattle.arch_types.specs.declared.inserted.Installed.TheVariants as became
use Rattle.intervals.specs.declared.interval.Interval.{Interval}
use Rattle.refusals.specs.declared.refusal.Refusal.{Refusal}
use Rattle.refusals.specs.declared.refusal.Refusal.TheVariants as refused
use Rattle.history_items.specs.declared.fills.Addition.TheVariants as additions
use Rattle.history_items.specs.declared.fills.Fill.{Fill}
use Rattle.history_items.specs.declared.fills.Fill.TheVariants.{Done, Freed}
use Rattle.history_items.specs.declared.items.Item.{Item}
use Rattle.history_items.specs.Fills.{in_flight}
use Rattle.store_fills.specs.declared.task.FillTask.{FillTask}
use Rattle.store_fills.specs.Built.{BuiltFill}
use Rattle.archive_store.specs.StoreView.{StoreView}
use Rattle.live_archive.specs.Added.{AreFaults, BeginNotes, InstallNotes, flight_ended}
use Rattle.live_archive.proofs.Places.{at_later}
use Rattle.live_fills.specs.Filler.{IsNoBatchFault, IsFillNote}
use Rattle.live_fills.specs.LiveTarget.{WasLate}
use Rattle.live_fills.proofs.Tasks.{late_on}

-- ---- lists

-- what a list begins with, it begins with before each place behind that
pub before_place : {X : Type 0} (xs ys : List X) (place : ℕ) → IsPrefix xs ys → length xs ≤ place → IsPrefix xs (take place ys)
before_place {X = X} xs ys place p low = subst (λ (l : List X). IsPrefix xs (take place l)) p.1 (go xs place low)
  where
    go : (xs : List X) (n : ℕ) → length xs ≤ n → IsPrefix xs (take n (xs ++ p.0))
    go [] n le = (take n p.0, refl)
    go (x ∷ xs) zero le = absurd (omega (arith, le))
    go (x ∷ xs) (suc n) le = let rest = go xs n (omega (arith, le)) in (rest.0, ap (λ (l : List X). x ∷ l) rest.1)

pub some_at : {X : Type 0} (P : X → Type 0) (ys : List X) (i : ℕ) → i < length ys → AllByRecursion P ys → (x : X) × (slice_get ys i ≡ Some x) × P x
some_at P [] i low all = absurd (omega (arith, low))
some_at P (y ∷ ys) zero low all = (y, refl, all.0)
some_at P (y ∷ ys) (suc i) low all = some_at P ys i (omega (arith, low)) all.1

-- ---- a note stays

module _ {D : Type 0} (first : StoreView D) where
  pub note_stays : (front history : List Item) (noted fills : List Fill) (place : ℕ) → IsPrefix front history → IsPrefix noted fills → IsFillNote first front noted place → IsFillNote first history fills place
  note_stays front history noted fills place p q note =
      let within = slice_get_within noted place note.item note.there in
      let low : place ≤ length noted = omega (arith, within) in
      let same : take place noted ≡ take place fills = sym (take-append-le place noted q.0 low) ∙ ap (take place) q.1 in
      record {
        item = note.item;
        there = at_later noted fills place note.item q note.there;
        of_fill = note.of_fill;
        late = λ i base is.
            let was = late_on first.exponent first.fills front history (take place noted) (take place noted) i p ([], append-nil (take place noted)) (note.late i base is) in
            subst (λ (l : List Fill). WasLate first.exponent first.fills history l i) same was;
      }

-- ---- by call

-- no faults of batches, and fills of such intervals alone
abbrev pub IsQuiet : ℕ → (Interval → Type 0) → Fill → Type 0
IsQuiet sealed Late item = IsNoBatchFault sealed item × ((i : Interval) (base : ℕ) → item ≡ Done i base → Late i)

abbrev pub AreQuiet : ℕ → (Interval → Type 0) → List Fill → Type 0
AreQuiet sealed Late noted = AllByRecursion (IsQuiet sealed Late) noted

module _ (sealed : ℕ) (Late : Interval → Type 0) where
  both_quiet : (a b : List Fill) → AreQuiet sealed Late a → AreQuiet sealed Late b → AreQuiet sealed Late (a ++ b)
  both_quiet [] b x y = y
  both_quiet (item ∷ a) b x y = (x.0, both_quiet a b x.1 y)

  pub ended_quiet : (i : Interval) (fills : List Fill) → AreQuiet sealed Late (flight_ended i fills)
  ended_quiet i fills = go (is_some (in_flight i fills))
    where
      go : (b : Bool) → AreQuiet sealed Late (if b then Freed i ∷ [] else [])
      go true = ((tt, λ j base is. absurd (cc is)), tt)
      go false = tt

  pub begun_quiet : {D : Type 0} (store : StoreView D) → store.sealed ≡ sealed → (answer : Result (Option FillTask) Refusal) (noted : List Fill) → BeginNotes store answer noted → AreQuiet sealed Late noted
  begun_quiet store same (Ok None) noted is = subst (AreQuiet sealed Late) (sym is) tt
  begun_quiet store same (Ok (Some task)) noted is = subst (AreQuiet sealed Late) (sym is) ((tt, λ j base e. absurd (cc e)), tt)
  begun_quiet store same (Err refused.DiskFault) noted (paged, (count, is)) =
      subst (AreQuiet sealed Late) (sym is) ((inr (subst (λ (n : ℕ). 0 < n) same paged, (count, refl)), λ j base e. absurd (cc e)), tt)
  begun_quiet store same (Err _) noted is = subst (AreQuiet sealed Late) (sym is) tt

  faults_quiet : (i : Interval) (base : ℕ) (refusal : Refusal) (noted : List Fill) → AreFaults (additions.Fill i base) refusal noted → AreQuiet sealed Late noted
  faults_quiet i base refused.DiskFault noted are = subst (AreQuiet sealed Late) (sym are.1) ((inl tt, λ j b is. absurd (cc is)), tt)
  faults_quiet i base _ noted are = subst (AreQuiet sealed Late) (sym are) tt

  pub installed_quiet : (fills : List Fill) (done : BuiltFill) (answer : Result Installed Refusal) (noted : List Fill) → Late done.interval → InstallNotes fills done answer noted → AreQuiet sealed Late noted
  installed_quiet fills done (Ok became.Done) noted late is =
      subst (AreQuiet sealed Late) (sym is) ((tt, λ j base e. let same : done.interval ≡ j = cc e in subst Late same late), tt)
  installed_quiet fills done (Ok (became.Stale position)) noted late is = subst (AreQuiet sealed Late) (sym is) (ended_quiet done.interval fills)
  installed_quiet fills done (Err refusal) noted late (faults, are, is) =
      subst (AreQuiet sealed Late) (sym is) (both_quiet faults (flight_ended done.interval fills) (faults_quiet done.interval done.base refusal faults are) (ended_quiet done.interval fills))
