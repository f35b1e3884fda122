-- Installs, by what a store is seen as.
use Rattle.std.proofs.Common.{◌≡◌, inl, inr, ℕ, ◌<◌, List, [], ◌∷◌, ◌++◌, Bool, true, false, Option, Some, None, refl, sym, ◌∙◌, ap, subst, arith, append_assoc}
use Rattle.std.specs.Prelude.{fold, if◌then◌else◌}
use Rattle.std.specs.Option.{is_some}
use mathlib.Core.List.{IsPrefix}
use Rattle.arch_disk.specs.Disk.{Device}
use Rattle.intervals.specs.declared.interval.Interval.{Interval}
use Rattle.refusals.specs.declared.refusal.Refusal.{Refusal}
use Rattle.refusals.specs.declared.refusal.Refusal.TheVariants.{DiskFault, OutOfMemory}
use Rattle.disk_journal.specs.Calls.{CountsNeverFall}
use Rattle.history_items.specs.declared.fills.Fill.{Fill}
use Rattle.history_items.specs.declared.fills.Fill.TheVariants.{Freed}
use Rattle.history_items.specs.FillList.{flights_of}
use Rattle.history_items.specs.Fills.{in_flight}
use Rattle.history_items.specs.declared.items.Item.{Item}
use Rattle.history_items.specs.Items.{databases_in}
use Rattle.history_items.specs.Late.{ChangesAt, IsLastIn, last_in}
use Rattle.history_items.proofs.Late.{last_is_greatest}
use Rattle.interval_fills.specs.Intervals.{NoneSince}
use Rattle.interval_fills.specs.Steps.{all_freed, freed}
use Rattle.store_fills.specs.Built.{BuiltFill}
use Rattle.archive_store.specs.Installs.{IsFillRefusal, IsAbandoned, IsInstallable, IsInstallRefusal}
use Rattle.archive_store.specs.StoreView.{OnlyAppends, StoreView}
use Rattle.archive_images.proofs.PendingFaults.{prefix_self}
use Rattle.archive_images.proofs.RowsAlone.{never_database}

-- ---- rows since a base

module _ (exponent : ℕ) (interval : Interval) (base : ℕ) (history : List Item) (last : Option ℕ) (is : last ≡ last_in exponent interval history) where
  last_there : IsLastIn exponent interval history last
  last_there = subst (IsLastIn exponent interval history) (sym is) (last_is_greatest exponent interval history)

  pub never_since : databases_in history ≡ [] → last ≡ None → NoneSince exponent interval base history
  never_since alone none = never
    where
      never : (p : ℕ) → ChangesAt exponent interval p history → p < base
      never p (inl stands) = absurd (subst (IsLastIn exponent interval history) none last_there (record { position = p; stands = stands }))
      never p (inr database) = absurd (never_database p history alone database)

  pub none_since_last : (l : ℕ) → last ≡ Some l → l < base → NoneSince exponent interval base history
  none_since_last l some below = λ p changes. let greatest = (subst (IsLastIn exponent interval history) some last_there).2 p changes in omega (arith, greatest, below)

-- what is known of an interval and a base, of those of a fill
pub at_done : (done : BuiltFill) (i : Interval) (base : ℕ) → i ≡ done.interval → base ≡ done.base → (P : Interval → ℕ → Type 0) → P i base → P done.interval done.base
at_done done i base at over P known = subst (λ (j : Interval). P j done.base) at (subst (λ (n : ℕ). P i n) over known)

-- ---- lists that go on

pub freed_begins : (fills : List Fill) (i : Interval) → IsPrefix fills (freed i fills)
freed_begins fills i = go (is_some (in_flight i fills))
  where
    go : (b : Bool) → IsPrefix fills (if b then fills ++ Freed i ∷ [] else fills)
    go true = (Freed i ∷ [], refl)
    go false = prefix_self fills

prefix_on : {A : Type 0} (xs ys zs : List A) → IsPrefix xs ys → IsPrefix ys zs → IsPrefix xs zs
prefix_on {A = A} xs ys zs first next = (first.0 ++ next.0, sym (append_assoc xs first.0 next.0) ∙ ap (λ (l : List A). l ++ next.0) first.1 ∙ next.1)

all_freed_begins : (fills : List Fill) → IsPrefix fills (all_freed fills)
all_freed_begins fills = go (flights_of fills) fills (prefix_self fills)
  where
    go : (flights : List Interval) (ended : List Fill) → IsPrefix fills ended → IsPrefix fills (fold (λ so_far interval. freed interval so_far) ended flights)
    go [] ended begins = begins
    go (i ∷ flights) ended begins = go flights (freed i ended) (prefix_on fills ended (freed i ended) begins (freed_begins ended i))

module _ {D : Type 0} where
  pub goes_on : (old mid new : StoreView D) → OnlyAppends old mid → OnlyAppends mid new → OnlyAppends old new
  goes_on old mid new first next = record {
    history = prefix_on old.history mid.history new.history first.history next.history;
    fills = prefix_on old.fills mid.fills new.fills first.fills next.fills;
    head = next.head ∙ first.head;
    exponent = next.exponent ∙ first.exponent;
    opened = next.opened ∙ first.opened;
    sealed = next.sealed ∙ first.sealed;
  }

  -- ---- a fill that is given up

  pub goes_given_up : (old new : StoreView D) (i : Interval) → IsAbandoned old new i → OnlyAppends old new
  goes_given_up old new i up = subst (OnlyAppends old) (sym up) (record {
    history = prefix_self old.history;
    fills = freed_begins old.fills i;
    head = refl;
    exponent = refl;
    opened = refl;
    sealed = refl;
  })

  -- ---- all flights end

  pub goes_settled : (old new : StoreView D) → new ≡ record old { fills = all_freed old.fills } → OnlyAppends old new
  goes_settled old new settled = subst (OnlyAppends old) (sym settled) (record {
    history = prefix_self old.history;
    fills = all_freed_begins old.fills;
    head = refl;
    exponent = refl;
    opened = refl;
    sealed = refl;
  })

  pub same_disk : (old new : StoreView D) (i : Interval) → IsAbandoned old new i → old.disk ≡ new.disk
  same_disk old new i up = sym (ap (λ (s : StoreView D). s.disk) up)

  pub counts_same : (device : Device D) (old new : StoreView D) (i : Interval) → IsAbandoned old new i → CountsNeverFall device old.disk new.disk
  counts_same device old new i up = subst (λ (d : D). CountsNeverFall device old.disk d) (same_disk old new i up) (record { faults = omega arith; writes = omega arith })

  pub counts_on : (device : Device D) (old mid new : StoreView D) (i : Interval) → CountsNeverFall device old.disk mid.disk → IsAbandoned mid new i → CountsNeverFall device old.disk new.disk
  counts_on device old mid new i counts up = subst (λ (d : D). CountsNeverFall device old.disk d) (same_disk mid new i up) counts

  -- ---- why an install is refused behind its tests

  pub install_refused : (device : Device D) (old mid new : StoreView D) (done : BuiltFill) (e : Refusal) → IsInstallable old → NoneSince old.exponent done.interval done.base old.history
      → IsFillRefusal device old mid done e → IsAbandoned mid new done.interval → IsInstallRefusal device old new done e
  install_refused device old mid new done OutOfMemory able none refusal up = (able, none, subst (λ (s : StoreView D). IsAbandoned s new done.interval) refusal up)
  install_refused device old mid new done DiskFault able none refusal up = (able, none, (mid, refusal, up))
  install_refused device old mid new done _ able none refusal up = absurd refusal
