-- What was late by a fill list that fillers went on with was late by the first fills.
use Rattle.std.proofs.Common.{◌≡◌, ◌⊎◌, inl, inr, ⊎_elim, ℕ, zero, suc, ◌+◌, ◌<◌, ◌≤◌, List, [], ◌∷◌, ◌++◌, length, Bool, true, false, ltb, Option, Some, None, if◌then◌else◌, refl, sym, ap, ◌∙◌, subst, arith}
use Rattle.std.specs.Prelude.{slice_get, take, fold, MatchOption, ⊤}
use Rattle.std.specs.Option.{is_some, option_map_or}
use Rattle.std.proofs.lemmas.Bool.{ltb-true, ltb-false}
use Rattle.std.proofs.lemmas.Option.{slice_get_within}
use mathlib.Core.List.{IsPrefix}
use Rattle.arch_disk.specs.Disk.{Device}
use Rattle.intervals.specs.declared.interval.Interval.{Interval}
use Rattle.late_marks.specs.Mark.{is_late_by}
use Rattle.history_items.specs.declared.fills.Fill.{Fill}
use Rattle.history_items.specs.declared.fills.Fill.TheVariants.{Done, Freed}
use Rattle.history_items.specs.declared.items.Item.{Item}
use Rattle.history_items.specs.Fills.{IsLastDone, base_in, in_flight}
use Rattle.history_items.specs.FillList.{flights_of}
use Rattle.history_items.specs.Late.{IsChangedSince, IsLate, last_in}
use Rattle.history_items.proofs.LastSaid.{base_is_of_last_done}
use Rattle.history_items.proofs.Late.{late_by_last}
use Rattle.interval_fills.specs.Steps.{all_freed, freed}
use Rattle.interval_fills.proofs.Growing.{changes_grows, stands_grows}
use Rattle.param_segments.specs.Rows.{SetRow}
use Rattle.store_fills.specs.LastFills.{fillings_in}
use Rattle.store_fills.specs.Sound.{base_of_filling}
use Rattle.archive_store.specs.AddedFills.{AddsRightFills, IsAddedFill}
use Rattle.archive_store.specs.LateFills.{is_late_by_fill}
use Rattle.archive_store.specs.StoreView.{StoreView}
use Rattle.live_archive.specs.GoesOn.{GoesOn, HasNewFill}
use Rattle.live_archive.proofs.Going.{prefix_length}
use Rattle.live_archive.proofs.Places.{at_later}
use Rattle.live_fills.specs.Laws.{FillsAreOfLateIntervals, SettlingAddsNoFill, WereLate}
use Rattle.live_fills.specs.LiveTarget.{WasLate}

-- ---- lists

-- what stands at a place of a list that another begins, stands in that
at_sooner : {X : Type 0} (xs more : List X) (i : ℕ) → i < length xs → slice_get xs i ≡ slice_get (xs ++ more) i
at_sooner [] more i low = absurd (omega (arith, low))
at_sooner (x ∷ xs) more zero low = refl
at_sooner (x ∷ xs) more (suc i) low = at_sooner xs more i (omega (arith, low))

take_begins : {X : Type 0} (n : ℕ) (xs : List X) → IsPrefix (take n xs) xs
take_begins zero xs = (xs, refl)
take_begins (suc n) [] = ([], refl)
take_begins {X = X} (suc n) (x ∷ xs) = let rest = take_begins n xs in (rest.0, ap (λ (l : List X). x ∷ l) rest.1)

length_take : {X : Type 0} (n : ℕ) (xs : List X) → length (take n xs) ≤ n
length_take zero xs = omega arith
length_take (suc n) [] = omega arith
length_take (suc n) (x ∷ xs) = let rest = length_take n xs in omega (arith, rest)

-- ---- lateness

-- as the history goes on
late_grows : (e : ℕ) (i : Interval) (front history : List Item) (fills : List Fill) → IsPrefix front history → IsLate e i front fills → IsLate e i history fills
late_grows e i front history fills p late = subst (λ (l : List Item). IsLate e i l fills) p.1 (record {
  row = record { position = late.row.position; stands = stands_grows e i late.row.position front p.0 late.row.stands };
  unseen = unseen (base_in i fills) late.unseen;
})
  where
    unseen : (o : Option ℕ) → MatchOption o ⊤ (λ base. IsChangedSince e i base front) → MatchOption o ⊤ (λ base. IsChangedSince e i base (front ++ p.0))
    unseen None since = since
    unseen (Some base) since = record { position = since.position; changes = changes_grows e i since.position front p.0 since.changes; since = since.since }

-- by another fill list with the same base
late_by_base : (e : ℕ) (i : Interval) (history : List Item) (fills others : List Fill) → base_in i fills ≡ base_in i others → IsLate e i history fills → IsLate e i history others
late_by_base e i history fills others same late =
    record { row = late.row; unseen = subst (λ (o : Option ℕ). MatchOption o ⊤ (λ base. IsChangedSince e i base history)) same late.unseen }

module _ (i : Interval) (first noted : List Fill) (p : IsPrefix first noted) where
  sooner : (place base : ℕ) → place < length first → slice_get noted place ≡ Some (Done i base) → slice_get first place ≡ Some (Done i base)
  sooner place base low at = at_sooner first p.0 place low ∙ (ap (λ (l : List Fill). slice_get l place) p.1 ∙ at)

  -- where none of the items behind is a fill of the interval, its base is the first one
  module _ (none : (place base : ℕ) → length first ≤ place → slice_get noted place ≡ Some (Done i base) → ⊥) where
    below : (place base : ℕ) → slice_get noted place ≡ Some (Done i base) → slice_get first place ≡ Some (Done i base)
    below place base at = go (ltb place (length first)) refl
      where
        go : (b : Bool) → ltb place (length first) ≡ b → slice_get first place ≡ Some (Done i base)
        go true low = sooner place base (ltb-true place (length first) low) at
        go false high = absurd (none place base (ltb-false place (length first) high) at)

    same_base : base_in i noted ≡ base_in i first
    same_base = go (base_in i first) refl
      where
        go : (o : Option ℕ) → base_in i first ≡ o → base_in i noted ≡ base_in i first
        go None is = (base_is_of_last_done i noted).1.1 (λ place base at. (base_is_of_last_done i first).1.0 is place base (below place base at)) ∙ sym is
        go (Some base) is =
            let done = ((base_is_of_last_done i first).0 base).0 is in
            ((base_is_of_last_done i noted).0 base).1 (record {
              place = done.place;
              there = at_later first noted done.place (Done i base) p done.there;
              last = λ later other lt at. done.last later other lt (below later other at);
            }) ∙ sym is

  -- the last fill of the interval: behind the first items, or none is
  abbrev pub HasLastBehind : Type 0
  HasLastBehind = (place : ℕ) × (base : ℕ) × (length first ≤ place) × (slice_get noted place ≡ Some (Done i base))

  by_last : (base : ℕ) → (done : IsLastDone i base noted) → HasLastBehind ⊎ (base_in i noted ≡ base_in i first)
  by_last base done = go (ltb done.place (length first)) refl
    where
      go : (b : Bool) → ltb done.place (length first) ≡ b → HasLastBehind ⊎ (base_in i noted ≡ base_in i first)
      go true low =
          let less = ltb-true done.place (length first) low in
          inr (same_base (λ later other high at. done.last later other (omega (arith, less, high)) at))
      go false high = inl (done.place, base, ltb-false done.place (length first) high, done.there)

  pub last_behind : HasLastBehind ⊎ (base_in i noted ≡ base_in i first)
  last_behind = go (base_in i noted) refl
    where
      go : (o : Option ℕ) → base_in i noted ≡ o → HasLastBehind ⊎ (base_in i noted ≡ base_in i first)
      go None is = inr (same_base (λ place base high at. (base_is_of_last_done i noted).1.0 is place base at))
      go (Some base) is = by_last base (((base_is_of_last_done i noted).0 base).0 is)

module _ {D : Type 0} (first now : StoreView D) (were : WereLate first now) (i : Interval) where
  -- an interval with a fill since was late by the first fills, if each one with a sooner fill was
  one_first : (place base : ℕ) → length first.fills ≤ place → slice_get now.fills place ≡ Some (Done i base)
      → ((sooner other : ℕ) → sooner < place → length first.fills ≤ sooner → slice_get now.fills sooner ≡ Some (Done i other) → IsLate first.exponent i now.history first.fills)
      → IsLate first.exponent i now.history first.fills
  one_first place base since at each = go (last_behind i first.fills was.noted was.since)
    where
      was : WasLate first.exponent first.fills now.history (take place now.fills) i
      was = were place i base since at

      go : HasLastBehind i first.fills was.noted was.since ⊎ (base_in i was.noted ≡ base_in i first.fills) → IsLate first.exponent i now.history first.fills
      go (inr same) = late_by_base first.exponent i now.history was.noted first.fills same (late_grows first.exponent i was.front now.history was.noted was.begins was.late)
      go (inl (sooner, other, behind, there)) =
          let inside = slice_get_within was.noted sooner (Done i other) there in
          let long = prefix_length was.noted (take place now.fills) was.fills_begin in
          let few = length_take place now.fills in
          each sooner other (omega (arith, inside, long, few)) behind
          (at_later (take place now.fills) now.fills sooner (Done i other) (take_begins place now.fills) (at_later was.noted (take place now.fills) sooner (Done i other) was.fills_begin there))

  late_first : (n place base : ℕ) → place ≤ n → length first.fills ≤ place → slice_get now.fills place ≡ Some (Done i base) → IsLate first.exponent i now.history first.fills
  late_first zero place base low since at = one_first place base since at (λ sooner other less behind there. absurd (omega (arith, less, low)))
  late_first (suc n) place base low since at = one_first place base since at (λ sooner other less behind there. late_first n sooner other (omega (arith, less, low)) behind there)

  late_by_first : (bases : base_in i first.fills ≡ base_of_filling (fillings_in first.filled) i) → IsLate first.exponent i now.history first.fills → is_late_by_fill first.exponent now.history (fillings_in first.filled) i ≡ true
  late_by_first bases late =
      ap (λ (o : Option ℕ). option_map_or (λ last. is_late_by last o) (last_in first.exponent i now.history) false) (sym bases) ∙ (late_by_last first.exponent i now.history first.fills).1 late

pub fills_of_late : {D : Type 0} (device : Device D) → FillsAreOfLateIntervals device
fills_of_late device first now clear bases goes were i = ⊎_elim
    (λ (same : fillings_in now.filled i ≡ fillings_in first.filled i). inl same)
    (λ (new : HasNewFill first now i). inr (
      late_by_first first now were i (bases i) (late_first first now were i new.place new.place new.fill.base (omega arith) new.since new.there),
      (new.fill.base, new.fill.set, new.right.may, new.has, new.right.holds),
    ))
    (goes.sets clear i)

-- ---- settling

module _ (i : Interval) (place base : ℕ) where
  freed_adds_none : (j : Interval) (fills : List Fill) → slice_get (freed j fills) place ≡ Some (Done i base) → slice_get fills place ≡ Some (Done i base)
  freed_adds_none j fills = go (is_some (in_flight j fills))
    where
      behind : (xs : List Fill) (n : ℕ) → slice_get (xs ++ Freed j ∷ []) n ≡ Some (Done i base) → slice_get xs n ≡ Some (Done i base)
      behind [] zero at = absurd (cc at)
      behind [] (suc n) at = at
      behind (x ∷ xs) zero at = at
      behind (x ∷ xs) (suc n) at = behind xs n at

      go : (b : Bool) → slice_get (if b then fills ++ Freed j ∷ [] else fills) place ≡ Some (Done i base) → slice_get fills place ≡ Some (Done i base)
      go true at = behind fills place at
      go false at = at

  all_add_none : (flights : List Interval) (fills : List Fill) → slice_get (fold (λ ended j. freed j ended) fills flights) place ≡ Some (Done i base) → slice_get fills place ≡ Some (Done i base)
  all_add_none [] fills at = at
  all_add_none (j ∷ flights) fills at = freed_adds_none j fills (all_add_none flights (freed j fills) at)

pub settling_adds_none : SettlingAddsNoFill
settling_adds_none fills place i base at = all_add_none i place base (flights_of fills) fills at
