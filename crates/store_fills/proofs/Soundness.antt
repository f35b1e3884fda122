-- Fills stay sound.
use Rattle.std.proofs.Common.{◌≡◌, ℕ, ◌≤◌, List, ◌++◌, length, Bool, true, false, Option, Some, refl, sym, ◌∙◌, ap, subst, arith, length-append}
use Rattle.std.specs.Prelude.{if◌then◌else◌}
use Rattle.std.proofs.lemmas.List.{take-append-le}
use Rattle.intervals.specs.declared.interval.Interval.{Interval}
use Rattle.arch_types.specs.declared.row.Row.{Row}
use Rattle.history_items.specs.declared.items.Item.{Item}
use Rattle.history_items.specs.Fills.{is_same}
use Rattle.interval_fills.specs.Intervals.{rows_of_interval, NoneSince}
use Rattle.interval_fills.proofs.Growing.{changes_grows}
use Rattle.interval_fills.proofs.Intervals.{rows_below}
use Rattle.interval_fills.proofs.Steps.{same_interval}
use Rattle.store_fills.specs.Sound.{Filling, Fillings, with_filling, AreSound}

some_is : {A : Type 0} (x y : A) → ◌≡◌ {A = Option A} (Some x) (Some y) → x ≡ y
some_is x y e = cc

module _ (e : ℕ) (S : Type 0) (Holds : S → List Row → Type 0) where
  -- the rows of an interval none of which is new
  same_rows : (i : Interval) (base : ℕ) (history more : List Item) → base ≤ length history → NoneSince e i base (history ++ more) → rows_of_interval e i history ≡ rows_of_interval e i (history ++ more)
  same_rows i base history more within none =
      rows_below e i base history (λ p s. none p (changes_grows e i p history more s))
      ∙ ap (rows_of_interval e i) (sym (take-append-le base history more within))
      ∙ sym (rows_below e i base (history ++ more) none)

  pub rows_leave : (history more : List Item) (fillings : Fillings S) → AreSound e Holds history fillings → AreSound e Holds (history ++ more) fillings
  rows_leave history more fillings sound = record {
    within = λ i f is. omega (arith, sound.within i f is, length-append history more);
    each = λ i f is none. subst (Holds f.set) (same_rows i f.base history more (sound.within i f is) none) (sound.each i f is (λ p s. none p (changes_grows e i p history more s)));
  }

  -- the new fill, or one that was there
  chosen : (fillings : Fillings S) (i j : Interval) (f g : Filling S) (P : Interval → Filling S → Type 0) → P i f → (fillings j ≡ Some g → P j g) → with_filling fillings i f j ≡ Some g → P j g
  chosen fillings i j f g P here old is = go (is_same j i) refl is
    where
      go : (b : Bool) → is_same j i ≡ b → (if b then Some f else fillings j) ≡ Some g → P j g
      go true same is = subst (λ (k : Interval). P k g) (sym (same_interval j i same)) (subst (P i) (some_is f g is) here)
      go false other is = old is

  pub fill_leaves : (history : List Item) (fillings : Fillings S) (i : Interval) (f : Filling S) → AreSound e Holds history fillings → f.base ≤ length history
      → (NoneSince e i f.base history → Holds f.set (rows_of_interval e i history)) → AreSound e Holds history (with_filling fillings i f)
  fill_leaves history fillings i f sound within set = record {
    within = λ j g is. chosen fillings i j f g (λ k h. h.base ≤ length history) within (sound.within j g) is;
    each = λ j g is. chosen fillings i j f g (λ k h. NoneSince e k h.base history → Holds h.set (rows_of_interval e k history))
        set (sound.each j g) is;
  }
