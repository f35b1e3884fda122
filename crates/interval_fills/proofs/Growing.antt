-- A history that grows, and an interval that isn't late.
use Rattle.std.proofs.Common.{◌≡◌, inl, inr, ℕ, zero, suc, ◌<◌, ◌≤◌, List, [], ◌∷◌, ◌++◌, length, Bool, true, false, leb, Option, Some, sym, subst, refl, arith, length-append}
use Rattle.std.specs.Prelude.{slice_get, MatchOption, ⊤}
use Rattle.std.proofs.lemmas.Bool.{leb-true, leb-false}
use Rattle.std.proofs.lemmas.Option.{slice_get_within}
use Rattle.intervals.specs.declared.interval.Interval.{Interval}
use Rattle.history_items.specs.declared.fills.Fill.{Fill}
use Rattle.history_items.specs.declared.items.Item.{Item}
use Rattle.history_items.specs.Items.{database_item, prefix, row_item}
use Rattle.history_items.specs.Fills.{base_in}
use Rattle.history_items.specs.Late.{ChangesAt, HasRow, IsChangedSince, StandsIn, IsLate}
use Rattle.interval_fills.specs.Intervals.{rows_of_interval, NoneSince}
use Rattle.interval_fills.specs.Steps.{MachineState, IsFillBase, IsStoredBase}
use Rattle.interval_fills.proofs.Intervals.{no_row_since}

-- ---- a history that grows

get_grows : (xs ys : List Item) (p : ℕ) (x : Item) → slice_get xs p ≡ Some x → slice_get (xs ++ ys) p ≡ Some x
get_grows [] ys p x e = absurd cc
get_grows (y ∷ xs) ys zero x e = e
get_grows (y ∷ xs) ys (suc p) x e = get_grows xs ys p x e

pub stands_grows : (e : ℕ) (i : Interval) (p : ℕ) (history more : List Item) → StandsIn e i p history → StandsIn e i p (history ++ more)
stands_grows e i p history more s = record { row = s.row; there = get_grows history more p (row_item s.row) s.there; table = s.table; time = s.time }

pub changes_grows : (e : ℕ) (i : Interval) (p : ℕ) (history more : List Item) → ChangesAt e i p history → ChangesAt e i p (history ++ more)
changes_grows e i p history more (inl s) = inl (stands_grows e i p history more s)
changes_grows e i p history more (inr d) = inr (d.0, get_grows history more p (database_item d.0) d.1)

pub base_grows : (e : ℕ) (i : Interval) (base : ℕ) (history more : List Item) → IsFillBase e i base history → IsFillBase e i base (history ++ more)
base_grows e i base history more b = record {
  within = omega (arith, b.within, length-append history more);
  row = record { position = b.row.position; stands = stands_grows e i b.row.position history more b.row.stands; below = b.row.below };
}

pub stored_base : (e : ℕ) (i : Interval) (base : ℕ) (history : List Item) → IsFillBase e i base history → IsStoredBase e i base history
stored_base e i base history b = record {
  within = b.within;
  row = record { position = b.row.position; stands = b.row.stands; below = omega (arith, b.row.below, b.within) };
}

pub stored_grows : (e : ℕ) (i : Interval) (base : ℕ) (history more : List Item) → IsStoredBase e i base history → IsStoredBase e i base (history ++ more)
stored_grows e i base history more b = record {
  within = omega (arith, b.within, length-append history more);
  row = record {
    position = b.row.position;
    stands = stands_grows e i b.row.position history more b.row.stands;
    below = omega (arith, b.row.below, length-append history more);
  };
}

-- an interval that is late has a row
pub late_base : (e : ℕ) (i : Interval) (history : List Item) (fills : List Fill) → IsLate e i history fills → IsFillBase e i (length history) history
late_base e i history fills late = record {
  within = omega arith;
  row = record { position = late.row.position; stands = late.row.stands; below = slice_get_within history late.row.position (row_item late.row.stands.row) late.row.stands.there };
}

-- ---- an interval that isn't late

below_from : (b p : ℕ) → (b ≤ p → ⊥) → p < b
below_from b p never = go (leb b p) refl
  where
    go : (t : Bool) → leb b p ≡ t → p < b
    go true is = absurd (never (leb-true b p is))
    go false is = leb-false b p is

-- where it has a row, nothing has changed it since the base of its last fill
pub none_since : (e : ℕ) (i : Interval) (base : ℕ) (history : List Item) (fills : List Fill) → base_in i fills ≡ Some base → (IsLate e i history fills → ⊥) → HasRow e i history → NoneSince e i base history
none_since e i base history fills is never row p c =
    below_from base p (λ le.
    let changed : IsChangedSince e i base history = record { position = p; changes = c; since = le } in
    never (record { row = row; unseen = subst (λ (o : Option ℕ). MatchOption o ⊤ (λ b. IsChangedSince e i b history)) (sym is) changed }))

-- and back: an interval that nothing changed since the base of its last fill isn't late
pub punctual : (e : ℕ) (i : Interval) (base : ℕ) (history : List Item) (fills : List Fill) → base_in i fills ≡ Some base → NoneSince e i base history → IsLate e i history fills → ⊥
punctual e i base history fills is none late =
    let changed : IsChangedSince e i base history = subst (λ (o : Option ℕ). MatchOption o ⊤ (λ b. IsChangedSince e i b history)) is late.unseen in
    omega (arith, changed.since, none changed.position changed.changes)

pub filled_stay : (e : ℕ) (i : Interval) (base : ℕ) (s : MachineState) → base_in i s.fills ≡ Some base → (IsLate e i s.history s.fills → ⊥) → rows_of_interval e i s.history ≡ rows_of_interval e i (prefix base s.history)
filled_stay e i base s is never =
    no_row_since e i base s.history (λ p r. none_since e i base s.history s.fills is never (row_at p r) p (inl r))
  where
    row_at : (p : ℕ) → StandsIn e i p s.history → HasRow e i s.history
    row_at p r = record { position = p; stands = r }
