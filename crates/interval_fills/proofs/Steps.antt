-- Steps keep what holds of every state.
use Rattle.std.proofs.Common.{◌≡◌, ℕ, ◌≤◌, arith, List, [], ◌∷◌, ◌++◌, Bool, true, false, Option, Some, None, sym, refl, ◌∙◌, ap, subst}
use Rattle.std.specs.Prelude.{if◌then◌else◌, ℤ, fold}
use Rattle.std.specs.Option.{is_some}
use Rattle.std.proofs.lemmas.Bool.Decides.{Decides-int_eq}
use Rattle.intervals.specs.declared.interval.Interval.{Interval}
use Rattle.arch_types.specs.declared.inserted.Inserted.{Inserted}
use Rattle.arch_types.specs.declared.inserted.Installed.{Installed}
use Rattle.arch_types.specs.declared.inserted.Installed.TheVariants as became
use Rattle.arch_types.specs.declared.row.Row.{Row}
use Rattle.arch_types.specs.History.{IsHistory}
use Rattle.history_items.specs.declared.fills.Addition.{Addition}
use Rattle.history_items.specs.declared.fills.Fill.{Fill}
use Rattle.history_items.specs.declared.fills.Fill.TheVariants.{Begun, Done, Freed, Fault, Closed}
use Rattle.history_items.specs.declared.items.Item.{Item}
use Rattle.history_items.specs.Items.{items_of, rows_in}
use Rattle.history_items.specs.Outcomes.{fresh_of}
use Rattle.history_items.specs.Fills.{is_same, base_in, base_after, in_flight, flight_after, reopened}
use Rattle.history_items.specs.FillList.{flights_of}
use Rattle.history_items.proofs.FillLists.{base_after_item, flight_after_item, base_in-reopened, in_flight-reopened}
use Rattle.history_items.proofs.ItemLists.{keeps_rows}
use Rattle.history_items.proofs.Late.{last_is_greatest}
use Rattle.history_items.proofs.Outcomes.{fresh_added}
use Rattle.history_items.specs.Late.{IsLastIn, last_in}
use Rattle.interval_fills.specs.Intervals.{NoneSince}
use Rattle.interval_fills.specs.Steps.{MachineState, first_state, state_of, Ingests, BeginsFill, InstallsFill, IsFillBase, IsStoredBase, filled, freed, all_freed, given_up}
use Rattle.interval_fills.specs.Invariant.{MachineInvariant}
use Rattle.interval_fills.proofs.Growing.{base_grows, late_base, stored_base, stored_grows}

-- ---- one item more

-- an item may come
abbrev MayCome : ℕ → Fill → List Item → Type 0
MayCome e (Begun i base) history = IsFillBase e i base history
MayCome e (Done i base) history = IsStoredBase e i base history
MayCome e (Freed i) history = Unit {0}
MayCome e Closed history = Unit {0}
MayCome e (Fault count wrote unacknowledged) history = Unit {0}

pub same_interval : (a b : Interval) → is_same a b ≡ true → a ≡ b
same_interval a b e = ap (λ (n : ℤ). let i : Interval = record { 0 = n } in i) ((Decides-int_eq a.0 b.0).0 e)

pub some_is : {A : Type 0} (x y : A) → ◌≡◌ {A = Option A} (Some x) (Some y) → x ≡ y
some_is x y e = cc

-- the base of an item, or one from before
chosen : (P : Interval → ℕ → Type 0) (i j : Interval) (base b : ℕ) (before : Option ℕ) → P i base → (before ≡ Some b → P j b) → (if is_same j i then Some base else before) ≡ Some b → P j b
chosen P i j base b before here old is_it = go (is_same j i) refl is_it
  where
    go : (t : Bool) → is_same j i ≡ t → (if t then Some base else before) ≡ Some b → P j b
    go true is it = subst (λ (k : Interval). P k b) (sym (same_interval j i is)) (subst (P i) (some_is base b it) here)
    go false is it = old it

-- nothing, or one from before
left : (e : ℕ) (history : List Item) (i j : Interval) (b : ℕ) (before : Option ℕ) → (before ≡ Some b → IsFillBase e j b history) → (if is_same j i then None else before) ≡ Some b → IsFillBase e j b history
left e history i j b before old is_it = go (is_same j i) is_it
  where
    go : (t : Bool) → (if t then None else before) ≡ Some b → IsFillBase e j b history
    go true it = absurd cc
    go false it = old it

base_came : (e : ℕ) (history : List Item) (item : Fill) (j : Interval) (b : ℕ) (before : Option ℕ) → MayCome e item history → (before ≡ Some b → IsStoredBase e j b history) → base_after j before item ≡ Some b → IsStoredBase e j b history
base_came e history (Begun i base) j b before may old it = old it
base_came e history (Done i base) j b before may old it = chosen (λ k n. IsStoredBase e k n history) i j base b before may old it
base_came e history (Freed i) j b before may old it = old it
base_came e history (Fault count wrote unacknowledged) j b before may old it = old it
base_came e history Closed j b before may old it = old it

flight_came : (e : ℕ) (history : List Item) (item : Fill) (j : Interval) (b : ℕ) (before : Option ℕ) → MayCome e item history → (before ≡ Some b → IsFillBase e j b history) → flight_after j before item ≡ Some b → IsFillBase e j b history
flight_came e history (Begun i base) j b before may old it = chosen (λ k n. IsFillBase e k n history) i j base b before may old it
flight_came e history (Done i base) j b before may old it = left e history i j b before old it
flight_came e history (Freed i) j b before may old it = left e history i j b before old it
flight_came e history (Fault count wrote unacknowledged) j b before may old it = old it
flight_came e history Closed j b before may old it = old it

pub keeps_item : (e : ℕ) (history : List Item) (fills : List Fill) (item : Fill) → MachineInvariant e (state_of history fills) → MayCome e item history → MachineInvariant e (state_of history (fills ++ item ∷ []))
keeps_item e history fills item s may = record {
  history = s.history;
  bases = λ j b is. base_came e history item j b (base_in j fills) may (s.bases j b) (sym (base_after_item j fills item) ∙ is);
  flights = λ j b is. flight_came e history item j b (in_flight j fills) may (s.flights j b) (sym (flight_after_item j fills item) ∙ is);
}

pub keeps_freed : (e : ℕ) (history : List Item) (fills : List Fill) (i : Interval) → MachineInvariant e (state_of history fills) → MachineInvariant e (state_of history (freed i fills))
keeps_freed e history fills i s = go (is_some (in_flight i fills))
  where
    go : (b : Bool) → MachineInvariant e (state_of history (if b then fills ++ Freed i ∷ [] else fills))
    go true = keeps_item e history fills (Freed i) s tt
    go false = s

keeps_each : (e : ℕ) (history : List Item) (flights : List Interval) (fills : List Fill) → MachineInvariant e (state_of history fills) → MachineInvariant e (state_of history (fold (λ ended interval. freed interval ended) fills flights))
keeps_each e history [] fills s = s
keeps_each e history (i ∷ flights) fills s = keeps_each e history flights (freed i fills) (keeps_freed e history fills i s)

-- ---- steps

pub first : (e : ℕ) → MachineInvariant e first_state
first e = record { history = tt; bases = λ i b is. absurd cc; flights = λ i b is. absurd cc }

pub ingests : (e : ℕ) (old new : MachineState) (rows : List Row) (outcomes : List Inserted) → MachineInvariant e old → Ingests old rows outcomes new → MachineInvariant e new
ingests e old new rows outcomes s step =
    let more = items_of (fresh_of old.history rows) in
    let grown : new.history ≡ old.history ++ more = step.history ∙ fresh_added old.history rows in record {
      history = subst (λ (h : List Item). IsHistory (rows_in h)) (sym step.history) (keeps_rows old.history rows s.history);
      bases = λ i b is. subst (IsStoredBase e i b) (sym grown) (stored_grows e i b old.history more (s.bases i b (ap (base_in i) (sym step.fills) ∙ is)));
      flights = λ i b is. subst (IsFillBase e i b) (sym grown) (base_grows e i b old.history more (s.flights i b (ap (in_flight i) (sym step.fills) ∙ is)));
    }

moved : (e : ℕ) (old new : MachineState) (fills : List Fill) → new.history ≡ old.history → new.fills ≡ fills → MachineInvariant e (state_of old.history fills) → MachineInvariant e new
moved e old new fills history is s =
    subst (λ (h : List Item). MachineInvariant e (state_of h new.fills)) (sym history) (subst (λ (f : List Fill). MachineInvariant e (state_of old.history f)) (sym is) s)

pub begins : (e : ℕ) (old new : MachineState) (interval : Interval) (base : ℕ) (rows : List Row) → MachineInvariant e old → BeginsFill e old interval base rows new → MachineInvariant e new
begins e old new interval base rows s step =
    moved e old new (old.fills ++ Begun interval base ∷ []) step.history step.fills
    (keeps_item e old.history old.fills (Begun interval base) s
    (subst (λ (n : ℕ). IsFillBase e interval n old.history) (sym step.base_is) (late_base e interval old.history old.fills step.next.0.late)))

pub gives_up : (e : ℕ) (old : MachineState) (interval : Interval) → MachineInvariant e old → MachineInvariant e (given_up interval old)
gives_up e old interval s = keeps_freed e old.history old.fills interval s

pub installs : (e : ℕ) (old new : MachineState) (interval : Interval) (base : ℕ) (installed : Installed) → MachineInvariant e old → IsFillBase e interval base old.history → InstallsFill e old interval base installed new → MachineInvariant e new
installs e old new interval base became.Done s may step = subst (MachineInvariant e) (sym step.1) (keeps_item e old.history old.fills (Done interval base) s (stored_base e interval base old.history may))
installs e old new interval base (became.Stale position) s may step = subst (MachineInvariant e) (sym step.2) (gives_up e old interval s)

pub settles : (e : ℕ) (old : MachineState) → MachineInvariant e old → MachineInvariant e (state_of old.history (all_freed old.fills))
settles e old s = keeps_each e old.history (flights_of old.fills) old.fills s

pub opens : (e : ℕ) (old : MachineState) (interval : Interval) (base : ℕ) → MachineInvariant e old → IsStoredBase e interval base old.history → MachineInvariant e (filled interval base old)
opens e old interval base s may = keeps_item e old.history old.fills (Done interval base) s may

pub faults : (e : ℕ) (old : MachineState) (count : ℕ) (wrote : Bool) (unacknowledged : Addition) → MachineInvariant e old → MachineInvariant e (state_of old.history (old.fills ++ Fault count wrote unacknowledged ∷ []))
faults e old count wrote unacknowledged s = keeps_item e old.history old.fills (Fault count wrote unacknowledged) s tt

pub reopens : (e : ℕ) (old : MachineState) → MachineInvariant e old → MachineInvariant e (state_of old.history (reopened old.fills))
reopens e old s = record {
  history = s.history;
  bases = λ i b is. s.bases i b (sym (base_in-reopened i old.fills) ∙ is);
  flights = λ i b is. s.flights i b (sym (in_flight-reopened i old.fills) ∙ is);
}

-- ---- one outcome

-- a fill that is there isn't stale
not_both : (e : ℕ) (i : Interval) (base position : ℕ) (history : List Item) → NoneSince e i base history → base ≤ position → last_in e i history ≡ Some position → ⊥
not_both e i base position history none since is =
    let last = subst (IsLastIn e i history) is (last_is_greatest e i history) in
    omega (arith, since, none position last.1)

pub one_outcome : (e : ℕ) (old new other : MachineState) (interval : Interval) (base : ℕ) (became otherwise : Installed) → InstallsFill e old interval base became new → InstallsFill e old interval base otherwise other
    → (became ≡ otherwise) × (new ≡ other)
one_outcome e old new other interval base became.Done became.Done a b = (refl, a.1 ∙ sym b.1)
one_outcome e old new other interval base became.Done (became.Stale q) a b = absurd (not_both e interval base q old.history a.0 b.0 b.1)
one_outcome e old new other interval base (became.Stale p) became.Done a b = absurd (not_both e interval base p old.history b.0 a.0 a.1)
one_outcome e old new other interval base (became.Stale p) (became.Stale q) a b = (ap became.Stale (some_is p q (sym a.1 ∙ b.1)), a.2 ∙ sym b.2)
