-- Fill lists after more items, and after a reopen.
use Rattle.std.proofs.Common.{◌≡◌, ℕ, ◌≤◌, List, [], ◌∷◌, ◌++◌, length, map, Bool, true, false, Option, Some, None, option_map, refl, sym, ap, subst, ◌∙◌, arith}
use Rattle.std.specs.Prelude.{fold, if◌then◌else◌}
use Rattle.std.specs.List.{cons_option, filter_map}
use Rattle.std.specs.Option.{option_map_or, option_or}
use Rattle.std.proofs.lemmas.List.Elements.{filter_map-append}
use Rattle.std.proofs.lemmas.List.Sums.{fold-append}
use Rattle.intervals.specs.declared.interval.Interval.{Interval}
use Rattle.history_items.specs.declared.fills.Fill.{Fill}
use Rattle.history_items.specs.declared.fills.Fill.TheVariants.{Begun, Done, Freed, Fault, Closed}
use Rattle.history_items.specs.Fills.{is_same, base_in, base_after, in_flight, flight_after, noted_faults, rows_of_faults, first_pending, pending_fault_of, cleared, reopened, above, CountsRise, Rising}
use Rattle.history_items.specs.Noted.{IntervalFill, Noted, NotedFault, NotedFlight, fault_of_fill, items_of_fault, noted_of}

-- ---- more items

pub base_after_item : (interval : Interval) (fills : List Fill) (item : Fill) → base_in interval (fills ++ item ∷ []) ≡ base_after interval (base_in interval fills) item
base_after_item interval fills item = fold-append (base_after interval) None fills (item ∷ [])

pub flight_after_item : (interval : Interval) (fills : List Fill) (item : Fill) → in_flight interval (fills ++ item ∷ []) ≡ flight_after interval (in_flight interval fills) item
flight_after_item interval fills item = fold-append (flight_after interval) None fills (item ∷ [])

pub noted_faults-append : (fills more : List Fill) → noted_faults (fills ++ more) ≡ noted_faults fills ++ noted_faults more
noted_faults-append fills more = filter_map-append fault_of_fill fills more

pub rows_of_faults-append : (fills more : List Fill) → rows_of_faults (fills ++ more) ≡ rows_of_faults fills ++ rows_of_faults more
rows_of_faults-append fills more =
    ap (filter_map items_of_fault) (noted_faults-append fills more) ∙ filter_map-append items_of_fault (noted_faults fills) (noted_faults more)

first_pending-append : (tells : NotedFault → ℕ) (faults more : List NotedFault) →
    option_map tells (first_pending (faults ++ more)) ≡ option_or (option_map tells (first_pending faults)) (option_map tells (first_pending more))
first_pending-append tells [] more = refl
first_pending-append tells (fault ∷ faults) more = go fault.wrote (first_pending-append tells faults more)
  where
    go : (b : Bool) → option_map tells (first_pending (faults ++ more)) ≡ option_or (option_map tells (first_pending faults)) (option_map tells (first_pending more))
        → option_map tells (if b then Some fault else first_pending (faults ++ more)) ≡ option_or (option_map tells (if b then Some fault else first_pending faults)) (option_map tells (first_pending more))
    go true rest = refl
    go false rest = rest

-- the count of the first pending one
abbrev count_pending : List NotedFault → Option ℕ
count_pending faults = option_map (λ fault. fault.count) (first_pending faults)

pub pending_fault_of-append : (fills more : List Fill) → pending_fault_of (fills ++ more) ≡ option_or (pending_fault_of fills) (pending_fault_of more)
pending_fault_of-append fills more =
    ap count_pending (noted_faults-append fills more) ∙ first_pending-append (λ fault. fault.count) (noted_faults fills) (noted_faults more)

-- ---- rising counts

rise_later : (faults : List NotedFault) (low high next : ℕ) → high ≤ next → CountsRise low high faults → CountsRise low next faults
rise_later [] low high next le rising = tt
rise_later (fault ∷ faults) low high next le rising = (rising.0, omega (arith, rising.1), rise_later faults (above fault.count) high next le rising.2)

-- a later end
pub Rising-later : (fills : List Fill) (low high next : ℕ) → high ≤ next → Rising low high fills → Rising low next fills
Rising-later fills low high next le rising = rise_later (noted_faults fills) low high next le rising

-- an earlier beginning
rise_earlier : (faults : List NotedFault) (low high from : ℕ) → from ≤ low → CountsRise low high faults → CountsRise from high faults
rise_earlier [] low high from le rising = tt
rise_earlier (fault ∷ faults) low high from le rising = (omega (arith, rising.0), rising.1, rising.2)

rise_on : (low high next : ℕ) (faults more : List NotedFault) → low ≤ above high → high ≤ next → CountsRise low high faults → CountsRise (above high) next more → CountsRise low next (faults ++ more)
rise_on low high next [] more first later rising after = rise_earlier more (above high) next low first after
rise_on low high next (fault ∷ faults) more first later rising after =
    (rising.0, omega (arith, rising.1), rise_on (above fault.count) high next faults more (omega (arith, rising.1)) later rising.2 after)

pub Rising-append : (low high next : ℕ) (fills more : List Fill) → low ≤ above high → high ≤ next → Rising low high fills → Rising (above high) next more → Rising low next (fills ++ more)
Rising-append low high next fills more first later rising after =
    subst (CountsRise low next) (sym (noted_faults-append fills more)) (rise_on low high next (noted_faults fills) (noted_faults more) first later rising after)

-- ---- a reopen

-- a fault whose failed write is taken back
abbrev fault_cleared : NotedFault → NotedFault
fault_cleared fault = record fault { wrote = false }

-- what an item notes, but that its fault's write is taken back
abbrev pub with_fault_cleared : Noted → Noted
with_fault_cleared noted = record noted { fault = option_map fault_cleared noted.fault }

pub noted_cleared : (item : Fill) → noted_of (cleared item) ≡ with_fault_cleared (noted_of item)
noted_cleared (Begun i b) = refl
noted_cleared (Done i b) = refl
noted_cleared (Freed i) = refl
noted_cleared Closed = refl
noted_cleared (Fault count wrote unacknowledged) = refl

noted_faults-reopened : (fills : List Fill) → noted_faults (reopened fills) ≡ map fault_cleared (noted_faults fills)
noted_faults-reopened [] = refl
noted_faults-reopened (item ∷ fills) =
    ap (λ (noted : Noted). cons_option noted.fault (noted_faults (reopened fills))) (noted_cleared item) ∙ go (fault_of_fill item) (noted_faults-reopened fills)
  where
    go : (o : Option NotedFault) → noted_faults (reopened fills) ≡ map fault_cleared (noted_faults fills)
        → cons_option (option_map fault_cleared o) (noted_faults (reopened fills)) ≡ map fault_cleared (cons_option o (noted_faults fills))
    go None rest = rest
    go (Some fault) rest = ap (λ (l : List NotedFault). fault_cleared fault ∷ l) rest

none_pending : (faults : List NotedFault) → first_pending (map fault_cleared faults) ≡ None
none_pending [] = refl
none_pending (fault ∷ faults) = none_pending faults

pub pending_fault_of-reopened : (fills : List Fill) → pending_fault_of (reopened fills) ≡ None
pending_fault_of-reopened fills =
    ap count_pending (noted_faults-reopened fills) ∙ ap (option_map (λ (fault : NotedFault). fault.count)) (none_pending (noted_faults fills))

items_stay : (faults : List NotedFault) → filter_map items_of_fault (map fault_cleared faults) ≡ filter_map items_of_fault faults
items_stay [] = refl
items_stay (fault ∷ faults) = ap (cons_option (items_of_fault fault)) (items_stay faults)

pub rows_of_faults-reopened : (fills : List Fill) → rows_of_faults (reopened fills) ≡ rows_of_faults fills
rows_of_faults-reopened fills = ap (filter_map items_of_fault) (noted_faults-reopened fills) ∙ items_stay (noted_faults fills)

pub length-reopened : (fills : List Fill) → length (reopened fills) ≡ length fills
length-reopened [] = refl
length-reopened (item ∷ fills) = omega (arith, length-reopened fills)

still_rise : (faults : List NotedFault) (low high : ℕ) → CountsRise low high faults → CountsRise low high (map fault_cleared faults)
still_rise [] low high rising = tt
still_rise (fault ∷ faults) low high rising = (rising.0, rising.1, still_rise faults (above fault.count) high rising.2)

pub Rising-reopened : (fills : List Fill) (low high : ℕ) → Rising low high fills → Rising low high (reopened fills)
Rising-reopened fills low high rising = subst (CountsRise low high) (sym (noted_faults-reopened fills)) (still_rise (noted_faults fills) low high rising)

-- a fold that doesn't look at the flag
fold-reopened : (f : Option ℕ → Fill → Option ℕ) → ((base : Option ℕ) (item : Fill) → f base (cleared item) ≡ f base item) → (fills : List Fill) (base : Option ℕ) → fold f base (reopened fills) ≡ fold f base fills
fold-reopened f same [] base = refl
fold-reopened f same (item ∷ fills) base = fold-reopened f same fills (f base (cleared item)) ∙ ap (λ (o : Option ℕ). fold f o fills) (same base item)

base_cleared : (interval : Interval) (base : Option ℕ) (item : Fill) → base_after interval base (cleared item) ≡ base_after interval base item
base_cleared interval base item =
    ap (λ (noted : Noted). option_map_or (λ (fill : IntervalFill). if is_same interval fill.interval then Some fill.base else base) noted.done base) (noted_cleared item)

flight_cleared : (interval : Interval) (base : Option ℕ) (item : Fill) → flight_after interval base (cleared item) ≡ flight_after interval base item
flight_cleared interval base item =
    ap (λ (noted : Noted). option_map_or (λ (flight : NotedFlight). if is_same interval flight.interval then flight.base else base) noted.flight base) (noted_cleared item)

pub base_in-reopened : (interval : Interval) (fills : List Fill) → base_in interval (reopened fills) ≡ base_in interval fills
base_in-reopened interval fills = fold-reopened (base_after interval) (base_cleared interval) fills None

pub in_flight-reopened : (interval : Interval) (fills : List Fill) → in_flight interval (reopened fills) ≡ in_flight interval fills
in_flight-reopened interval fills = fold-reopened (flight_after interval) (flight_cleared interval) fills None
