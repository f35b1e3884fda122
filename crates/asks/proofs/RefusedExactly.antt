-- Where an ask is refused, over what was found of the name that it asks for.
use Rattle.std.proofs.Common.{◌≡◌, ◌≢◌, ◌↔◌, ◌≤ℤ◌, ◌<ℤ◌, ℕ, ℤ, Bool, true, false, List, Option, Some, None, refl, sym, ap, arith}
use Rattle.std.specs.Prelude.{int_lt, if◌then◌else◌}
use Rattle.std.specs.Option.{option_map_or}
use Rattle.std.proofs.lemmas.Int.{ints}
use Rattle.asks.specs.declared.refusal.AskRefusal.{AskRefusal}
use Rattle.asks.specs.declared.refusal.AskRefusal.TheVariants.{UnknownParameter, BadRange, UnknownTable}
use Rattle.asks.specs.Laws.{IsReversed}
use Rattle.asks.specs.Refusals.{range_refusal}

-- ---- a range

some_refusal : (r s : AskRefusal) → ◌≡◌ {A = Option AskRefusal} (Some r) (Some s) → r ≡ s
some_refusal r s e = cc

no_refusal : (r : AskRefusal) → ◌≡◌ {A = Option AskRefusal} (Some r) None → ⊥
no_refusal r e = cc

none_is : (r : AskRefusal) → ◌≡◌ {A = Option AskRefusal} None (Some r) → ⊥
none_is r e = cc

some_found : (n : ℕ) → ◌≡◌ {A = Option ℕ} (Some n) None → ⊥
some_found n e = cc

same_ends : (from to low high : ℤ) → ◌≡◌ {A = AskRefusal} (BadRange from to) (BadRange low high) → (low ≡ from) × (high ≡ to)
same_ends from to low high e = (cc, cc)

range_whole : (from to : ℤ) → range_refusal from to ≡ None → from ≤ℤ to
range_whole from to none = either (int_lt to from) refl none
  where
    either : (b : Bool) → int_lt to from ≡ b → (if b then Some (BadRange from to) else None) ≡ None → from ≤ℤ to
    either true reversed e = absurd (no_refusal (BadRange from to) e)
    either false whole e = grind (arith, ints, whole)

whole_range : (from to : ℤ) → from ≤ℤ to → range_refusal from to ≡ None
whole_range from to range = either (int_lt to from) refl
  where
    either : (b : Bool) → int_lt to from ≡ b → (if b then Some (BadRange from to) else None) ≡ None
    either true reversed = let less : to <ℤ from = grind (arith, ints, reversed) in absurd (omega (arith, ints, less, range))
    either false whole = refl

range_reversed : (from to low high : ℤ) → range_refusal from to ≡ Some (BadRange low high) → IsReversed from to low high
range_reversed from to low high refused = either (int_lt to from) refl refused
  where
    either : (b : Bool) → int_lt to from ≡ b → (if b then Some (BadRange from to) else None) ≡ Some (BadRange low high) → IsReversed from to low high
    either true reversed e =
        let less : to <ℤ from = grind (arith, ints, reversed) in
        let ends = same_ends from to low high (some_refusal (BadRange from to) (BadRange low high) e) in
        (less, ends.0, ends.1)
    either false whole e = absurd (none_is (BadRange low high) e)

reversed_range : (from to : ℤ) → to <ℤ from → range_refusal from to ≡ Some (BadRange from to)
reversed_range from to less = either (int_lt to from) refl
  where
    either : (b : Bool) → int_lt to from ≡ b → (if b then Some (BadRange from to) else None) ≡ Some (BadRange from to)
    either true reversed = refl
    either false whole = let le : from ≤ℤ to = grind (arith, ints, whole) in absurd (omega (arith, ints, less, le))

reversed_by_ends : (from to low high : ℤ) → IsReversed from to low high → range_refusal from to ≡ Some (BadRange low high)
reversed_by_ends from to low high is = rw (is.1, is.2) (reversed_range from to is.0)

-- a range is refused by its ends alone
range_alone : (from to : ℤ) (other : AskRefusal) → (BadRange from to ≡ other → ⊥) → range_refusal from to ≡ Some other → ⊥
range_alone from to other not refused = either (int_lt to from) refused
  where
    either : (b : Bool) → (if b then Some (BadRange from to) else None) ≡ Some other → ⊥
    either true e = not (some_refusal (BadRange from to) other e)
    either false e = none_is other e

-- ---- what was found, and the range

-- it isn't refused exactly where the name was found and the range is whole
pub whole_exactly : (found : Option ℕ) (unknown : AskRefusal) (from to : ℤ)
    → (option_map_or (λ n. range_refusal from to) found (Some unknown) ≡ None) ↔ ((found ≢ None) × (from ≤ℤ to))
whole_exactly None unknown from to = (λ e. absurd (no_refusal unknown e), λ h. absurd (h.0 refl))
whole_exactly (Some n) unknown from to = (λ e. (some_found n, range_whole from to e), λ h. whole_range from to h.1)

-- it is refused by a range exactly where the name was found and the range is that one, reversed
pub reversed_exactly : (found : Option ℕ) (unknown : AskRefusal) (from to low high : ℤ) → (unknown ≡ BadRange low high → ⊥)
    → (option_map_or (λ n. range_refusal from to) found (Some unknown) ≡ Some (BadRange low high)) ↔ ((found ≢ None) × IsReversed from to low high)
reversed_exactly None unknown from to low high not = (λ e. absurd (not (some_refusal unknown (BadRange low high) e)), λ h. absurd (h.0 refl))
reversed_exactly (Some n) unknown from to low high not =
    (λ e. (some_found n, range_reversed from to low high e), λ h. reversed_by_ends from to low high h.1)

parameter_is_no_range : (low high : ℤ) → ◌≡◌ {A = AskRefusal} UnknownParameter (BadRange low high) → ⊥
parameter_is_no_range low high e = cc

table_is_no_range : (name : List ℕ) (low high : ℤ) → ◌≡◌ {A = AskRefusal} (UnknownTable name) (BadRange low high) → ⊥
table_is_no_range name low high e = cc

same_table : (a b : List ℕ) → ◌≡◌ {A = AskRefusal} (UnknownTable a) (UnknownTable b) → b ≡ a
same_table a b e = cc

-- a request is refused by its parameter exactly where it wasn't found
pub parameter_exactly : (found : Option ℕ) (from to : ℤ)
    → (option_map_or (λ n. range_refusal from to) found (Some UnknownParameter) ≡ Some UnknownParameter) ↔ (found ≡ None)
parameter_exactly None from to = (λ e. refl, λ e. refl)
parameter_exactly (Some n) from to =
    (λ e. absurd (range_alone from to UnknownParameter (λ same. parameter_is_no_range from to (sym same)) e), λ none. absurd (some_found n none))

pub parameter_range_exactly : (found : Option ℕ) (from to low high : ℤ)
    → (option_map_or (λ n. range_refusal from to) found (Some UnknownParameter) ≡ Some (BadRange low high)) ↔ ((found ≢ None) × IsReversed from to low high)
parameter_range_exactly found from to low high = reversed_exactly found UnknownParameter from to low high (parameter_is_no_range low high)

-- a replay is refused by its table exactly where it wasn't found
pub table_exactly : (found : Option ℕ) (table name : List ℕ) (from to : ℤ)
    → (option_map_or (λ n. range_refusal from to) found (Some (UnknownTable table)) ≡ Some (UnknownTable name)) ↔ ((found ≡ None) × (name ≡ table))
table_exactly None table name from to =
    (λ e. (refl, same_table table name (some_refusal (UnknownTable table) (UnknownTable name) e)), λ h. ap (λ (t : List ℕ). Some (UnknownTable t)) (sym h.1))
table_exactly (Some n) table name from to =
    (λ e. absurd (range_alone from to (UnknownTable name) (λ same. table_is_no_range name from to (sym same)) e), λ h. absurd (some_found n h.0))

pub table_range_exactly : (found : Option ℕ) (table : List ℕ) (from to low high : ℤ)
    → (option_map_or (λ n. range_refusal from to) found (Some (UnknownTable table)) ≡ Some (BadRange low high)) ↔ ((found ≢ None) × IsReversed from to low high)
table_range_exactly found table from to low high = reversed_exactly found (UnknownTable table) from to low high (table_is_no_range table low high)
