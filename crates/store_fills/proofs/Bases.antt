-- The bases of fills, by what is noted of fills.
use Rattle.std.proofs.Common.{◌≡◌, ℕ, List, [], Bool, true, false, Some, option_map, refl, ap}
use Rattle.std.specs.Prelude.{if◌then◌else◌}
use Rattle.intervals.specs.declared.interval.Interval.{Interval}
use Rattle.param_segments.specs.Rows.{SetRow}
use Rattle.history_items.specs.declared.fills.Fill.TheVariants.{Done}
use Rattle.history_items.specs.Fills.{base_after, is_same}
use Rattle.store_fills.specs.LastFills.{PlacedFills, fill_over, filling_at, fillings_in, place_in}
use Rattle.store_fills.specs.Sound.{Filling, Fillings, base_of_filling, no_fillings, with_filling}

-- the base of an interval after a fill came is that of the fill list after its end was noted
pub base_with : (fillings : Fillings (List SetRow)) (i j : Interval) (base : ℕ) (set : List SetRow) → base_of_filling (with_filling fillings i (fill_over base set)) j ≡ base_after j (base_of_filling fillings j) (Done i base)
base_with fillings i j base set = go (is_same j i)
  where
    go : (b : Bool) → option_map (λ (f : Filling (List SetRow)). f.base) (if b then Some (fill_over base set) else fillings j) ≡ (if b then Some base else option_map (λ (f : Filling (List SetRow)). f.base) (fillings j))
    go true = refl
    go false = refl

-- without a place there is no fill
pub none_filled : (filled : PlacedFills) → filled.entries ≡ [] → fillings_in filled ≡ no_fillings
none_filled filled none = ap (λ (entries : List (Interval × ℕ)). λ (i : Interval). filling_at filled.fills (place_in entries i)) none
