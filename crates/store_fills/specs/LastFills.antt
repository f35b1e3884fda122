-- The last fill of each interval, at its place.
use Rattle.std.specs.Prelude.{◌≡◌, ℕ, ◌<◌, ◌-◌, List, length, min, slice_get, Option, Some, None, option_map, vec_len, vec_capacity}
use Rattle.std.specs.Global.{Vec}
use Rattle.std.specs.Arc.{arc_value}
use Rattle.std.specs.Map.{lookup}
use Rattle.std.specs.BTreeMap.{is_at}
use Rattle.block_map.specs.Index.{Listing}
use Rattle.intervals.specs.declared.interval.Interval.{Interval}
use Rattle.param_segments.specs.Rows.{SetRow}
use Rattle.intervals.specs.Interval.{interval_cmp}
use Rattle.store_fills.specs.Sound.{Filling, Fillings}
use Rattle.store_fills.specs.declared.last_fills.LastFill.{LastFill}

-- where the fill of an interval stands, and the fills
pub record PlacedFills : Type 0 where
  pub entries : List (Interval × ℕ)
  pub fills : List LastFill

-- the fills, and how many more may come without memory
pub record LastFillsView : Type 0 where
  pub filled : PlacedFills
  pub room : ℕ

-- places and fills
abbrev pub placed_fills : List (Interval × ℕ) → List LastFill → PlacedFills
placed_fills entries fills = record { entries = entries; fills = fills }

-- what contracts see of places and fills
abbrev pub last_fills_of : Listing Interval ℕ → Vec LastFill → LastFillsView
last_fills_of places fills = record {
  filled = placed_fills places.entries fills.items;
  room = min places.room (vec_capacity fills - vec_len fills);
}

-- a fill of this base and set
abbrev pub fill_over : ℕ → List SetRow → Filling (List SetRow)
fill_over base set = record { base = base; set = set }

-- what a last fill is
abbrev pub filling_of : LastFill → Filling (List SetRow)
filling_of fill = fill_over fill.base (arc_value fill.set)

-- the place of an interval
abbrev pub place_in : List (Interval × ℕ) → Interval → Option ℕ
place_in entries interval = lookup (is_at (interval_cmp interval)) entries

-- the fill at a place
abbrev pub filling_at : List LastFill → Option ℕ → Option (Filling (List SetRow))
filling_at fills None = None
filling_at fills (Some at) = option_map filling_of (slice_get fills at)

-- the last fill of each interval
abbrev pub fillings_in : PlacedFills → Fillings (List SetRow)
fillings_in filled = λ interval. filling_at filled.fills (place_in filled.entries interval)

-- each place is there, and no two intervals have one
pub record HaveOwnPlaces (entries : List (Interval × ℕ)) (fills : List LastFill) : Type 0 where
  pub there : (i : Interval) (at : ℕ) → place_in entries i ≡ Some at → at < length fills
  pub apart : (i j : Interval) (at : ℕ) → place_in entries i ≡ Some at → place_in entries j ≡ Some at → i ≡ j
