-- Entries, a key and a value each, in the order of their keys.
use Rattle.std.specs.Prelude.{◌≡◌, ℕ, ◌<◌, ◌≤◌, List, [], ◌∷◌, length, take, drop, slice_index_or, Result, Ok, Err}
use Rattle.std.specs.List.{AllByRecursion}
use Rattle.std.specs.declared.cmp.Ordering.{Ordering}
use Rattle.std.specs.declared.cmp.Ordering.TheVariants.{Less, Equal, Greater}

-- a key is above the keys of entries
abbrev pub IsAbove : {K V : Type 0} → (K → K → Ordering) → K → List (K × V) → Type 0
IsAbove cmp key entries = AllByRecursion (λ e. cmp key e.0 ≡ Greater) entries

-- a key is below the keys of entries
abbrev pub IsBelow : {K V : Type 0} → (K → K → Ordering) → K → List (K × V) → Type 0
IsBelow cmp key entries = AllByRecursion (λ e. cmp key e.0 ≡ Less) entries

-- each key is below those after it
abbrev pub IsRising : {K V : Type 0} → (K → K → Ordering) → List (K × V) → Type 0
IsRising cmp [] = Unit {0}
IsRising cmp (e ∷ es) = IsBelow cmp e.0 es × IsRising cmp es

-- where a key stands among entries, or belongs
abbrev pub IsPlaceIn : {K V : Type 0} → (K → K → Ordering) → K → List (K × V) → Result ℕ ℕ → Type 0
IsPlaceIn {K} {V} cmp key entries (Ok i) = (i < length entries) × IsAbove cmp key (take i entries) × ((d : K × V) → cmp key (slice_index_or entries i d).0 ≡ Equal)
IsPlaceIn cmp key entries (Err i) = (i ≤ length entries) × IsAbove cmp key (take i entries) × IsBelow cmp key (drop i entries)
