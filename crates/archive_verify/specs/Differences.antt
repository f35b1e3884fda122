-- Where two lists of cells differ, by the raw numbers at each key.
use Rattle.std.specs.Prelude.{◌≡◌, ◌≢◌, ℕ, ◌≤◌, ◌<◌, ℤ, List, [], ◌∷◌, length, map, Option, Some, None, slice_get, slice_index_or}
use Rattle.std.specs.declared.cmp.Ordering.{Ordering}
use Rattle.std.specs.declared.cmp.Ordering.TheVariants.{Less, Equal, Greater}
use Rattle.arch_types.specs.declared.cell.Cell.{Cell}
use Rattle.arch_types.specs.declared.key.Key.{Key}
use Rattle.arch_types.specs.Order.{key_cmp}
use Rattle.archive_verify.specs.declared.differences.CellDifference.{CellDifference}

-- the key and the raw number of each cell
abbrev pub raws_of : List Cell → List (Key × ℤ)
raws_of cells = map (λ c. (c.key, c.raw)) cells

-- a raw number where a key compares as equal, else what is behind
abbrev pub raw_where : Ordering → ℤ → Option ℤ → Option ℤ
raw_where Less raw behind = behind
raw_where Equal raw behind = Some raw
raw_where Greater raw behind = behind

-- the raw number of the first cell at a key, where there is one
abbrev pub raw_at : Key → List Cell → Option ℤ
raw_at key [] = None
raw_at key (c ∷ cells) = raw_where (key_cmp key c.key) c.raw (raw_at key cells)

-- the least key at which two lists of cells have other raw numbers, and what each has there
pub record IsFirstDifference (stored replayed : List Cell) (d : CellDifference) : Type 0 where
  pub stored_is : d.stored ≡ raw_at d.key stored
  pub replayed_is : d.replayed ≡ raw_at d.key replayed
  pub differ : d.stored ≢ d.replayed
  pub before : (key : Key) → key_cmp key d.key ≡ Less → raw_at key stored ≡ raw_at key replayed

-- ---- cells at one place of two lists

-- two cells have one key and one raw number
abbrev pub IsSameRaw : Cell → Cell → Type 0
IsSameRaw s r = (s.key ≡ r.key) × (s.raw ≡ r.raw)

-- two lists begin alike with so many cells, and not with one more
pub record IsCommonLength (stored replayed : List Cell) (n : ℕ) : Type 0 where
  pub stored_has : n ≤ length stored
  pub replayed_has : n ≤ length replayed
  pub alike : (k : ℕ) (d : Cell) → k < n → IsSameRaw (slice_index_or stored k d) (slice_index_or replayed k d)
  pub then_other : (s r : Cell) → slice_get stored n ≡ Some s → slice_get replayed n ≡ Some r → IsSameRaw s r → ⊥

-- a cell that is stored alone
abbrev pub only_stored : Cell → CellDifference
only_stored c = record { key = c.key; stored = Some c.raw; replayed = None }

-- a cell that rows give alone
abbrev pub only_replayed : Cell → CellDifference
only_replayed c = record { key = c.key; stored = None; replayed = Some c.raw }

-- what two cells differ in, by the order of their keys
abbrev pub difference_by : Ordering → Cell → Cell → CellDifference
difference_by Less s r = only_stored s
difference_by Greater s r = only_replayed r
difference_by Equal s r = record { key = s.key; stored = Some s.raw; replayed = Some r.raw }

-- what two cells at one place differ in
abbrev pub difference_of_cells : Cell → Cell → CellDifference
difference_of_cells s r = difference_by (key_cmp s.key r.key) s r

-- what two lists differ in at a place, where one has a cell
abbrev pub difference_at : Option Cell → Option Cell → Option CellDifference
difference_at None None = None
difference_at (Some s) None = Some (only_stored s)
difference_at None (Some r) = Some (only_replayed r)
difference_at (Some s) (Some r) = Some (difference_of_cells s r)
