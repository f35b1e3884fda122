-- What contracts see of an index, and what is true of its fields.
use Rattle.std.specs.Prelude.{◌≡◌, ℕ, ◌+◌, ◌-◌, ◌*◌, ◌^◌, ◌<◌, ◌≤◌, List, [], Option, Some, None, length, vec_len, vec_capacity, Bool, true, false}
use Rattle.std.specs.Global.{Vec}
use Rattle.std.specs.Map.{lookup}
use Rattle.std.specs.BTreeMap.{is_at, insert_entry}
use Rattle.std.specs.declared.cmp.Ordering.{Ordering}
use Rattle.block_map.specs.declared.blocks.TheConstants.{CAPACITY}
use Rattle.block_map.specs.Blocks.{entries_of, excess_of, AreFilled, AreRisingBlocks, AreReady, HasSpares}

-- the entries in the order of their keys, and how many more go in without memory
pub record Listing (K V : Type 0) : Type 0 where
  pub entries : List (K × V)
  pub room : ℕ

-- the listing of an index, whose body is there once room was made
abbrev pub listing_of : {K V : Type 0} → Option (Listing K V) → Listing K V
listing_of None = record { entries = []; room = 0 }
listing_of (Some listing) = listing

-- Blocks in order, with spare ones for the splits that what was paid and the entries of the room bring. Whatever blocks have
-- beyond `keep` is paid, and no more, unless each entry pays; then so is all but what each block after the first must have.
-- Either list may come to hold all blocks.
pub record IsIndex {K V : Type 0} (cmp : K → K → Ordering) (keep : ℕ) (each : Bool) (blocks spare : Vec (Vec (K × V)))
    (len paid room : ℕ) : Type 0 where
  pub blocks_in_order : AreRisingBlocks cmp blocks.items
  pub ready : AreReady spare.items
  pub fits : vec_len blocks + vec_len spare ≤ vec_capacity blocks
  pub fits_spare : vec_len blocks + vec_len spare ≤ vec_capacity spare
  pub counted : len ≡ length (entries_of blocks.items)
  pub beyond : excess_of keep blocks.items ≤ paid
  pub beyond_alone : each ≡ false → paid ≡ excess_of keep blocks.items
  pub at_most : paid ≤ len
  pub spared : HasSpares keep (paid + room) (vec_len spare)
  pub filled : each ≡ true → AreFilled (CAPACITY - keep) blocks.items
  pub paid_all : each ≡ true → paid + vec_len blocks * (CAPACITY - keep) ≡ len + (CAPACITY - keep)
  pub small : len + room < 2 ^ 64

-- how many were counted of a key: none where it isn't there
abbrev pub tally : Option ℕ → ℕ
tally None = 0
tally (Some count) = count

-- how many were counted of a key among entries
abbrev pub tally_of : {K : Type 0} → (K → K → Ordering) → List (K × ℕ) → K → ℕ
tally_of cmp entries key = tally (lookup (is_at (cmp key)) entries)

-- one more entry, at its key, in the place of one of the room
abbrev pub IsAdded : {K V : Type 0} → (K → K → Ordering) → Listing K V → Listing K V → K → V → Type 0
IsAdded cmp old new key value = (new.entries ≡ insert_entry cmp old.entries key value) × (new.room + 1 ≡ old.room)
