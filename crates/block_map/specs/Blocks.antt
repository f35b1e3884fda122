-- Entries in blocks.
use Rattle.std.specs.Prelude.{◌≡◌, ◌≢◌, ℕ, ◌+◌, ◌-◌, ◌*◌, ◌<◌, ◌≤◌, List, [], ◌∷◌, length, take, drop, slice_index_or, vec_len, vec_capacity}
use Rattle.std.specs.Global.{Vec}
use Rattle.std.specs.List.{flat_map, All}
use Rattle.std.specs.declared.cmp.Ordering.{Ordering}
use Rattle.block_map.specs.declared.blocks.TheConstants.{MIN_FILL, CAPACITY}
use Rattle.block_map.specs.Rising.{IsAbove, IsBelow, IsRising}

-- the entries of blocks, one block after the other
abbrev pub entries_of : {K V : Type 0} → List (Vec (K × V)) → List (K × V)
entries_of blocks = flat_map (λ b. b.items) blocks

-- each block but the first has an entry
abbrev pub HaveFirsts : {K V : Type 0} → List (Vec (K × V)) → Type 0
HaveFirsts {K} {V} blocks =
    (i : ℕ) (d : Vec (K × V)) → 0 < i → i < length blocks → 0 < length (slice_index_or blocks i d).items

-- each block but the first has at least so many entries
abbrev pub AreFilled : {K V : Type 0} → ℕ → List (Vec (K × V)) → Type 0
AreFilled {K} {V} fill blocks =
    (i : ℕ) (d : Vec (K × V)) → 0 < i → i < length blocks → fill ≤ length (slice_index_or blocks i d).items

-- how many entries blocks have beyond so many each
abbrev pub excess_of : {K V : Type 0} → ℕ → List (Vec (K × V)) → ℕ
excess_of keep [] = 0
excess_of keep (b ∷ bs) = (length b.items - keep) + excess_of keep bs

-- spare blocks suffice: a split takes CAPACITY - keep of the entries that blocks have beyond `keep` each, and where
-- they have so many no more splits come than there are spare blocks
abbrev pub HasSpares : ℕ → ℕ → ℕ → Type 0
HasSpares keep excess spares = excess < (CAPACITY - keep) + spares * (CAPACITY - keep)

-- a key belongs in the block b
pub record IsBlockFor {K V : Type 0} (cmp : K → K → Ordering) (key : K) (blocks : List (Vec (K × V)))
    (b : ℕ) : Type 0 where
  pub within : b < length blocks
  pub above : IsAbove cmp key (entries_of (take b blocks))
  pub below : IsBelow cmp key (entries_of (drop (b + 1) blocks))

-- a block is no longer than its memory
abbrev pub IsSized : {K V : Type 0} → Vec (K × V) → Type 0
IsSized b = (length b.items ≤ CAPACITY) × (CAPACITY ≤ vec_capacity b)

-- blocks in the order of their keys, each but the first with an entry
pub record AreRisingBlocks {K V : Type 0} (cmp : K → K → Ordering) (blocks : List (Vec (K × V))) : Type 0 where
  pub some : 0 < length blocks
  pub rising : IsRising cmp (entries_of blocks)
  pub begun : HaveFirsts blocks
  pub sized : All IsSized blocks

-- blocks in the order of their keys, each but the first with at least MIN_FILL
pub record IsBlocks {K V : Type 0} (cmp : K → K → Ordering) (blocks : List (Vec (K × V))) : Type 0 where
  pub some : 0 < length blocks
  pub rising : IsRising cmp (entries_of blocks)
  pub filled : AreFilled MIN_FILL blocks
  pub sized : All IsSized blocks

-- blocks in order, but for one of them, which may lack an entry of MIN_FILL
pub record IsUnderfullAt {K V : Type 0} (cmp : K → K → Ordering) (blocks : List (Vec (K × V))) (b : ℕ) : Type 0 where
  pub some : 0 < length blocks
  pub rising : IsRising cmp (entries_of blocks)
  pub filled : (i : ℕ) (d : Vec (K × V)) → 0 < i → i < length blocks → i ≢ b →
      MIN_FILL ≤ length (slice_index_or blocks i d).items
  pub underfull : (d : Vec (K × V)) → 0 < b → MIN_FILL ≤ length (slice_index_or blocks b d).items + 1
  pub sized : All IsSized blocks

-- spare blocks are empty, with memory
abbrev pub AreReady : {K V : Type 0} → List (Vec (K × V)) → Type 0
AreReady spare = All (λ b. (b.items ≡ []) × (CAPACITY ≤ vec_capacity b)) spare

-- The key belongs in the block b, which has a place left. The entries are the old ones; each split of a full block
-- took a spare one, and CAPACITY - keep of the entries beyond `keep`.
pub record IsOpenFor {K V : Type 0} (cmp : K → K → Ordering) (key : K) (keep : ℕ)
    (old_blocks old_spare new_blocks new_spare : Vec (Vec (K × V))) (b : ℕ) : Type 0 where
  pub blocks : AreRisingBlocks cmp new_blocks.items
  pub place : IsBlockFor cmp key new_blocks.items b
  pub has_place : (d : Vec (K × V)) → vec_len (slice_index_or new_blocks.items b d) < CAPACITY
  pub same : entries_of new_blocks.items ≡ entries_of old_blocks.items
  pub filled : (fill : ℕ) → fill + keep ≤ CAPACITY → AreFilled fill old_blocks.items → AreFilled fill new_blocks.items
  pub excess : excess_of keep new_blocks.items + vec_len old_spare * (CAPACITY - keep)
      ≡ excess_of keep old_blocks.items + vec_len new_spare * (CAPACITY - keep)
  pub ready : AreReady new_spare.items
  pub fewer : vec_len new_spare ≤ vec_len old_spare
  pub moved : vec_len new_blocks + vec_len new_spare ≡ vec_len old_blocks + vec_len old_spare
  pub fits : vec_len new_blocks + vec_len new_spare ≤ vec_capacity new_blocks
  pub spare_capacity : vec_capacity new_spare ≡ vec_capacity old_spare
