-- Items in blocks.
use Rattle.std.specs.Prelude.{ℕ, ℤ, ◌+◌, ◌<◌, List, length, take, drop}
use Rattle.std.specs.List.{flat_map, AllByRecursion}
use Rattle.shared_items.specs.Order.{AllAbove, AllBelow, RiseBy}

-- the items of blocks, one block after the other
abbrev pub items_of_blocks : {X : Type 0} → List (List X) → List X
items_of_blocks blocks = flat_map (λ block. block) blocks

-- each block has an item
abbrev pub HaveItems : {X : Type 0} → List (List X) → Type 0
HaveItems blocks = AllByRecursion (λ block. 0 < length block) blocks

-- each block has an item, and the numbers of all rise
abbrev pub AreBlocks : {X : Type 0} → (X → ℤ) → List (List X) → Type 0
AreBlocks number_of blocks = HaveItems blocks × RiseBy number_of (items_of_blocks blocks)

-- a number belongs in this block
pub record IsBlockFor {X : Type 0} (number_of : X → ℤ) (number : ℤ) (blocks : List (List X)) (place : ℕ) : Type 0 where
  pub within : place < length blocks
  pub before : AllBelow number_of number (items_of_blocks (take place blocks))
  pub behind : AllAbove number_of number (items_of_blocks (drop (place + 1) blocks))
