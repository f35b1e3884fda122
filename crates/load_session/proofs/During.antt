-- What power lost during a session leaves.
use Rattle.std.proofs.Common.{◌≡◌, List, [], ◌∷◌, arith}
use Rattle.std.specs.Prelude.{Contains}
use Rattle.history_items.specs.declared.items.Item.{Item}

-- nothing is in hand where no fault holds rows
pub none_in_hand : (in_hand : List (List Item)) (items : List Item) → in_hand ≡ [] → Contains in_hand items → ⊥
none_in_hand [] items none there = omega (arith, there.1)
none_in_hand (held ∷ others) items none there = absurd cc
