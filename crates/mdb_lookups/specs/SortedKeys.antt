-- The keys of items in their order.
use Rattle.std.specs.Prelude.{◌≡◌, ℕ, List, ◌<◌, length, Contains, get_or}
use Rattle.std.specs.List.{All}
use Rattle.std.specs.List.Sorted.{IsSorted}
use Rattle.std.specs.Ordering.{nat_cmp, ordering_then}
use Rattle.std.specs.declared.cmp.Ordering.{Ordering}

-- keys with the numbers of their items, sorted by the keys and then by the numbers; `none` stands for the key of no item
pub record AreKeysSorted {K : Type 0} (cmp : K → K → Ordering) (none : K) (keys : List K) (numbered : List (K × ℕ)) : Type 0 where
  pub sorted : IsSorted (λ a b. ordering_then (cmp a.0 b.0) (nat_cmp a.1 b.1)) numbered
  pub known : All (λ p. (p.1 < length keys) × (p.0 ≡ get_or keys p.1 none)) numbered
  pub each : (n : ℕ) → n < length keys → Contains numbered (get_or keys n none, n)
