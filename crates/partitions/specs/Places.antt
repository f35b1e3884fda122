-- The places of the rows that were noted: how many were noted before each. Not their positions in a history.
use Rattle.std.specs.Prelude.{ℕ, zero, suc, ◌+◌, List, [], ◌∷◌, length, filter, slice_get, Bool, false, Option, Some, None}
use Rattle.std.specs.List.{sum_by}
use Rattle.std.specs.Ordering.{is_eq}
use Rattle.partitions.specs.declared.partition.Partition.{Partition}
use Rattle.partitions.specs.Partition.{partition_cmp}

-- the numbers below one, the greatest first
abbrev pub falling : ℕ → List ℕ
falling zero = []
falling (suc n) = n ∷ falling n

-- whether a row was noted, and in this partition
abbrev pub is_noted_in : Partition → Option Partition → Bool
is_noted_in partition None = false
is_noted_in partition (Some noted) = is_eq (partition_cmp partition noted)

-- the places below one at which rows were noted in a partition, the last first
abbrev pub places_below : ℕ → Partition → List Partition → List ℕ
places_below n partition noted = filter (λ place. is_noted_in partition (slice_get noted place)) (falling n)

-- the places of the rows that were noted in a partition, the last first
abbrev pub places_in : Partition → List Partition → List ℕ
places_in partition noted = places_below (length noted) partition noted

-- the last place below one at which a row was noted in a partition, if there is one
abbrev pub last_place_below : ℕ → Partition → List Partition → Option ℕ
last_place_below n partition noted = slice_get (places_below n partition noted) 0

-- the steps along the chains of some partitions: one for each of them, and one for each of their rows
abbrev pub chain_steps : List Partition → List Partition → ℕ
chain_steps parts noted = sum_by (λ partition. 1 + length (places_in partition noted)) parts
