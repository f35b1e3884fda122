-- Steps along the chains of partitions.
use Rattle.std.proofs.Common.{◌≡◌, ℕ, zero, suc, ◌+◌, ◌≤◌, List, [], ◌∷◌, length, Option, Some, None, Bool, true, false, cond, refl, ap, ◌∙◌, arith}
use Rattle.std.specs.Prelude.{slice_get}
use Rattle.std.specs.Map.Iter.{TakesFirst}
use Rattle.std.specs.Option.{is_some}
use Rattle.std.proofs.lemmas.List.Sums.{sum_by-cons}
use Rattle.partitions.specs.declared.partition.Partition.{Partition}
use Rattle.partitions.specs.Places.{is_noted_in, places_below, places_in, chain_steps}

-- those along one more
pub one_chain_more : (partition : Partition) (parts noted : List Partition) → chain_steps (partition ∷ parts) noted ≡ 1 + length (places_in partition noted) + chain_steps parts noted
one_chain_more partition parts noted = sum_by-cons (λ (p : Partition). 1 + length (places_in p noted)) partition parts

-- a partition has no more rows than were noted below a place
pub few_below : (n : ℕ) (partition : Partition) (noted : List Partition) → length (places_below n partition noted) ≤ n
few_below zero partition noted = omega arith
few_below (suc n) partition noted = by (is_noted_in partition (slice_get noted n)) (few_below n partition noted)
  where
    by : (b : Bool) → length (places_below n partition noted) ≤ n → length (cond b (n ∷ places_below n partition noted) (places_below n partition noted)) ≤ suc n
    by true later = omega (arith, later)
    by false later = omega (arith, later)

-- ---- a step of a chain

pub one_taken : (r : Option ℕ) (s t : List ℕ) → is_some r ≡ true → TakesFirst (λ place. place) s r t → length s ≡ length t + 1
one_taken None s t some took = absurd cc
one_taken (Some place) s t some took = omega (arith, ap length took)

pub none_taken : (r : Option ℕ) (s t : List ℕ) → is_some r ≡ false → TakesFirst (λ place. place) s r t → (length s ≡ 0) × (length t ≡ 0)
none_taken None s t none took = (ap length took.0, ap length took.1)
none_taken (Some place) s t none took = absurd cc

-- the steps of no partition, and those once the first one's chain is entered
pub no_chain : (parts noted : List Partition) → length parts ≡ 0 → chain_steps parts noted ≡ 0
no_chain [] noted none = refl
no_chain (partition ∷ parts) noted none = absurd (omega (arith, none))

pub chain_entered : (parts rest noted : List Partition) (partition : Partition) → parts ≡ partition ∷ rest → chain_steps parts noted ≡ (length (places_in partition noted) + chain_steps rest noted) + 1
chain_entered parts rest noted partition is = ap (λ (ps : List Partition). chain_steps ps noted) is ∙ one_chain_more partition rest noted ∙ omega arith
