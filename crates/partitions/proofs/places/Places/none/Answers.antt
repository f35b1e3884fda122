use Rattle.partitions.proofs.places.Places.none.Goals as goal

pub invariant_of-result : goal.invariant_of-result
invariant_of-result c = record { chained = λ i link is. cc; within = tt }
