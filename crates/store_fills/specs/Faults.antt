-- What a fill list tells of faults, and of fills that are there.
use Rattle.std.specs.Prelude.{Bool, List, filter, is_some, IsSomeAnd, ⊤}
use Rattle.history_items.specs.declared.fills.Fill.{Fill}
use Rattle.history_items.specs.Noted.{fault_of_fill, noted_of}

-- whether an item is a fault
abbrev pub is_fault : Fill → Bool
is_fault item = is_some (fault_of_fill item)

-- the faults of a fill list, in their order
abbrev pub faults_in : List Fill → List Fill
faults_in fills = filter is_fault fills

-- a fill that is there
abbrev pub IsDone : Fill → Type 0
IsDone item = IsSomeAnd (noted_of item).done (λ fill. ⊤)
