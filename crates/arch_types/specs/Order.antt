-- The order of keys, and lists put in an order.
use Rattle.std.specs.Prelude.{List, [], ◌∷◌, Bool, fold, if◌then◌else◌}
use Rattle.std.specs.Ordering.{nat_cmp, int_cmp, ordering_then, is_lt}
use Rattle.std.specs.declared.cmp.Ordering.{Ordering}
use Rattle.arch_types.specs.declared.row.Row.{Row}
use Rattle.arch_types.specs.declared.key.Key.{Key}

-- keys are ordered by time, and then by number
abbrev pub key_cmp : Key → Key → Ordering
key_cmp a b = ordering_then (int_cmp a.time b.time) (nat_cmp a.seq b.seq)

-- whether a row's key is below another's
abbrev pub is_before : Row → Row → Bool
is_before a b = is_lt (key_cmp a.key b.key)

-- an item put before the first that is greater
abbrev pub place_by : {X : Type 0} → (X → X → Bool) → List X → X → List X
place_by lt [] x = x ∷ []
place_by lt (y ∷ ys) x = if lt x y then x ∷ y ∷ ys else y ∷ place_by lt ys x

-- the items in their order, and those that tie as they stood
abbrev pub order_by : {X : Type 0} → (X → X → Bool) → List X → List X
order_by lt xs = fold (place_by lt) [] xs
