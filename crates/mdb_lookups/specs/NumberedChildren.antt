-- The children of a container by the number that their conditions begin by asking for.
use Rattle.std.specs.Prelude.{◌≡◌, ◌==◌, ◌&&◌, ℕ, ℤ, Bool, true, false, List, [], get_or, length, map, slice_get, Option, Some, None, if◌then◌else◌}
use Rattle.std.specs.Global.{Vec}
use Rattle.std.specs.BTreeMap.{BTreeMap, get}
use Rattle.std.specs.List.{filter}
use Rattle.std.specs.Ordering.{int_cmp, int_eq}
use Rattle.mdb_items.specs.declared.container.Comparison.{Comparison}
use Rattle.mdb_items.specs.declared.container.Container.{Container}
use Rattle.mdb_items.specs.declared.container.Operator.{Operator}
use Rattle.mdb_items.specs.declared.container.Operator.TheVariants.{Equal, NotEqual, Less, LessOrEqual, Greater, GreaterOrEqual}
use Rattle.mdb_items.specs.Paths.{paths_of}
use Rattle.mdb_lookups.specs.PlacedConditions.{placed_below}
use Rattle.mdb_lookups.specs.declared.numbered_children.NumberedChildren.{NumberedChildren}

-- the operator asks for one number
abbrev pub asks_one : Operator → Bool
asks_one Equal = true
asks_one NotEqual = false
asks_one Less = false
asks_one LessOrEqual = false
asks_one Greater = false
asks_one GreaterOrEqual = false

-- the number that a comparison asks for at a place, where it does
abbrev pub number_asked : ℕ → Option (Comparison × ℕ) → Option ℤ
number_asked place None = None
number_asked place (Some x) = if asks_one x.0.operator && (x.1 == place) then Some x.0.number else None

-- the number that the condition of the container with a number begins by asking for at a place, where it does
abbrev pub number_at : List (List (Comparison × ℕ)) → ℕ → ℕ → Option ℤ
number_at conditions place n = number_asked place (slice_get (get_or conditions n []) 0)

-- a number is asked for, and it's this one
abbrev pub is_number : ℤ → Option ℤ → Bool
is_number x None = false
is_number x (Some number) = int_eq number x

-- no number is asked for
abbrev pub is_other : Option ℤ → Bool
is_other None = true
is_other (Some number) = false

-- the items of a list, where there is one
abbrev pub listed : Option (Vec ℕ) → List ℕ
listed None = []
listed (Some children) = children.items

-- the children of a number
abbrev pub children_at : BTreeMap ℤ (Vec ℕ) → ℤ → List ℕ
children_at tree number = listed (get int_cmp tree number)

-- children by the numbers that their conditions begin by asking for at a place, and the others
pub record AreByNumber (conditions : List (List (Comparison × ℕ))) (children : List ℕ) (c : NumberedChildren) : Type 0 where
  pub by_number : (x : ℤ) → children_at c.by_number x ≡ filter (λ child. is_number x (number_at conditions c.place child)) children
  pub others : c.others.items ≡ filter (λ child. is_other (number_at conditions c.place child)) children

-- the same for each of some lists of children
pub record AreAllByNumber (conditions : List (List (Comparison × ℕ))) (lists : List (List ℕ)) (all : List NumberedChildren) : Type 0 where
  pub count : length all ≡ length lists
  pub each : (n : ℕ) (c : NumberedChildren) → slice_get all n ≡ Some c
      → (children : List ℕ) → slice_get lists n ≡ Some children → AreByNumber conditions children c

-- the conditions of containers, placed
abbrev pub conditions_of : List Container → List (List (Comparison × ℕ))
conditions_of containers = map (placed_below (paths_of containers)) containers
