-- What a checked mission database keeps.
use Rattle.std.specs.Prelude.{map}
use Rattle.mdb_model.specs.declared.mdb.Inner.TheInside.{Inside}
use Rattle.mdb_lookups.specs.Children.{AreChildren}
use Rattle.mdb_items.specs.Database.{Database, IsDatabase}
use Rattle.mdb_lookups.specs.LabelOrder.{AreLabelOrders}
use Rattle.mdb_lookups.specs.NameOrder.{IsNameOrder}
use Rattle.mdb_lookups.specs.NumberedChildren.{AreAllByNumber}
use Rattle.mdb_lookups.specs.PlacedConditions.{ArePlacedConditions}

-- the database of the fields
abbrev pub database_inside : Inside → Database
database_inside a = record { parameters = a.parameters.items; calibrations = a.calibrations.items; containers = a.containers.items }

-- the rules and the limits; the numbers in the order of the items' names; beside the containers their children, their
-- conditions, placed, and the children by number; and the raw numbers of labels in their order
pub record MdbInvariant (a : Inside) : Type 0 where
  pub kept : IsDatabase (database_inside a)
  pub parameter_order : IsNameOrder (map (λ p. p.name) a.parameters.items) a.parameter_order.items
  pub container_order : IsNameOrder (map (λ c. c.name) a.containers.items) a.container_order.items
  pub children : AreChildren a.containers.items a.children.items
  pub placed_conditions : ArePlacedConditions a.containers.items a.placed_conditions.items
  pub numbered_children : AreAllByNumber a.placed_conditions.items a.children.items a.numbered_children.items
  pub label_orders : AreLabelOrders a.calibrations.items a.label_orders.items
