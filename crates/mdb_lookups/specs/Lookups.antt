-- What finds the items of a database, and the calibration of a parameter.
use Rattle.std.specs.Prelude.{ℕ, List, map, slice_get, Option, Some, None}
use Rattle.mdb_items.specs.declared.calibration.Calibration.{Calibration}
use Rattle.mdb_items.specs.declared.container.Container.{Container}
use Rattle.mdb_items.specs.declared.parameter.Parameter.{Parameter}
use Rattle.mdb_items.specs.Database.{Database}
use Rattle.mdb_lookups.specs.declared.lookups.Lookups.{Lookups}
use Rattle.mdb_lookups.specs.Children.{AreChildren}
use Rattle.mdb_lookups.specs.LabelOrder.{AreLabelOrders}
use Rattle.mdb_lookups.specs.NameOrder.{IsNameOrder}
use Rattle.mdb_lookups.specs.NumberedChildren.{AreAllByNumber}
use Rattle.mdb_lookups.specs.PlacedConditions.{ArePlacedConditions}

-- the numbers in the order of the items' names; beside the containers their children, their conditions, placed, and the
-- children by number; and the raw numbers of labels in their order
pub record AreLookups (parameters : List Parameter) (calibrations : List Calibration) (containers : List Container) (l : Lookups) : Type 0 where
  pub parameter_order : IsNameOrder (map (λ p. p.name) parameters) l.parameter_order.items
  pub container_order : IsNameOrder (map (λ c. c.name) containers) l.container_order.items
  pub children : AreChildren containers l.children.items
  pub placed_conditions : ArePlacedConditions containers l.placed_conditions.items
  pub numbered_children : AreAllByNumber l.placed_conditions.items l.children.items l.numbered_children.items
  pub label_orders : AreLabelOrders calibrations l.label_orders.items

-- the calibration with a number, where there is a number
abbrev pub calibration_numbered : List Calibration → Option ℕ → Option Calibration
calibration_numbered calibrations None = None
calibration_numbered calibrations (Some n) = slice_get calibrations n

-- the calibration of a parameter, where there is a parameter and it has one
abbrev pub calibration_of_parameter : List Calibration → Option Parameter → Option Calibration
calibration_of_parameter calibrations None = None
calibration_of_parameter calibrations (Some p) = calibration_numbered calibrations p.calibration

-- the calibration of the parameter with a number, where it has one
abbrev pub calibration_of : Database → ℕ → Option Calibration
calibration_of d n = calibration_of_parameter d.calibrations (slice_get d.parameters n)
