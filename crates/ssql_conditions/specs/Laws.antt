-- What the definitions come to.
use Rattle.std.specs.Prelude.{◌≡◌, true}
use Rattle.text_forms.specs.ClockTime.{IsClockTime}
use Rattle.arch_types.specs.declared.row.Row.{Row}
use Rattle.partitions.specs.Bounds.{IsInBounds}
use Rattle.ssql_conditions.specs.Formulas.{Formula}
use Rattle.ssql_conditions.specs.Truth.{is_true}
use Rattle.ssql_conditions.specs.ConditionBounds.{bounds_of}

-- a row that has its generation time in the clock's range and meets a condition lies in the condition's bounds
abbrev pub BoundsHold : Type 0
BoundsHold = (formula : Formula) (row : Row) → IsClockTime row.key.time → is_true row formula ≡ true → IsInBounds (bounds_of formula) row.key.time row.pname
