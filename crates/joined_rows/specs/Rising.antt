-- Rows whose keys rise.
use Rattle.std.specs.Prelude.{List, Bool}
use Rattle.std.specs.List.Sorted.{IsStrictlySortedBy}
use Rattle.std.specs.Ordering.{eq_by_cmp}
use Rattle.arch_types.specs.declared.row.Row.{Row}
use Rattle.arch_types.specs.Order.{key_cmp}

-- each row's key is below those of the rows after it
abbrev pub HaveRisingKeys : List Row → Type 0
HaveRisingKeys rows = IsStrictlySortedBy (λ (a b : Row). key_cmp a.key b.key) rows

-- whether two rows have one key
abbrev pub has_key_of : Row → Row → Bool
has_key_of a b = eq_by_cmp (λ (x y : Row). key_cmp x.key y.key) a b
