-- The rows that a segment set stands for.
use Rattle.std.specs.Prelude.{ℕ, ℤ, ◌^◌, ◌<◌, ◌≤◌, Bool, nat_eq, List, length, map}
use Rattle.std.specs.List.{AllByRecursion, IsDistinct}
use Rattle.std.specs.List.Sorted.{IsStrictlySortedBy}
use Rattle.std.specs.Int.{w128}
use Rattle.std.specs.Int.RustNames.{FitsSigned}
use Rattle.std.specs.Ordering.{is_lt}
use Rattle.arch_types.specs.declared.key.Key.{Key}
use Rattle.arch_types.specs.Order.{key_cmp}
use Rattle.container_extract.specs.declared.values.RawValue.{RawValue}
use Rattle.segment_codec.specs.KeyColumn.{IsKey}

-- a row of a set: its key, and its raw values in the order of extraction
pub record SetRow : Type 0 where
  pub key : Key
  pub values : List RawValue

-- a row of a key and raw values
abbrev pub set_row : Key → List RawValue → SetRow
set_row key values = record { key = key; values = values }

-- the parameters of a row's values
abbrev pub row_parameters : SetRow → List ℕ
row_parameters row = map (λ v. v.parameter) row.values

-- the raw numbers of a row's values
abbrev pub row_raws : SetRow → List ℤ
row_raws row = map (λ v. v.raw) row.values

-- a row has a value, no two of one parameter, and its fields fit those of a segment
pub record IsSetRow (row : SetRow) : Type 0 where
  pub some : 1 ≤ length row.values
  pub few : length row.values < 2 ^ 16
  pub distinct : IsDistinct nat_eq (row_parameters row)
  pub parameters : AllByRecursion (λ parameter. parameter < 2 ^ 16) (row_parameters row)
  pub key : IsKey row.key
  pub raws : AllByRecursion (FitsSigned w128) (row_raws row)

-- rows in the order of their keys, no key twice
pub record AreSetRows (rows : List SetRow) : Type 0 where
  pub each : AllByRecursion IsSetRow rows
  pub rising : IsStrictlySortedBy key_cmp (map (λ row. row.key) rows)

-- a row's key is below another's
abbrev pub is_earlier : SetRow → SetRow → Bool
is_earlier a b = is_lt (key_cmp a.key b.key)
