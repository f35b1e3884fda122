-- The rows of a range of times of a column.
use Rattle.std.proofs.Common.{◌≡◌, ◌∙◌, ℕ, List, Option, Some, None, ap}
use Rattle.std.specs.Prelude.{option_map}
use Rattle.octet_fields.specs.Reading.{◌>>=◌}
use Rattle.octet_fields.proofs.Exact.{bind_some, some_is}
use Rattle.segment_codec.specs.KeyColumn.{keys_at}
use Rattle.segment_codec.specs.OneColumn.{column_at_place, column_of_parts, columns_end}
use Rattle.segment_codec.specs.RawColumn.{raw_column_at}
use Rattle.segment_codec.specs.declared.one_column.ParameterColumn.{ParameterColumn}

-- where a column was read at a place, its keys were, and its values behind the columns before it
pub read_parts : (rows place : ℕ) (octets : List ℕ) (column : ParameterColumn) → column_at_place rows (Some place) octets ≡ Some (Some column) →
    (a : List ℕ) × (keys_at rows octets ≡ Some (column.keys, a)) × (b : List ℕ) × (columns_end place rows a ≡ Some b) × (d : List ℕ) × (raw_column_at rows b ≡ Some (column.values, d))
read_parts rows place octets column e =
    let p = bind_some (keys_at rows octets) (λ keys. columns_end place rows keys.1 >>= λ rest. raw_column_at rows rest >>= λ values. Some (Some (column_of_parts keys.0 values.0))) (Some column) e in
    let q = bind_some (columns_end place rows p.0.1) (λ rest. raw_column_at rows rest >>= λ values. Some (Some (column_of_parts p.0.0 values.0))) (Some column) p.2 in
    let r = bind_some (raw_column_at rows q.0) (λ values. Some (Some (column_of_parts p.0.0 values.0))) (Some column) q.2 in
    let made = column_of_parts p.0.0 r.0.0 in
    let same : made ≡ column = some_is made column (some_is (Some made) (Some column) r.2) in (
      p.0.1,
      p.1 ∙ ap (λ (c : ParameterColumn). Some (c.keys, p.0.1)) same,
      q.0,
      q.1,
      r.0.1,
      r.1 ∙ ap (λ (c : ParameterColumn). Some (c.values, r.0.1)) same,
    )

-- what was found of a column at a place is what was asked, where the column there is one
pub found_rows : (asked : ParameterColumn → ParameterColumn) (rows place : ℕ) (octets : List ℕ) (column : Option ParameterColumn) (found : ParameterColumn) → column_at_place rows (Some place) octets ≡ Some column →
    ((c : ParameterColumn) → column_at_place rows (Some place) octets ≡ Some (Some c) → found ≡ asked c) → Some found ≡ option_map asked column
found_rows asked rows place octets None found e is =
    let p = bind_some (keys_at rows octets) (λ keys. columns_end place rows keys.1 >>= λ rest. raw_column_at rows rest >>= λ values. Some (Some (column_of_parts keys.0 values.0))) None e in
    let q = bind_some (columns_end place rows p.0.1) (λ rest. raw_column_at rows rest >>= λ values. Some (Some (column_of_parts p.0.0 values.0))) None p.2 in
    let r = bind_some (raw_column_at rows q.0) (λ values. Some (Some (column_of_parts p.0.0 values.0))) None q.2 in
    let made = column_of_parts p.0.0 r.0.0 in
    absurd (let never : ◌≡◌ {A = Option ParameterColumn} (Some made) None = some_is (Some made) None r.2 in cc)
found_rows asked rows place octets (Some c) found e is = ap (λ (x : ParameterColumn). Some x) (is c e)
