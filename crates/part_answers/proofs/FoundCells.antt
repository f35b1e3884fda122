-- The cell of a raw value that was found.
use Rattle.std.proofs.Common.{◌≡◌, ◌∙◌, ℕ, List, Option, ap, sym}
use Rattle.std.specs.Prelude.{option_map}
use Rattle.arch_types.specs.declared.row.Row.{Row}
use Rattle.mdb_items.specs.Database.{Database}
use Rattle.container_extract.specs.declared.values.RawValue.{RawValue}
use Rattle.container_extract.specs.Extraction.{cell_at, cell_of, raw_extraction}
use Rattle.container_extract.specs.Values.{calibrated_value, raw_among}
use Rattle.container_extract.proofs.Extracting.{value_is_calibrated}

-- the cell of a row is that of the raw value, calibrated
pub cell_is : (db : Database) (q : ℕ) (row : Row) (values : List RawValue) (o : Option RawValue) → values ≡ raw_extraction db row.packet → o ≡ raw_among q values
    → option_map (cell_at row.key) (option_map (calibrated_value db) o) ≡ cell_of db q row
cell_is db q row values o all is =
    ap (λ (found : Option RawValue). option_map (cell_at row.key) (option_map (calibrated_value db) found)) (is ∙ ap (raw_among q) all)
    ∙ ap (option_map (cell_at row.key)) (sym (value_is_calibrated db row.packet q))
