-- Where two segment sets differ.
use Rattle.std.specs.Prelude.{◌≡◌, ℕ, ◌<◌, List, length}
use Rattle.mdb_items.specs.Database.{Database}
use Rattle.param_segments.specs.Cells.{AreValuesOf, set_cells}
use Rattle.param_segments.specs.Rows.{AreSetRows, SetRow}
use Rattle.archive_verify.specs.declared.compared_sets.SetDifference.{SetDifference}
use Rattle.archive_verify.specs.Differences.{IsFirstDifference}

-- both are sets, with values of the database
pub record AreComparable (db : Database) (stored replayed : List SetRow) : Type 0 where
  pub stored_rows : AreSetRows stored
  pub stored_values : AreValuesOf db stored
  pub replayed_rows : AreSetRows replayed
  pub replayed_values : AreValuesOf db replayed

-- the least parameter of the database of which two sets have other cells, and the least key where
pub record IsFirstSetDifference (db : Database) (stored replayed : List SetRow) (d : SetDifference) : Type 0 where
  pub known : d.parameter < length db.parameters
  pub first : IsFirstDifference (set_cells db d.parameter stored) (set_cells db d.parameter replayed) d.cells
  pub before : (q : ℕ) → q < d.parameter → set_cells db q stored ≡ set_cells db q replayed
