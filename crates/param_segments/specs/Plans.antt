-- What the parts of a plan have.
use Rattle.std.specs.Prelude.{◌≡◌, ℕ, ℤ, List, [], ◌∷◌, ◌++◌, flat_map}
use Rattle.std.specs.List.{filter_map}
use Rattle.std.specs.Arc.{arc_value}
use Rattle.arch_types.specs.declared.row.Row.{Row}
use Rattle.mdb_items.specs.Database.{Database}
use Rattle.container_extract.specs.Extraction.{cell_of}
use Rattle.param_segments.specs.declared.plan.Part.{Part}
use Rattle.param_segments.specs.declared.plan.Part.TheVariants.{Set, Rows}
use Rattle.param_segments.specs.Cells.{AreValuesOf, set_cells}

-- the rows that a part has still to extract: none of a set
abbrev pub rows_of_part : Part → List Row
rows_of_part (Set interval set) = []
rows_of_part (Rows interval rows) = rows

-- the number of a part's interval
abbrev pub part_interval : Part → ℤ
part_interval (Set interval set) = interval.0
part_interval (Rows interval rows) = interval.0

-- the rows that parts have still to extract, one part after the other
abbrev pub rows_of_parts : List Part → List Row
rows_of_parts parts = flat_map rows_of_part parts

-- the values of a part's set are of a database
abbrev pub HasValuesOf : Database → Part → Type 0
HasValuesOf db (Set interval set) = AreValuesOf db (arc_value set)
HasValuesOf db (Rows interval rows) = Unit {0}

-- a part is over rows: they are its own, or its set has the cells of every parameter in them
abbrev pub IsPartOver : Database → Part → List Row → Type 0
IsPartOver db (Set interval set) rows = (q : ℕ) → set_cells db q (arc_value set) ≡ filter_map (cell_of db q) rows
IsPartOver db (Rows interval held) rows = held ≡ rows

-- parts are over rows: the first over some, and the others over those behind
abbrev pub ArePartsOver : Database → List Part → List Row → Type 0
ArePartsOver db [] rows = rows ≡ []
ArePartsOver db (part ∷ parts) rows =
    (first : List Row) × (behind : List Row) × (rows ≡ first ++ behind) × IsPartOver db part first × ArePartsOver db parts behind
