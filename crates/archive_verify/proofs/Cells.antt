-- The cells of sets: their keys rise, their raw numbers tell them, and none is of a parameter that the database lacks.
use Rattle.std.proofs.Common.{◌≡◌, ◌∙◌, ℕ, ◌≤◌, ℤ, List, [], ◌∷◌, length, map, Bool, true, false, cond, Option, Some, None, refl, sym, ap, subst, arith}
use Rattle.std.specs.Prelude.{◌==◌, option_map}
use Rattle.std.specs.List.{AllByRecursion, cons_option, filter_map}
use Rattle.std.specs.List.Sorted.{IsStrictlySortedBy}
use Rattle.std.proofs.lemmas.Bool.{eqb-true}
use Rattle.std.specs.declared.cmp.Ordering.TheVariants.{Less}
use Rattle.arch_types.specs.declared.cell.Cell.{Cell}
use Rattle.arch_types.specs.declared.key.Key.{Key}
use Rattle.arch_types.specs.Order.{key_cmp}
use Rattle.mdb_items.specs.Database.{Database}
use Rattle.container_extract.specs.declared.values.RawValue.{RawValue}
use Rattle.container_extract.specs.Values.{IsRawValue, raw_among}
use Rattle.param_segments.specs.declared.raw_cell.RawCell.{RawCell}
use Rattle.param_segments.specs.Cells.{AreValuesOf, raw_cell_of, set_cell_at, set_cells, with_eng}
use Rattle.param_segments.specs.Rows.{SetRow}
use Rattle.param_segments.proofs.Calibrated.{calibrated_are}
use Rattle.archive_verify.specs.Differences.{raws_of}
use Rattle.archive_verify.proofs.FirstDifferences.{AreRisingCells, IsBelowAll}

-- ---- raw numbers tell cells

-- the cell of a parameter with a key and a raw number
abbrev cell_by : Database → ℕ → Key × ℤ → Cell
cell_by db q p = with_eng db q (record { key = p.0; raw = p.1 })

by_raws : (db : Database) (q : ℕ) (cells : List RawCell) → map (with_eng db q) cells ≡ map (cell_by db q) (raws_of (map (with_eng db q) cells))
by_raws db q [] = refl
by_raws db q (c ∷ cells) = ap (λ (l : List Cell). with_eng db q c ∷ l) (by_raws db q cells)

set_by_raws : (db : Database) (q : ℕ) (rows : List SetRow) → AreValuesOf db rows → set_cells db q rows ≡ map (cell_by db q) (raws_of (set_cells db q rows))
set_by_raws db q rows are = subst (λ (cells : List Cell). cells ≡ map (cell_by db q) (raws_of cells)) (calibrated_are db q rows are) (by_raws db q (filter_map (raw_cell_of q) rows))

-- two sets whose cells have the same raw numbers have the same cells
pub same_cells : (db : Database) (q : ℕ) (a b : List SetRow) → AreValuesOf db a → AreValuesOf db b → raws_of (set_cells db q a) ≡ raws_of (set_cells db q b) → set_cells db q a ≡ set_cells db q b
same_cells db q a b in_a in_b same = set_by_raws db q a in_a ∙ ap (map (cell_by db q)) same ∙ sym (set_by_raws db q b in_b)

-- ---- keys rise

key_kept : (db : Database) (q : ℕ) (row : SetRow) (o : Option RawValue) (cells : List Cell) → IsBelowAll row.key cells → AreRisingCells cells → AreRisingCells (cons_option (option_map (set_cell_at db row.key) o) cells)
key_kept db q row None cells below up = up
key_kept db q row (Some v) cells below up = (below, up)

below_kept : (db : Database) (q : ℕ) (key : Key) (row : SetRow) (o : Option RawValue) (cells : List Cell) → key_cmp key row.key ≡ Less → IsBelowAll key cells → IsBelowAll key (cons_option (option_map (set_cell_at db row.key) o) cells)
below_kept db q key row None cells less all = all
below_kept db q key row (Some v) cells less all = (less, all)

below_cells : (db : Database) (q : ℕ) (key : Key) (rows : List SetRow) → AllByRecursion (λ k. key_cmp key k ≡ Less) (map (λ row. row.key) rows) → IsBelowAll key (set_cells db q rows)
below_cells db q key [] all = tt
below_cells db q key (row ∷ rows) all = below_kept db q key row (raw_among q row.values) (set_cells db q rows) all.0 (below_cells db q key rows all.1)

pub cells_rise : (db : Database) (q : ℕ) (rows : List SetRow) → IsStrictlySortedBy key_cmp (map (λ row. row.key) rows) → AreRisingCells (set_cells db q rows)
unfolding IsStrictlySortedBy
cells_rise db q [] up = tt
cells_rise db q (row ∷ rows) up = key_kept db q row (raw_among q row.values) (set_cells db q rows) (below_cells db q row.key rows up.0) (cells_rise db q rows up.1)

-- ---- other parameters

none_among : (db : Database) (q : ℕ) (values : List RawValue) → length db.parameters ≤ q → AllByRecursion (IsRawValue db) values → raw_among q values ≡ None
none_among db q [] most all = refl
none_among db q (v ∷ values) most all = go (v.parameter == q) refl (none_among db q values most all.1)
  where
    go : (b : Bool) → (v.parameter == q) ≡ b → raw_among q values ≡ None → cond (v.parameter == q) (Some v) (raw_among q values) ≡ None
    go true e later = absurd (let same = eqb-true v.parameter q e in let known = all.0.known in omega (arith, same, known, most))
    go false e later = ap (λ (b : Bool). cond b (Some v) (raw_among q values)) e ∙ later

-- a set of a database has no cells of a parameter that the database lacks
pub no_cells : (db : Database) (q : ℕ) (rows : List SetRow) → length db.parameters ≤ q → AreValuesOf db rows → set_cells db q rows ≡ []
no_cells db q [] most all = refl
no_cells db q (row ∷ rows) most all =
    ap (λ (o : Option RawValue). cons_option (option_map (set_cell_at db row.key) o) (set_cells db q rows)) (none_among db q row.values most all.0) ∙ no_cells db q rows most all.1
