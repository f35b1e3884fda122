-- The cells of an interval that nothing changed at or after a front.
use Rattle.std.proofs.Common.{◌≡◌, ℕ, List, [], Bool, true, false, Some, refl, sym, ◌∙◌, ap}
use Rattle.std.specs.List.{filter_map, list_any}
use Rattle.intervals.specs.declared.interval.Interval.{Interval}
use Rattle.history_items.specs.declared.items.Item.{Item}
use Rattle.history_items.specs.Items.{is_row_of_interval, prefix}
use Rattle.history_items.specs.Databases.{database_in}
use Rattle.history_items.specs.Fills.{base_in}
use Rattle.history_items.specs.Late.{IsLate}
use Rattle.history_items.proofs.Late.{no_row, some_row}
use Rattle.archive_core.specs.Cells.{values_of_interval}
use Rattle.container_extract.specs.Extraction.{cell_of}
use Rattle.interval_fills.specs.Intervals.{rows_of_interval, NoneSince}
use Rattle.interval_fills.specs.Steps.{MachineState}
use Rattle.interval_fills.proofs.Growing.{filled_stay, none_since}
use Rattle.interval_fills.proofs.Intervals.{database_below, no_row_since, rows_below}
use Rattle.mdb_items.specs.Database.{Database}

pub of_rows : (first : Database) (q e : ℕ) (i : Interval) (history : List Item) → values_of_interval first q e i history ≡ filter_map (cell_of (database_in first history) q) (rows_of_interval e i history)
of_rows first q e i history = refl

pub below : (first : Database) (q e : ℕ) (i : Interval) (front : ℕ) (history : List Item) → NoneSince e i front history → values_of_interval first q e i history ≡ values_of_interval first q e i (prefix front history)
below first q e i front history none =
    ap (λ (db : Database). filter_map (cell_of db q) (rows_of_interval e i history)) (database_below first e i front history none)
    ∙ ap (filter_map (cell_of (database_in first (prefix front history)) q)) (rows_below e i front history none)

-- an interval without a row has no cells
no_rows : (e : ℕ) (i : Interval) (history : List Item) → list_any (is_row_of_interval e i) history ≡ false → rows_of_interval e i history ≡ []
no_rows e i history none = no_row_since e i 0 history (λ p s. absurd (no_row e i history p none s))

pub filled_cells : (first : Database) (q e : ℕ) (i : Interval) (base : ℕ) (s : MachineState) → base_in i s.fills ≡ Some base → (IsLate e i s.history s.fills → ⊥) → values_of_interval first q e i s.history ≡ values_of_interval first q e i (prefix base s.history)
filled_cells first q e i base s is never = go (list_any (is_row_of_interval e i) s.history) refl
  where
    go : (b : Bool) → list_any (is_row_of_interval e i) s.history ≡ b → values_of_interval first q e i s.history ≡ values_of_interval first q e i (prefix base s.history)
    go true any = below first q e i base s.history (none_since e i base s.history s.fills is never (some_row e i s.history any))
    go false any =
        let none = no_rows e i s.history any in
        ap (filter_map (cell_of (database_in first s.history) q)) none
        ∙ ap (filter_map (cell_of (database_in first (prefix base s.history)) q)) (sym none ∙ filled_stay e i base s is never)
