-- What was gathered of runs is what the history of their rows has.
use Rattle.std.proofs.Common.{◌≡◌, ℕ, ◌<◌, Bool, true, false, List, [], refl, sym, ap, ◌∙◌, subst, arith}
use Rattle.std.specs.Prelude.{◌==◌, filter, nat_lt}
use Rattle.std.specs.List.{Any, Contains}
use Rattle.std.proofs.lemmas.Bool.Decides.{nat_tests}
use Rattle.arch_disk.specs.Image.{Image}
use Rattle.arch_disk.specs.Disk.{Device}
use Rattle.arch_types.specs.declared.row.Row.{Row}
use Rattle.arch_types.specs.History.{is_in_table}
use Rattle.arch_types.specs.Table.{table_of}
use Rattle.partitions.proofs.Members.{filter_has}
use Rattle.run_pages.specs.Placed.{Placed, rows_of_placed}
use Rattle.run_pages.proofs.Joins.{both_true}
use Rattle.run_files.specs.Run.{IsRunOn, run_file, run_table}
use Rattle.run_files.specs.declared.run.Run.{Run}
use Rattle.joined_rows.specs.Rising.{HaveRisingKeys}
use Rattle.joined_rows.proofs.SameRows.{each_at, has_none, same_firsts}
use Rattle.joined_rows.proofs.Selected.{selected, selected_has, selected_rises}
use Rattle.sealed_rows.specs.Gathered.{gathered_of, wanted_of}
use Rattle.sealed_rows.specs.Rows.{rows_below, rows_in, rows_of_runs}
use Rattle.sealed_rows.specs.Sealed.{AreSealed}
use Rattle.sealed_rows.specs.Wanted.{is_in_times, is_wanted, rows_wanted}
use Rattle.sealed_rows.specs.declared.wanted.Wanted.{Wanted}
use Rattle.sealed_rows.proofs.Below.{below_from, below_has, flat_from, flat_has, row_from, row_has}
use Rattle.sealed_rows.proofs.Gathering.{in_table}
use Rattle.sealed_rows.proofs.Held.{rows_in_held}

-- each row of a run is of the run's table
module _ {D : Type 0} (device : Device D) (disk : D) where
  pub run_in_table : (run : Run) (at : Placed) → IsRunOn device run disk → Contains (rows_in (device.reads disk (run_file run)) run) at → at.row.table ≡ run_table run
  run_in_table run at held has =
      let rows = held.0 in
      let ordered = held.1.reads.is.run_rows.ordered in
      let here : Contains rows at = subst (λ (l : List Placed). Contains l at) (rows_in_held device run rows disk held.1) has in
      each_at (λ (row : Row). row.table ≡ run_table run) (rows_of_placed rows) at.row (in_table (run_table run) _ _ _ (rows_of_placed rows) ordered) (row_has rows at here)

  module _ (wanted : Wanted) (runs : List Run) (sealed : AreSealed device runs disk) where
    abbrev image : Image
    image = device.reads disk

    abbrev placed : List Placed
    placed = rows_of_runs image runs

    abbrev those : List Row
    those = selected wanted.table (is_in_times wanted.times) (rows_below placed wanted.front)

    -- what is gathered stands where it is wanted
    gathered_from : (row : Row) → Contains (gathered_of wanted image runs) row → (at : Placed) × Contains placed at × (is_wanted wanted at ≡ true) × (at.row.table ≡ wanted.table) × (at.row ≡ row)
    gathered_from row has = by (flat_from (wanted_of wanted image) runs row has)
      where
        of_run : (run : Run) → Contains runs run → (b : Bool) → (run_table run == wanted.table) ≡ b → Contains (wanted_of wanted image run) row
            → (at : Placed) × Contains placed at × (is_wanted wanted at ≡ true) × (at.row.table ≡ wanted.table) × (at.row ≡ row)
        of_run run in_runs true e here =
            let rows = rows_in (image (run_file run)) run in
            let kept : Contains (rows_wanted wanted rows) row = rw e at here in
            let found = row_from (filter (is_wanted wanted) rows) row kept in
            let passed = (filter_has (is_wanted wanted) rows found.0).0 found.1 in
            let one : run_table run ≡ wanted.table = grind (arith, nat_tests, e) in
            let held = each_at (λ (r : Run). IsRunOn device r disk) runs run sealed.held in_runs in (
              found.0,
              flat_has (λ (r : Run). rows_in (image (run_file r)) r) runs run found.0 in_runs passed.0,
              passed.1,
              run_in_table run found.0 held passed.0 ∙ one,
              found.2,
            )
        of_run run in_runs false e here = let none : Contains [] row = rw e at here in absurd (has_none row none)

        by : (run : Run) × Contains runs run × Contains (wanted_of wanted image run) row → (at : Placed) × Contains placed at × (is_wanted wanted at ≡ true) × (at.row.table ≡ wanted.table) × (at.row ≡ row)
        by found = of_run found.0 found.1 (run_table found.0 == wanted.table) refl found.2

    -- and what is wanted was gathered
    gathered_has : (at : Placed) → Contains placed at → is_wanted wanted at ≡ true → at.row.table ≡ wanted.table → Contains (gathered_of wanted image runs) at.row
    gathered_has at has is of = by (flat_from (λ (r : Run). rows_in (image (run_file r)) r) runs at has)
      where
        by : (run : Run) × Contains runs run × Contains (rows_in (image (run_file run)) run) at → Contains (gathered_of wanted image runs) at.row
        by found =
            let run = found.0 in
            let rows = rows_in (image (run_file run)) run in
            let held = each_at (λ (r : Run). IsRunOn device r disk) runs run sealed.held found.1 in
            let one : run_table run ≡ wanted.table = sym (run_in_table run at held found.2) ∙ of in
            let test : (run_table run == wanted.table) ≡ true = grind (arith, nat_tests, one) in
            let kept : Contains (rows_wanted wanted rows) at.row = row_has (filter (is_wanted wanted) rows) at ((filter_has (is_wanted wanted) rows at).1 (found.2, is)) in
            flat_has (wanted_of wanted image) runs run at.row found.1 (rw test kept)

    in_table_of : (row : Row) → row.table ≡ wanted.table → is_in_table wanted.table row ≡ true
    in_table_of row e = grind (arith, nat_tests, e)

    table_is : (row : Row) → is_in_table wanted.table row ≡ true → row.table ≡ wanted.table
    table_is row e = grind (arith, nat_tests, e)

    lt_of : (a b : ℕ) → nat_lt a b ≡ true → a < b
    lt_of a b e = grind (arith, nat_tests, e)

    of_lt : (a b : ℕ) → a < b → nat_lt a b ≡ true
    of_lt a b lt = grind (arith, nat_tests, lt)

    there : (row : Row) → Contains (gathered_of wanted image runs) row → Contains those row
    there row has =
        let found = gathered_from row has in
        let at = found.0 in
        let parts = both_true (nat_lt at.position wanted.front) _ found.2 in
        let below = below_has placed wanted.front at found.1 (lt_of at.position wanted.front parts.0) in
        subst (Contains those) found.4 ((selected_has wanted.table (is_in_times wanted.times) (rows_below placed wanted.front) at.row).1 (below, in_table_of at.row found.3, parts.1))

    back : (row : Row) → Contains those row → Contains (gathered_of wanted image runs) row
    back row has =
        let of = (selected_has wanted.table (is_in_times wanted.times) (rows_below placed wanted.front) row).0 has in
        let found = below_from placed wanted.front row of.0 in
        let at = found.0 in
        let in_times : is_in_times wanted.times at.row ≡ true = subst (λ (r : Row). is_in_times wanted.times r ≡ true) (sym found.3) of.2 in
        let is : is_wanted wanted at ≡ true = rw (of_lt at.position wanted.front found.2, in_times) refl in
        subst (Contains (gathered_of wanted image runs)) found.3 (gathered_has at found.1 is (ap (λ (r : Row). r.table) found.3 ∙ table_is row of.1))

    pub runs_told : (gathered rows : List Row) → gathered ≡ gathered_of wanted image runs → HaveRisingKeys rows → ((row : Row) → Contains rows row → Contains gathered row) →
        ((row : Row) → Contains gathered row → Any (λ (kept : Row). kept.key ≡ row.key) rows) → rows ≡ filter (is_in_times wanted.times) (table_of wanted.table (rows_below placed wanted.front))
    runs_told gathered rows is rising no_others each_key =
        same_firsts rows gathered those rising (selected_rises wanted.table (is_in_times wanted.times) (rows_below placed wanted.front) (sealed.histories wanted.front).once) no_others each_key
        (λ row has. there row (subst (λ (l : List Row). Contains l row) is has)) (λ row has. subst (λ (l : List Row). Contains l row) (sym is) (back row has))

    pub runs_given : (gathered rows : List Row) → gathered ≡ gathered_of wanted image runs → ((row : Row) → Contains rows row → Contains gathered row) → (row : Row) → Contains rows row → Contains (rows_of_placed placed) row
    runs_given gathered rows is no_others row has =
        let found = gathered_from row (subst (λ (l : List Row). Contains l row) is (no_others row has)) in
        subst (Contains (rows_of_placed placed)) found.4 (row_has placed found.0 found.1)
