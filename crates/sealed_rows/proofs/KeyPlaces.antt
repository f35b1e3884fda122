-- The position of a key in runs.
use Rattle.std.proofs.Common.{◌≡◌, ◌⊎◌, inl, inr, ℕ, ◌+◌, ◌<◌, ◌≤◌, Bool, true, false, List, length, get_or, take, Option, Some, None, refl, sym, ap, ◌∙◌, subst, arith}
use Rattle.std.specs.Prelude.{◌&&◌}
use Rattle.std.specs.List.{Any, Contains}
use Rattle.std.specs.Ordering.{is_eq}
use Rattle.std.proofs.lemmas.Bool.Decides.{nat_tests}
use Rattle.std.proofs.lemmas.Cmp.{tied_itself}
use Rattle.std.proofs.lemmas.List.{take_all}
use Rattle.std.proofs.lemmas.List.Elements.{Contains-append_cases}
use Rattle.std.proofs.lemmas.List.Folds.{Any-from_list_any, list_any-from_Any}
use Rattle.std.proofs.lemmas.Map.Views.{tells_apart}
use Rattle.arch_disk.specs.Image.{Image}
use Rattle.arch_disk.specs.Disk.{Device}
use Rattle.arch_types.specs.declared.key.Key.{Key}
use Rattle.arch_types.specs.declared.row.Row.{Row}
use Rattle.arch_types.specs.History.{IsHistory, has_key, is_in_table}
use Rattle.arch_types.proofs.Ranks.{key_cmp_total}
use Rattle.replay_merge.specs.RowSource.{AreRowSourceHistories, IsPositionOf, has_row_at}
use Rattle.run_pages.specs.Placed.{Placed, row_placed}
use Rattle.run_pages.proofs.Beside.{flat_more}
use Rattle.run_pages.proofs.Joins.{both_true}
use Rattle.run_files.specs.Lookup as runs
use Rattle.run_files.specs.Run.{IsRunOn, run_file, run_table}
use Rattle.run_files.specs.declared.run.Run.{Run}
use Rattle.joined_rows.proofs.Places.{apart}
use Rattle.joined_rows.proofs.SameRows.{exact_keys}
use Rattle.sealed_rows.specs.Rows.{rows_below, rows_in, rows_of_runs}
use Rattle.sealed_rows.specs.Calls.{IsPlaceOf}
use Rattle.sealed_rows.proofs.Below.{at_has, below_from, below_has, flat_has, next_front, rows_at}
use Rattle.sealed_rows.proofs.Held.{rows_in_held}
use Rattle.sealed_rows.proofs.Told.{run_in_table}

module _ {D : Type 0} (device : Device D) (disk : D) (run : Run) (table : ℕ) (key : Key) where
  -- in a run of the table
  pub in_run : run_table run ≡ table → (held : IsRunOn device run disk) (found : Option ℕ) → runs.IsPositionOf held.0 key found → IsPlaceOf (rows_in (device.reads disk (run_file run)) run) table key found
  in_run of held (Some position) is =
      let at = row_placed position is.0 in
      let has : Contains (rows_in (device.reads disk (run_file run)) run) at = subst (λ (l : List Placed). Contains l at) (sym (rows_in_held device run held.0 disk held.1)) is.2 in
      (is.0, run_in_table device disk run at held has ∙ of, is.1, has)
  in_run of held None is = λ at has in_table same. is at (subst (λ (l : List Placed). Contains l at) (rows_in_held device run held.0 disk held.1) has) same

  -- and of another table
  pub in_other_run : (run_table run ≡ table → ⊥) → IsRunOn device run disk → IsPlaceOf (rows_in (device.reads disk (run_file run)) run) table key None
  in_other_run other held = λ at has in_table same. other (sym (run_in_table device disk run at held has) ∙ in_table)

module _ (image : Image) (table : ℕ) (key : Key) where
  abbrev of_run : Run → List Placed
  of_run run = rows_in (image (run_file run)) run

  module _ (runs : List Run) (i : ℕ) (run : Run) (lt : i < length runs) (is : run ≡ get_or runs i run) where
    -- found in one of several
    pub found_in : (position : ℕ) → IsPlaceOf (of_run run) table key (Some position) → IsPlaceOf (rows_of_runs image runs) table key (Some position)
    found_in position found = (found.0, found.1, found.2, flat_has of_run runs run (row_placed position found.0) (i, lt, sym is) found.3)

    -- in none so far, and not in this one
    pub none_more : IsPlaceOf (rows_of_runs image (take i runs)) table key None → IsPlaceOf (of_run run) table key None → IsPlaceOf (rows_of_runs image (take (i + 1) runs)) table key None
    none_more before none at has of same =
        by (Contains-append_cases (rows_of_runs image (take i runs)) (of_run run) at (subst (λ (l : List Placed). Contains l at) (flat_more of_run runs i run run lt (sym is)) has))
      where
        by : Contains (rows_of_runs image (take i runs)) at ⊎ Contains (of_run run) at → ⊥
        by (inl first) = before at first of same
        by (inr here) = none at here of same

  -- in none of all
  pub none_at_all : (runs : List Run) (i : ℕ) → length runs ≤ i → IsPlaceOf (rows_of_runs image (take i runs)) table key None → IsPlaceOf (rows_of_runs image runs) table key None
  none_at_all runs i le none = subst (λ (l : List Run). IsPlaceOf (rows_of_runs image l) table key None) (take_all i runs le) none

-- ---- as a source tells it

module _ (placed : List Placed) (table : ℕ) (key : Key) where
  abbrev is_at : Row → Bool
  is_at row = is_in_table table row && has_key key row

  table_test : (row : Row) → row.table ≡ table → is_in_table table row ≡ true
  table_test row e = grind (arith, nat_tests, e)

  test_table : (row : Row) → is_in_table table row ≡ true → row.table ≡ table
  test_table row e = grind (arith, nat_tests, e)

  passes : (row : Row) → row.table ≡ table → row.key ≡ key → is_at row ≡ true
  passes row of same =
      let one : has_key key row ≡ true = rw same (ap is_eq (tied_itself key_cmp_total key)) in
      rw (table_test row of, one) refl

  found_at : (rows : List Row) (row : Row) → Contains rows row → is_at row ≡ true → has_row_at table key rows ≡ true
  found_at rows row (k, lt, is) passes = list_any-from_Any is_at rows (k, row, lt, is, passes)

  either : (b : Bool) → (b ≡ true → ⊥) → b ≡ false
  either true never = absurd (never refl)
  either false never = refl

  none_at : (front : ℕ) → IsPlaceOf placed table key None → has_row_at table key (rows_below placed front) ≡ false
  none_at front none = either (has_row_at table key (rows_below placed front)) (λ e. never (Any-from_list_any is_at (rows_below placed front) e))
    where
      never : Any (λ (row : Row). is_at row ≡ true) (rows_below placed front) → ⊥
      never (k, row, lt, is, passes) =
          let parts = both_true (is_in_table table row) (has_key key row) passes in
          let found = below_from placed front row (k, lt, is) in
          none found.0 found.1 (ap (λ (r : Row). r.table) found.3 ∙ test_table row parts.0) (ap (λ (r : Row). r.key) found.3 ∙ sym (tells_apart exact_keys key row.key parts.1))

  -- the position of the key's row is that at which the history has it
  pub place_told : (found : Option ℕ) → AreRowSourceHistories (rows_below placed) → IsPlaceOf placed table key found → IsPositionOf (rows_below placed) table key found
  place_told None histories none = λ front. none_at front none
  place_told (Some position) histories found =
      let at = row_placed position found.0 in
      let next = next_front placed position in
      let here : has_row_at table key (rows_at placed position) ≡ true = found_at (rows_at placed position) found.0 (at_has placed position at found.3 refl) (passes found.0 found.1 found.2) in
      let history = subst (λ (l : List Row). IsHistory l) next (histories (position + 1)).once in (
        apart table key (rows_below placed position) (rows_at placed position) history here,
        found_at (rows_below placed (position + 1)) found.0 (below_has placed (position + 1) at found.3 (omega arith)) (passes found.0 found.1 found.2),
      )
