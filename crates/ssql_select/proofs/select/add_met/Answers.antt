use Rattle.std.proofs.Common.{◌≡◌, ◌++◌, ◌∷◌, [], ◌∙◌, reverse, false, sym, subst}
use Rattle.std.specs.Prelude.{filter}
use Rattle.std.specs.List.{AllByRecursion}
use Rattle.arch_types.specs.Directions.{truncated}
use Rattle.replay_merge.specs.RowSource.{IsKeyedRow}
use Rattle.replay_merge.proofs.Reading.{all_both}
use Rattle.ssql_select.specs.Selection.{is_selected, is_enough}
use Rattle.ssql_select.proofs.Selecting.{last_kept, row_taken, row_within, row_counted, test_keeps}
use Rattle.ssql_select.proofs.select.add_met.Goals as goal

pub rows-preserved : goal.rows-preserved
rows-preserved g c =
    let q = is_selected c.args.condition.now in
    let limit = c.args.limit in
    let found = c.rows.selected.items in
    let left = c.rows.left.items in
    let rest = c.pop.new.self.items in
    let row = c.in-Some.row in
    let new = c.add_if_met.new.selected.items in
    let all = truncated limit (c.args.selected.now.items ++ filter q (reverse c.args.backwards.items)) in
    let space : is_enough limit found ≡ false = rw c.as_slice.ensures.value at (sym c.is_enough.ensures ∙ c.rows-test.true) in
    let added : new ≡ found ++ filter q (row ∷ []) = c.in_ok-add_if_met-in-Some.ensures.rows in
    let is : left ≡ rest ++ row ∷ [] = c.in-Some.ensures.items in
    let kept = last_kept IsKeyedRow rest (row ∷ []) (subst (AllByRecursion IsKeyedRow) is c.rows.invariant.keyed) in
    record {
      all = row_taken q limit found new left rest row all space added is c.rows.invariant.all;
      within = row_within q limit found new left rest row all space added is;
      found = subst (AllByRecursion IsKeyedRow) (sym added) (all_both IsKeyedRow found (filter q (row ∷ [])) c.rows.invariant.found (test_keeps IsKeyedRow q row kept.1.0));
      keyed = kept.0;
      steps = row_counted q limit found new left rest row all space added is c.rows.steps c.add_if_met.new.steps _ c.rows.invariant.steps c.add_if_met.ensures.step;
    }
