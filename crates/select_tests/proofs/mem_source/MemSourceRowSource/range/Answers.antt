use Rattle.std.proofs.Common.{List, take, w64, sym, ap, subst}
use Rattle.std.specs.Prelude.{Contains}
use Rattle.std.specs.List.{AllByRecursion}
use Rattle.std.proofs.lemmas.Int.{to_z-of_z}
use Rattle.replay_merge.proofs.Giving.{given_before}
use Rattle.arch_types.specs.declared.row.Row.{Row}
use Rattle.select_tests.specs.MemSource.{MemSourceView}
use Rattle.select_tests.proofs.Found.{first_known, range_its}
use Rattle.select_tests.proofs.mem_source.MemSourceRowSource.range.Goals as goal

pub range_rows-requires : goal.range_rows-requires
range_rows-requires c = rw c.as_slice.ensures.value (first_known c.min-count.result c.self.inside.history.items c.self.invariant)

pub returns-clause-given : goal.returns-clause-given
returns-clause-given c =
    let items = c.self.inside.history.items in
    let front = c.min-count.result in
    let low = to_z-of_z w64 c.args.from c.ranges.from in
    let high = to_z-of_z w64 c.args.to c.ranges.to in
    let found = rw (low, high) at (c.in_ok-rows.ensures.rows front items (ap (take front) c.as_slice.ensures.value)) in
    let its = subst (AllByRecursion (Contains items)) (sym found) (range_its c.args.table c.args.from c.args.to front items) in
    let own = subst (λ (l : List Row). AllByRecursion (Contains l) c.in_ok-rows.rows.items) (ap (λ (v : MemSourceView). v.rows) c.self.view_is) its in
    rw c.from_vec.ensures (given_before c.fail_in_turn.ensures.source c.in_ok-rows.rows.items own)
