use Rattle.std.proofs.Common.{List, take, sym, ap, subst}
use Rattle.std.specs.Prelude.{Contains}
use Rattle.std.specs.List.{AllByRecursion}
use Rattle.replay_merge.proofs.Giving.{given_before}
use Rattle.arch_types.specs.declared.row.Row.{Row}
use Rattle.select_tests.specs.MemSource.{MemSourceView}
use Rattle.select_tests.proofs.Found.{are_its, first_known}
use Rattle.select_tests.proofs.mem_source.MemSourceRowSource.rows.Goals as goal

pub part_rows-requires : goal.part_rows-requires
part_rows-requires c = rw c.as_slice.ensures.value (first_known c.min-count.result c.self.inside.history.items c.self.invariant)

pub returns-clause-given : goal.returns-clause-given
returns-clause-given c =
    let items = c.self.inside.history.items in
    let front = c.min-count.result in
    let found = c.in_ok-rows.ensures.rows front items (ap (take front) c.as_slice.ensures.value) in
    let its = subst (AllByRecursion (Contains items)) (sym found) (are_its c.args.table c.args.partition.now front items) in
    let own = subst (λ (l : List Row). AllByRecursion (Contains l) c.in_ok-rows.rows.items) (ap (λ (v : MemSourceView). v.rows) c.self.view_is) its in
    rw c.from_vec.ensures (given_before c.fail_in_turn.ensures.source c.in_ok-rows.rows.items own)
