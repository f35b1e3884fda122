use Rattle.std.proofs.Common.{◌≡◌, ◌≤◌, ℕ, [], length, w64, sym, ap, ◌∙◌, subst, List, arith}
use Rattle.std.specs.Prelude.{Contains}
use Rattle.std.specs.List.{AllByRecursion}
use Rattle.std.proofs.lemmas.Int.{to_z-of_z}
use Rattle.arch_types.specs.declared.row.Row.{Row}
use Rattle.replay_merge.specs.RowSource.{IsRowBetween, AreInKeyOrder, range_of_parts}
use Rattle.replay_merge.proofs.Giving.{range_given}
use Rattle.replay_merge.proofs.Gathered.{rows_between_are, between_in_order, no_rows_between}
use Rattle.history_items.specs.declared.items.Item.{Item}
use Rattle.history_items.specs.Items.{rows_in}
use Rattle.archive_store.specs.Replays.{rows_below}
use Rattle.archive_store.proofs.ReplayedRows.{below_are_its, below_in_tables, source_histories}
use Rattle.archive_store.proofs.history_source.HistorySourceRowSource.rows_between.Goals as goal

pub returns-then-table-as_slice-clause-told : goal.returns-then-table-as_slice-clause-told
returns-then-table-as_slice-clause-told c =
    let s = c.self.inside in
    let items = s.history.now.items in
    let parts = c.args.parts.now in
    let most : length s.head.now.tables ≤ c.args.table = omega (arith, ap (λ (n : List (List ℕ)). length n) c.as_slice.ensures, c.if-table-as_slice.true) in
    c.new.ensures ∙ sym (subst (λ (history : List Item). range_of_parts c.args.table parts c.args.from c.args.to (rows_below history c.args.front) ≡ []) c.self.view_is
    (no_rows_between c.args.table (length s.head.now.tables) parts c.args.from c.args.to (rows_below items c.args.front) (below_in_tables s.head.now items c.args.front c.self.invariant.rows) most))

pub returns-then-table-as_slice-clause-given : goal.returns-then-table-as_slice-clause-given
returns-then-table-as_slice-clause-given c = subst (λ (rows : List Row). AllByRecursion (Contains (rows_in c.args.self.now)) rows) (sym c.new.ensures) tt

pub returns-then-table-as_slice-clause-each : goal.returns-then-table-as_slice-clause-each
returns-then-table-as_slice-clause-each c =
    subst (λ (rows : List Row). AllByRecursion (IsRowBetween c.args.table c.args.parts.now c.args.from c.args.to) rows) (sym c.new.ensures) tt

pub returns-clause-told : goal.returns-clause-told
returns-clause-told c =
    let low = to_z-of_z w64 c.args.from c.ranges.from in
    let high = to_z-of_z w64 c.args.to c.ranges.to in
    let rows = range_of_parts c.args.table c.args.parts.now c.args.from c.args.to in
    (rw (low, high) at c.in_ok-rows_between.ensures) ∙ ap (λ (history : List Item). rows (rows_below history c.args.front)) c.self.view_is

pub returns-clause-given : goal.returns-clause-given
returns-clause-given c =
    let items = c.self.inside.history.now.items in
    let low = to_z-of_z w64 c.args.from c.ranges.from in
    let high = to_z-of_z w64 c.args.to c.ranges.to in
    let P : Row → Type 0 = Contains (rows_in items) in
    let got = rw (low, high) at c.in_ok-rows_between.ensures in
    rw (← c.self.view_is)
    (subst (AllByRecursion P) (sym got) (range_given P c.args.table c.args.parts.now c.args.from c.args.to (rows_below items c.args.front) (below_are_its c.args.front items)))

pub returns-clause-each : goal.returns-clause-each
returns-clause-each c =
    let s = c.self.inside in
    let items = s.history.now.items in
    let low = to_z-of_z w64 c.args.from c.ranges.from in
    let high = to_z-of_z w64 c.args.to c.ranges.to in
    let are = source_histories s.head.now items c.is_kept.ensures.history c.self.invariant.rows in
    let got = rw (low, high) at c.in_ok-rows_between.ensures in
    subst (λ (rows : List Row). AllByRecursion (IsRowBetween c.args.table c.args.parts.now c.args.from c.args.to) rows) (sym got)
    (rows_between_are c.args.table c.args.parts.now c.args.from c.args.to (rows_below items c.args.front) (are c.args.front))

pub returns-clause-in_key_order : goal.returns-clause-in_key_order
returns-clause-in_key_order c =
    let items = c.self.inside.history.now.items in
    let low = to_z-of_z w64 c.args.from c.ranges.from in
    let high = to_z-of_z w64 c.args.to c.ranges.to in
    let got = rw (low, high) at c.in_ok-rows_between.ensures in
    subst AreInKeyOrder (sym got) (between_in_order c.args.table c.args.parts.now c.args.from c.args.to (rows_below items c.args.front))
