use Rattle.std.proofs.Common.{◌≡◌, ◌≤◌, ℕ, [], length, w64, sym, ap, ◌∙◌, subst, List, arith}
use Rattle.std.specs.Prelude.{Contains}
use Rattle.std.specs.List.{AllByRecursion}
use Rattle.std.proofs.lemmas.Int.{to_z-of_z}
use Rattle.arch_types.specs.declared.row.Row.{Row}
use Rattle.arch_types.specs.Table.{is_in_time_range, range_of, table_of}
use Rattle.replay_merge.specs.RowSource.{AreRowsIn, AreRowSourceHistories}
use Rattle.replay_merge.proofs.Giving.{table_given}
use Rattle.replay_merge.proofs.Sources.{each_tested, no_range_of_table, range_rows_are}
use Rattle.history_items.specs.declared.items.Item.{Item}
use Rattle.history_items.specs.Items.{rows_in}
use Rattle.archive_store.specs.Replays.{rows_below}
use Rattle.archive_store.proofs.ReplayedRows.{below_are_its, below_in_tables, source_histories}
use Rattle.archive_store.proofs.history_source.HistorySourceRowSource.range.Goals as goal

pub returns-then-table-as_slice-clause-told : goal.returns-then-table-as_slice-clause-told
returns-then-table-as_slice-clause-told c =
    let s = c.self.inside in
    let items = s.history.now.items in
    let most : length s.head.now.tables ≤ c.args.table = omega (arith, ap (λ (n : List (List ℕ)). length n) c.as_slice.ensures, c.if-table-as_slice.true) in
    c.new.ensures ∙ sym (subst (λ (history : List Item). range_of c.args.table c.args.from c.args.to (rows_below history c.args.front) ≡ []) c.self.view_is
    (no_range_of_table c.args.table (length s.head.now.tables) c.args.from c.args.to (rows_below items c.args.front) (below_in_tables s.head.now items c.args.front c.self.invariant.rows) most))

pub returns-then-table-as_slice-clause-given : goal.returns-then-table-as_slice-clause-given
returns-then-table-as_slice-clause-given c = subst (λ (rows : List Row). AllByRecursion (Contains (rows_in c.args.self.now)) rows) (sym c.new.ensures) tt

pub returns-then-table-as_slice-clause-each : goal.returns-then-table-as_slice-clause-each
returns-then-table-as_slice-clause-each c =
    let s = c.self.inside in
    let items = s.history.now.items in
    let most : length s.head.now.tables ≤ c.args.table = omega (arith, ap (λ (n : List (List ℕ)). length n) c.as_slice.ensures, c.if-table-as_slice.true) in
    let are = source_histories s.head.now items c.is_kept.ensures.history c.self.invariant.rows in
    subst (AreRowsIn c.args.table c.args.from c.args.to)
    (no_range_of_table c.args.table (length s.head.now.tables) c.args.from c.args.to (rows_below items c.args.front) (below_in_tables s.head.now items c.args.front c.self.invariant.rows) most ∙ sym c.new.ensures)
    (range_rows_are c.args.table c.args.from c.args.to (rows_below items c.args.front) (are c.args.front))

pub returns-then-table-as_slice-clause-history : goal.returns-then-table-as_slice-clause-history
returns-then-table-as_slice-clause-history c =
    let s = c.self.inside in
    subst (λ (history : List Item). AreRowSourceHistories (rows_below history)) c.self.view_is (source_histories s.head.now s.history.now.items c.is_kept.ensures.history c.self.invariant.rows)

pub returns-in_err-copies_of-clause-history : goal.returns-in_err-copies_of-clause-history
returns-in_err-copies_of-clause-history c =
    let s = c.self.inside in
    subst (λ (history : List Item). AreRowSourceHistories (rows_below history)) c.self.view_is (source_histories s.head.now s.history.now.items c.is_kept.ensures.history c.self.invariant.rows)

pub returns-clause-told : goal.returns-clause-told
returns-clause-told c =
    let low = to_z-of_z w64 c.args.from c.ranges.from in
    let high = to_z-of_z w64 c.args.to c.ranges.to in
    c.in_ok-copies_of.ensures ∙ (rw (low, high) at c.range_at.ensures) ∙ ap (λ (history : List Item). range_of c.args.table c.args.from c.args.to (rows_below history c.args.front)) c.self.view_is

pub returns-clause-given : goal.returns-clause-given
returns-clause-given c =
    let items = c.self.inside.history.now.items in
    let low = to_z-of_z w64 c.args.from c.ranges.from in
    let high = to_z-of_z w64 c.args.to c.ranges.to in
    let P : Row → Type 0 = Contains (rows_in items) in
    let got = rw (low, high) at c.range_at.ensures in
    let below = rows_below items c.args.front in
    rw (← c.self.view_is)
    (subst (AllByRecursion P) (sym (c.in_ok-copies_of.ensures ∙ got))
    (each_tested P P (is_in_time_range c.args.from c.args.to) (λ row may is. may) (table_of c.args.table below) (table_given P c.args.table below (below_are_its c.args.front items))))

pub returns-clause-each : goal.returns-clause-each
returns-clause-each c =
    let s = c.self.inside in
    let items = s.history.now.items in
    let low = to_z-of_z w64 c.args.from c.ranges.from in
    let high = to_z-of_z w64 c.args.to c.ranges.to in
    let are = source_histories s.head.now items c.is_kept.ensures.history c.self.invariant.rows in
    let got = rw (low, high) at c.range_at.ensures in
    subst (AreRowsIn c.args.table c.args.from c.args.to) (sym (c.in_ok-copies_of.ensures ∙ got)) (range_rows_are c.args.table c.args.from c.args.to (rows_below items c.args.front) (are c.args.front))

pub returns-clause-history : goal.returns-clause-history
returns-clause-history c =
    let s = c.self.inside in
    subst (λ (history : List Item). AreRowSourceHistories (rows_below history)) c.self.view_is (source_histories s.head.now s.history.now.items c.is_kept.ensures.history c.self.invariant.rows)
