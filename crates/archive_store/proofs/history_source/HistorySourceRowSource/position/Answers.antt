use Rattle.std.proofs.Common.{◌≤◌, ℕ, length, None, ap, subst, List, arith}
use Rattle.history_items.specs.declared.items.Item.{Item}
use Rattle.replay_merge.specs.RowSource.{AreRowSourceHistories, IsPositionOf}
use Rattle.archive_store.specs.Replays.{rows_below}
use Rattle.archive_store.proofs.Positions.{no_position, position_is}
use Rattle.archive_store.proofs.ReplayedRows.{below_in_tables, source_histories}
use Rattle.archive_store.proofs.history_source.HistorySourceRowSource.position.Goals as goal

pub returns-then-table-as_slice-clause-told : goal.returns-then-table-as_slice-clause-told
returns-then-table-as_slice-clause-told c =
    let s = c.self.inside in
    let items = s.history.now.items in
    let most : length s.head.now.tables ≤ c.args.table = omega (arith, ap (λ (n : List (List ℕ)). length n) c.as_slice.ensures, c.if-table-as_slice.true) in
    subst (λ (history : List Item). IsPositionOf (rows_below history) c.args.table c.args.key None) c.self.view_is
    (λ front. no_position c.args.table c.args.key (length s.head.now.tables) (rows_below items front) (below_in_tables s.head.now items front c.self.invariant.rows) most)

pub returns-then-table-as_slice-clause-history : goal.returns-then-table-as_slice-clause-history
returns-then-table-as_slice-clause-history c =
    let s = c.self.inside in
    subst (λ (history : List Item). AreRowSourceHistories (rows_below history)) c.self.view_is (source_histories s.head.now s.history.now.items c.is_kept.ensures.history c.self.invariant.rows)

pub returns-clause-told : goal.returns-clause-told
returns-clause-told c =
    let s = c.self.inside in
    subst (λ (history : List Item). IsPositionOf (rows_below history) c.args.table c.args.key c.position.result) c.self.view_is
    (position_is c.args.table c.args.key s.history.now.items c.position.result c.is_kept.ensures.history c.position.ensures.some c.position.ensures.none)

pub returns-clause-history : goal.returns-clause-history
returns-clause-history c =
    let s = c.self.inside in
    subst (λ (history : List Item). AreRowSourceHistories (rows_below history)) c.self.view_is (source_histories s.head.now s.history.now.items c.is_kept.ensures.history c.self.invariant.rows)
