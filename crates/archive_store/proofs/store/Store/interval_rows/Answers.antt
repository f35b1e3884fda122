use Rattle.std.proofs.Common.{◌≡◌, ◌∙◌, ℕ, List, refl, sym, subst}
use Rattle.std.specs.Prelude.{Contains, IfOk}
use Rattle.std.specs.List.{AllByRecursion}
use Rattle.archive_history.proofs.Steps.{if_ok}
use Rattle.arch_types.specs.declared.row.Row.{Row}
use Rattle.arch_types.specs.Table.{range_of}
use Rattle.intervals.specs.Interval.{HasClockTime, interval_end, interval_start}
use Rattle.history_items.specs.declared.items.Item.{Item}
use Rattle.history_items.specs.Items.{rows_in}
use Rattle.interval_fills.specs.Intervals.{rows_of_interval}
use Rattle.store_fills.specs.Built.{IsTaskRows}
use Rattle.archive_images.specs.Entries.{IsArchivedRow}
use Rattle.archive_store.specs.Replays.{rows_below}
use Rattle.archive_images.proofs.Archived.{among_archived}
use Rattle.archive_store.proofs.CurrentSets.{last_in_clock}
use Rattle.archive_store.proofs.IntervalRows.{whole_interval}
use Rattle.archive_store.proofs.UnreadRows.{left_by_read, rows_unread}
use Rattle.archive_store.proofs.store.Store.interval_rows.Goals as goal

pub rows_of-requires : goal.rows_of-requires
rows_of-requires g c =
    let s = c.args.self.now in
    let clock = last_in_clock s.head s.exponent s.history c.args.interval c.is_kept.ensures.rows c.requires in
    subst (λ (e : ℕ). HasClockTime e c.args.interval) (sym c.exponent-exponent.ensures) clock

pub returns-clause-rows : goal.returns-clause-rows
returns-clause-rows g c told =
    let s = c.args.self.now in
    let i = c.args.interval in
    let e = c.exponent-exponent.result in
    let front = c.front-front.result in
    if_ok c.rows_of.result (λ (rows : List Row). rows ≡ range_of 0 (interval_start e i) (interval_end e i) (rows_below c.source-source.result front)) (λ (rows : List Row). rows ≡ rows_of_interval s.exponent i s.history)
    (λ rows is. is ∙ whole_interval s.exponent e front i s.history c.source-source.result c.exponent-exponent.ensures c.source-source.ensures c.front-front.ensures) c.rows_of.ensures.told

pub returns-clause-archived : goal.returns-clause-archived
returns-clause-archived g c =
    let s = c.args.self.now in
    if_ok c.rows_of.result (AllByRecursion (Contains (rows_in c.source-source.result))) (AllByRecursion (IsArchivedRow s.head s.history))
    (λ rows its. among_archived s.head s.history (rows_in s.history) rows c.is_kept.ensures.rows (subst (λ (l : List Item). AllByRecursion (Contains (rows_in l)) rows) c.source-source.ensures its)) c.rows_of.ensures.given

pub returns-clause-in_order : goal.returns-clause-in_order
returns-clause-in_order g c =
    subst (λ (e : ℕ). IfOk c.rows_of.result (IsTaskRows e c.args.interval)) c.exponent-exponent.ensures c.rows_of.ensures.in_order

pub returns-clause-refused : goal.returns-clause-refused
returns-clause-refused g c = rows_unread g.D.Disk.device c.args.self.now c.args.self.now c.rows_of.result c.source-source.result c.rows_of.new.source c.rows_of.ensures.refused

pub returns-clause-same : goal.returns-clause-same
returns-clause-same g c =
    let s = c.args.self.now in
    left_by_read g.D.Disk.device s s c.rows_of.result (rows_unread g.D.Disk.device s s c.rows_of.result c.source-source.result c.rows_of.new.source c.rows_of.ensures.refused) refl
