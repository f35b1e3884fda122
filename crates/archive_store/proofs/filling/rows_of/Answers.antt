use Rattle.std.proofs.Common.{rules, w64, SFits}
use Rattle.std.proofs.lemmas.Int.{to_z-of_z}
use Rattle.archive_history.proofs.Steps.{if_ok}
use Rattle.intervals.specs.Interval.{interval_end, interval_start}
use Rattle.replay_merge.specs.RowSource.{AreRowsIn}
use Rattle.store_fills.specs.Built.{IsTaskRows}
use Rattle.archive_store.proofs.TaskRows.{task_rows}
use Rattle.archive_store.proofs.filling.rows_of.Goals as goal

pub returns-clause-told : goal.returns-clause-told
returns-clause-told g c =
    let from_fits : SFits w64 c.start_at.result = search rules in
    let to_fits : SFits w64 c.end_at.result = search rules in
    rw (to_z-of_z w64 c.start_at.result from_fits, to_z-of_z w64 c.end_at.result to_fits, c.start_at.ensures, c.end_at.ensures) at c.range.ensures.told

pub returns-clause-in_order : goal.returns-clause-in_order
returns-clause-in_order g c =
    let from_fits : SFits w64 c.start_at.result = search rules in
    let to_fits : SFits w64 c.end_at.result = search rules in
    let got = rw (to_z-of_z w64 c.start_at.result from_fits, to_z-of_z w64 c.end_at.result to_fits, c.start_at.ensures, c.end_at.ensures) at c.range.ensures.each in
    let e = c.args.exponent in
    let i = c.args.interval in
    if_ok c.range.result (AreRowsIn 0 (interval_start e i) (interval_end e i)) (IsTaskRows e i) (task_rows e i) got
