use Rattle.std.proofs.Common.{◌≡◌, ◌≤◌, ◌++◌, length}
use Rattle.archive_store.specs.Pages.{TellsRows}
use Rattle.archive_store.specs.Replays.{rows_below}
use Rattle.replay_merge.specs.Cursor.{rest_of, steps_at_most}
use Rattle.turn_cell.specs.Pass.{IsFree}
use Rattle.live_asks.specs.LiveAsks.{OnlySees}
use Rattle.live_asks.proofs.turns.rows_left.Given as goal

-- what was taken and what is left are all that there was to take
abbrev pub invariant-steps : goal.invariant-steps
invariant-steps g l = record {
  free : IsFree l.live.cell l.pass;
  sees : OnlySees l.live.cell.first.store.sealed l.fn.pass l.pass;
  within : l.fn.cursor.front ≤ length l.pass.history.seen;
  at_front : l.cursor.front ≡ l.fn.cursor.front;
  silent : l.pass.fills.places ≡ l.fn.pass.fills.places;
  rows : TellsRows g.D.Disk.device l.live.cell.first.store → l.rows.items ++ rest_of l.cursor (rows_below l.pass.history.seen) ≡ rest_of l.fn.cursor (rows_below l.pass.history.seen);
}

abbrev pub decreases-steps : goal.decreases-steps
decreases-steps g l = steps_at_most l.cursor
