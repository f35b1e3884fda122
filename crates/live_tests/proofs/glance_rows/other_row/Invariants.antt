use Rattle.std.proofs.Common.{◌≡◌}
use Rattle.turn_cell.specs.Pass.{IsFree}
use Rattle.live_archive.specs.Shelving.{IsOfLog}
use Rattle.live_tests.proofs.glance_rows.other_row.Given as goal

abbrev pub invariant-loop-row : goal.invariant-loop-row
invariant-loop-row g l = record {
  filler : IsFree l.live.cell l.filler × (l.filler.share ≡ l.fn.filler.share);
  link : IsFree l.live.cell l.link × (l.link.share ≡ l.fn.link.share);
  log : IsOfLog l.live.cell.first l.glance;
}
