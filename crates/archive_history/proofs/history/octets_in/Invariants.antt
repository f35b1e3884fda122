use Rattle.std.proofs.Common.{◌≡◌, ◌≤◌, ◌*◌, take}
use Rattle.archive_history.specs.Limits.{octets_of}
use Rattle.archive_history.proofs.history.octets_in.Given as goal

abbrev pub invariant-loop-row : goal.invariant-loop-row
invariant-loop-row l = record {
  sum : l.octets ≡ octets_of (take l.row-index l.rows);
  small : l.octets ≤ l.row-index * 4294967296;
}
