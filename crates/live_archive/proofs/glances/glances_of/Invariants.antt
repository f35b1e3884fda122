use Rattle.std.proofs.Common.{◌≡◌}
use Rattle.std.specs.Prelude.{replicate}
use Rattle.live_archive.proofs.glances.glances_of.Given as goal

abbrev pub invariant-loop : goal.invariant-loop
invariant-loop g l = record {
  same : l.shelved ≡ l.initial.shelved;
  seen : l.glances ≡ replicate l.counter l.initial.shelved.shelf.shown;
}
