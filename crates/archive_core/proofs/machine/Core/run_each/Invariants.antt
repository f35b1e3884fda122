use Rattle.std.proofs.Common.{◌≡◌, drop}
use Rattle.archive_core.proofs.Runs.{Adds, GoesOn}
use Rattle.archive_core.proofs.machine.Core.run_each.Given as goal

abbrev pub invariant-loop-event : goal.invariant-loop-event
invariant-loop-event l = record {
  run : GoesOn l.fn.self.exponent l.fn.self.tables l.fn.self.mdb l.fn.self.state l.events l.self.state l.replies (drop l.event-index l.events);
  tables : l.self.tables ≡ l.fn.self.tables;
  mdb : l.self.mdb ≡ l.fn.self.mdb;
  exponent : l.self.exponent ≡ l.fn.self.exponent;
  adds : Adds l.fn.self.state l.self.state;
}
