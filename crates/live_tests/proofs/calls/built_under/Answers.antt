use Rattle.std.proofs.Common.{subst}
use Rattle.mdb_items.specs.Database.{Database}
use Rattle.param_segments.specs.Extracted.{IsSetOf}
use Rattle.store_fills.specs.Filled.{HoldsRows}
use Rattle.live_tests.proofs.calls.built_under.Goals as goal

pub returns-in-Ok : goal.returns-in-Ok
returns-in-Ok c =
    let of = c.in-Ok.ensures in
    let task = c.args.task in
    let set = c.in-Ok.filled.set in
    record {
      interval = of.of_task.0;
      base = of.of_task.1;
      exponent = of.origin.0;
      mdb = of.origin.1;
      fits = subst (λ (db : Database). IsSetOf db task.exponent task.interval.0 set) c.requires.mdb of.fits;
      holds = subst (λ (db : Database). HoldsRows db set task.rows) c.requires.mdb of.holds;
    }
