use Rattle.std.proofs.Common.{List, sym, subst}
use Rattle.mdb_items.specs.Database.{Database}
use Rattle.param_segments.specs.Rows.{SetRow}
use Rattle.store_fills.specs.Built.{IsBuilt}
use Rattle.store_fills.proofs.Built.{built_is}
use Rattle.store_fills.proofs.filled.build.Goals as goal

-- its octets stand for the set
pub invariant_of-result : goal.invariant_of-result
invariant_of-result c =
    subst (λ (rows : List SetRow). IsBuilt c.args.interval c.args.exponent c.args.base c.in_ok-kept.kept rows c.in_ok-frame.frame) (sym c.in_ok-new.ensures.ok)
    (subst (λ (db : Database). IsBuilt c.args.interval c.args.exponent c.args.base db c.in_ok-set.set c.in_ok-frame.frame) (sym c.in_ok-kept.ensures)
    (built_is c.args.interval c.args.exponent c.args.base c.args.mdb.now c.in_ok-set.set c.in_ok-octets.octets c.as_slice.result.now c.in_ok-frame.frame c.as_slice.ensures
    c.in_ok-octets.ensures.spelled c.in_ok-octets.ensures.value c.in_ok-frame.ensures.fits c.in_ok-frame.ensures.spelled
    c.in_ok-set.ensures.sound))
