use Rattle.field_codec.proofs.Openings.{any_fits}
use Rattle.field_codec.proofs.opening.put_opening.Goals as goal

pub put_each-requires : goal.put_each-requires
put_each-requires c = any_fits c.args.tables.now
