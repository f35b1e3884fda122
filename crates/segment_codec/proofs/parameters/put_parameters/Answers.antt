use Rattle.segment_codec.proofs.Written.{any_number}
use Rattle.segment_codec.proofs.parameters.put_parameters.Goals as goal

pub put_each-requires : goal.put_each-requires
put_each-requires c = any_number c.args.parameters.now
