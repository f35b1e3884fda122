use Rattle.dump_maker.proofs.Made.{made_fields}
use Rattle.dump_maker.proofs.laws.made_packets_have_fields.Goals as goal

pub returns : goal.returns
returns c = made_fields
