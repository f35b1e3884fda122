use Rattle.field_codec.proofs.Sizes.{fill_out_short}
use Rattle.field_codec.proofs.writing.octets_of.Goals as goal

pub returns-in-Fill-clause-short : goal.returns-in-Fill-clause-short
returns-in-Fill-clause-short c =
    fill_out_short c.args.entry.now c.in-Fill.interval c.in-Fill.base c.in-Fill.set c.as_slice-in-Fill.result.now c.write_fill.result c.in-Fill.is c.as_slice-in-Fill.ensures c.write_fill.ensures
