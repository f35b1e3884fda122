use Rattle.segment_codec.proofs.Written.{some_values}
use Rattle.std.proofs.Common.{length}
use Rattle.segment_codec.proofs.writing.spelled.Goals as goal

pub put_columns-requires : goal.put_columns-requires
put_columns-requires c = rw c.as_slice-3.ensures (some_values (length c.args.segment.now.keys) c.args.segment.now.columns c.requires.some_rows c.requires.columns)
