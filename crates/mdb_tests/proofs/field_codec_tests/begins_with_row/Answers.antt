use Rattle.std.proofs.Common.{[], sym}
use Rattle.mdb_tests.proofs.field_codec_tests.begins_with_row.Goals as goal

-- all octets are an end of their block
pub read_row-requires : goal.read_row-requires
read_row-requires c = ([], sym c.as_slice.ensures)
