use Rattle.std.proofs.Common.{◌∙◌, refl}
use Rattle.std.specs.Int.{w128}
use Rattle.std.proofs.lemmas.Int.{to_z-of_z}
use Rattle.octet_fields.specs.Spelling.{number, signed}
use Rattle.packed_cells.proofs.writing.put_whole.Goals as goal

pub returns-clause-octets : goal.returns-clause-octets
unfolding number signed
returns-clause-octets c = c.put_octets.ensures.octets ∙ rw (c.to_be_bytes.ensures, to_z-of_z w128 c.args.raw c.ranges.raw) refl
