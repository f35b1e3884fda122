use Rattle.std.proofs.Common.{ap, ◌∙◌}
use Rattle.std.specs.Int.{w64, to_be_bytes, cast_unsigned}
use Rattle.std.proofs.lemmas.Int.{to_z-of_z}
use Rattle.row_codec.proofs.RowFields.{clock_fits}
use Rattle.row_codec.proofs.Sizes.{front_and_packet}
use Rattle.row_codec.proofs.rows.front_octets.Goals as goal

pub returns : goal.returns
returns c =
    let time = c.args.row.now.rectime in
    let is_time = c.to_be_bytes-time.ensures ∙ ap (λ z. to_be_bytes w64 (cast_unsigned w64 z)) (to_z-of_z w64 time (clock_fits time c.requires.rectime)) in
    front_and_packet c.args.row.now c.requires c.to_be_bytes-time.result c.to_be_bytes-name.result is_time c.to_be_bytes-name.ensures
