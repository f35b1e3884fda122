use Rattle.std.proofs.Common.{◌∙◌, ap, sym}
use Rattle.std.specs.Prelude.{option_copied}
use Rattle.container_extract.specs.Values.{raw_among}
use Rattle.container_extract.proofs.Extracting.{raw_value_is_sound}
use Rattle.mdb_tests.proofs.container_extract_tests.eng_by.Goals as goal

pub eng_of-requires : goal.eng_of-requires
eng_of-requires g c =
    let found = sym (c.value.ensures ∙ ap (raw_among c.args.parameter) c.extract-found.ensures.values) ∙ ap option_copied c.in-Some.is in
    raw_value_is_sound c.args.mdb.now c.args.packet.now c.args.parameter c.in-Some.value.now c.is_sound.ensures found
