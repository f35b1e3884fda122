use Rattle.std.proofs.Common.{◌∙◌, ap}
use Rattle.text_forms.specs.Names.{is_name}
use Rattle.mdb_model.proofs.Structure.{structured}
use Rattle.archive_verify.proofs.verified.name_of.Goals as goal

-- a parameter's name is a name
pub copy_of-requires : goal.copy_of-requires
copy_of-requires c =
    let named = ((structured c.args.mdb.now c.is_sound.ensures).parameters c.args.parameter c.parameter.result.now c.parameter.ensures).named in
    ap is_name c.as_bytes.ensures ∙ named
