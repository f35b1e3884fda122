use Rattle.std.proofs.Common.{◌≡◌, ◌∙◌, List, length, Some, refl, ap, sym}
use Rattle.std.specs.Prelude.{slice_get}
use Rattle.std.proofs.lemmas.Option.{slice_get_read}
use Rattle.text_forms.specs.Names.{is_name}
use Rattle.mdb_items.specs.declared.container.Container.{Container}
use Rattle.mdb_model.proofs.Structure.{structured}
use Rattle.archive_store.proofs.retrieving.container_names.Goals as goal

-- a container's name is a name
pub copy_of-requires : goal.copy_of-requires
copy_of-requires c =
    let db = c.args.mdb.now in
    let list = c.container_list-container-items.result.now in
    let i = c.loop-container.container-index in
    let container = c.container-item.result in
    let here : slice_get list i ≡ Some container = slice_get_read list (length list) i container refl c.loop-container-test.true c.container-item.is in
    let at : slice_get db.containers i ≡ Some container = ap (λ (cs : List Container). slice_get cs i) (sym c.container_list-container-items.ensures.value) ∙ here in
    let named = ((structured db c.container_list-container-items.ensures.sound).containers i container at).named in
    ap is_name c.as_bytes.ensures ∙ named
