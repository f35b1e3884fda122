use Rattle.std.proofs.Common.{length, ap, ◌∙◌}
use Rattle.std.specs.Prelude.{slice_index_or}
use Rattle.std.proofs.lemmas.Option.{slice_get_read}
use Rattle.yarch_table.specs.Stored.{TableView}
use Rattle.yarch_table.proofs.table.Table.row_at.Goals as goal

pub returns : goal.returns
returns c =
    let place = c.args.place in
    let found = c.index.result.now in
    let stored = c.args.self.now.stored in
    let held = ap (λ (t : TableView). slice_index_or t.stored place found) c.self.view_is in
    slice_get_read stored (length stored) place found (λ i. length stored) c.requires (c.index.ensures ∙ held)
