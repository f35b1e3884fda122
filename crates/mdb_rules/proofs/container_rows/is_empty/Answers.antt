use Rattle.std.proofs.Common.{◌∙◌, sym}
use Rattle.mdb_items.proofs.Ends.{is_empty-length}
use Rattle.mdb_rules.proofs.container_rows.is_empty.Goals as goal

pub returns : goal.returns
returns g c = c.is_empty.ensures ∙ sym (is_empty-length c.args.items.now)
