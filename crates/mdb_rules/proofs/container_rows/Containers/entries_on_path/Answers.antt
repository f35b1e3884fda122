use Rattle.std.proofs.Common.{◌∙◌, ap}
use Rattle.mdb_rules.specs.declared.container_rows.PathTotals.{PathTotals}
use Rattle.mdb_rules.proofs.TotalsSteps.{totals_is}
use Rattle.mdb_rules.proofs.container_rows.Containers.entries_on_path.Goals as goal

pub returns : goal.returns
returns c = ap (λ (s : PathTotals). s.entries) (c.totals.ensures ∙ totals_is c.requires.0 c.args.self.now.items.items c.args.self.now.all_totals.items c.args.number c.requires.1.all_totals)
