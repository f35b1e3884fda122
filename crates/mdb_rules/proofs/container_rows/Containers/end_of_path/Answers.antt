use Rattle.std.proofs.Common.{◌∙◌, ap}
use Rattle.mdb_rules.specs.declared.container_rows.PathTotals.{PathTotals}
use Rattle.mdb_rules.proofs.TotalsSteps.{totals_is}
use Rattle.mdb_rules.proofs.container_rows.Containers.end_of_path.Goals as goal

pub returns : goal.returns
returns c = λ ps path. ap (λ (s : PathTotals). s.end) (c.totals.ensures ∙ totals_is ps c.args.self.now.items.items c.args.self.now.all_totals.items c.args.number path.all_totals)
