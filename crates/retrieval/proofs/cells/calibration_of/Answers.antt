use Rattle.std.proofs.Common.{subst, sym}
use Rattle.retrieval.specs.CellText.{HasShortLabels}
use Rattle.retrieval.proofs.Labels.{short_labels}
use Rattle.retrieval.proofs.cells.calibration_of.Goals as goal

pub returns-clause-short : goal.returns-clause-short
returns-clause-short c = subst HasShortLabels (sym c.calibration_of.ensures) (short_labels c.args.mdb.now c.args.number c.is_sound.ensures)
