use Rattle.live_fills.proofs.Causes.{cause_stays}
use Rattle.live_fills.proofs.Notes.{note_stays}
use Rattle.live_fills.proofs.laws.notes_stay.Goals as goal

pub returns : goal.returns
returns g c = record {
  notes = note_stays;
  causes = λ first places front history noted fills refusal more on cause. cause_stays g.D.Disk.device first places front history noted fills more on refusal cause;
}
