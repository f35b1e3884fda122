use Rattle.std.proofs.Common.{◌≡◌, true, sym, ◌∙◌, ap, subst}
use Rattle.late_marks.specs.Marks.{Marks, has_rows}
use Rattle.store_fills.specs.LastFills.{PlacedFills, filling_of, fillings_in}
use Rattle.store_fills.specs.Sound.{with_filling}
use Rattle.sealed_opening.proofs.TakenFills.{keeps_roomier}
use Rattle.sealed_opening.proofs.fills.FillRecords.note_fill.Goals as goal

pub finish-requires-clause-rows : goal.finish-requires-clause-rows
finish-requires-clause-rows c = subst (λ (m : Marks). has_rows m c.args.interval ≡ true) (sym c.reserve.ensures.same.1) c.requires

pub returns-clause-marks : goal.returns-clause-marks
returns-clause-marks c = keeps_roomier c.args.self.now.tracker c.reserve.new.self c.finish.new.self c.reserve.ensures.same c.finish.ensures.placed

pub returns-clause-sets : goal.returns-clause-sets
returns-clause-sets c = c.put.ensures ∙ ap (λ (f : PlacedFills). with_filling (fillings_in f) c.args.interval (filling_of c.args.fill)) c.reserve-2.ensures.same
