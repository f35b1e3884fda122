use Rattle.std.proofs.Common.{◌≡◌, [], ◌∙◌, ℕ, List, ap, subst, sym}
use Rattle.param_segments.specs.Rows.{SetRow}
use Rattle.history_items.specs.declared.items.Item.{Item}
use Rattle.history_items.specs.Items.{databases_in}
use Rattle.archive_history.specs.History.{HistoryView}
use Rattle.intervals.specs.Interval.{format_1_exponent}
use Rattle.fill_tracker.specs.FillTracker.{AreMarksOf}
use Rattle.store_fills.specs.Faults.{IsDone}
use Rattle.std.specs.List.{AllByRecursion}
use Rattle.store_fills.specs.LastFills.{fillings_in}
use Rattle.store_fills.specs.Sound.{Fillings}
use Rattle.store_fills.proofs.Bases.{none_filled}
use Rattle.archive_images.specs.Entries.{filled_archive}
use Rattle.archive_reading.proofs.Fillable.{holds_none}
use Rattle.archive_reading.proofs.partial.of_head.Goals as goal

pub returns-clause-made : goal.returns-clause-made
returns-clause-made c =
    let empty : c.in_ok-history.history.items ≡ [] = ap (λ (h : HistoryView). h.items) c.in_ok-history.ensures in
    let format : c.in_ok-history.history.exponent ≡ format_1_exponent = ap (λ (h : HistoryView). h.exponent) c.in_ok-history.ensures ∙ c.of_format_1.ensures in
    ap (λ (e : ℕ). filled_archive c.args.head e c.in_ok-history.history.items (fillings_in c.new-sets.result.filled)) format
    ∙ ap (λ (l : List Item). filled_archive c.args.head format_1_exponent l (fillings_in c.new-sets.result.filled)) empty
    ∙ ap (λ (f : Fillings (List SetRow)). filled_archive c.args.head format_1_exponent [] f) (none_filled c.new-sets.result.filled c.new-sets.ensures)

pub returns-clause-marks : goal.returns-clause-marks
returns-clause-marks c =
    let empty : c.in_ok-history.history.items ≡ [] = ap (λ (h : HistoryView). h.items) c.in_ok-history.ensures in
    let tracker = c.new-tracker.result in (
      subst (AllByRecursion IsDone) (sym c.new-tracker.ensures.fills) tt,
      subst (λ (l : List Item). AreMarksOf c.in_ok-history.history.exponent l tracker.fills tracker.marks) (sym empty) (c.new-tracker.ensures.marks c.in_ok-history.history.exponent),
      holds_none c.args.head c.in_ok-history.history.exponent c.in_ok-history.history.items tracker.fills c.new-sets.result.filled c.new-tracker.ensures.fills (none_filled c.new-sets.result.filled c.new-sets.ensures),
      ap databases_in empty,
    )
