use Rattle.std.proofs.Common.{◌≡◌, ◌++◌, [], ℕ, List, length, sym, ◌∙◌, ap, subst, arith}
use Rattle.arch_types.specs.declared.row.Row.{Row}
use Rattle.std.specs.List.{AllByRecursion}
use Rattle.history_items.specs.declared.fills.Fill.{Fill}
use Rattle.store_fills.specs.Faults.{IsDone}
use Rattle.history_items.specs.declared.items.Item.{Item}
use Rattle.history_items.specs.Items.{databases_in, items_of}
use Rattle.archive_history.specs.History.{HistoryView}
use Rattle.fill_tracker.specs.FillTracker.{AreMarksOf}
use Rattle.archive_reading.specs.PartialArchive.{HoldsFills}
use Rattle.archive_reading.proofs.Fillable.{holds_later}
use Rattle.archive_images.proofs.RowsAlone.{more_alone}
use Rattle.archive_reading.proofs.rows.admit.Goals as goal

pub are_placed-requires : goal.are_placed-requires
are_placed-requires c = c.requires.marks.3

pub touch-requires-clause-small : goal.touch-requires-clause-small
touch-requires-clause-small c = omega (arith, c.len-first.ensures.rows, c.len-first.ensures.within.few, c.requires.entry.few, ap length c.as_slice-3.ensures)

pub returns-clause-marks : goal.returns-clause-marks
returns-clause-marks c all =
    let made = c.args.made.now in
    let items : List Item = made.history.items in
    let rows : List Row = c.args.rows in
    let roomy : c.reserve.new.self.items ≡ items = ap (λ (h : HistoryView). h.items) c.in_ok-reserve.ensures.ok in
    let kept = ap (λ (h : HistoryView). h.exponent) c.in_ok-reserve.ensures.ok in
    let format = c.exponent.ensures ∙ kept in
    let stays = c.add_all.ensures.exponent ∙ kept in
    let before = subst (λ (e : ℕ). AreMarksOf e items c.reserve_rows.new.self.fills c.reserve_rows.new.self.marks) (sym format) (c.reserve_rows.ensures.marks made.history.exponent items c.requires.marks.1) in
    let marks = subst (λ (e : ℕ). AreMarksOf e (items ++ items_of c.as_slice-3.result.now) c.touch.new.self.fills c.touch.new.self.marks) format (c.touch.ensures.marks items (omega (arith, c.len-first.ensures.len, ap length roomy)) before) in
    let touched = subst (λ (l : List Row). AreMarksOf made.history.exponent (items ++ items_of l) c.touch.new.self.fills c.touch.new.self.marks) c.as_slice-3.ensures marks in
    let added = c.add_all.ensures.items all ∙ ap (λ (l : List Item). l ++ items_of rows) roomy in
    let alone = more_alone items rows c.requires.marks.3 in
    let fills = c.touch.ensures.fills ∙ c.reserve_rows.ensures.fills in (
      subst (AllByRecursion IsDone) (sym fills) c.requires.marks.0,
      subst (λ (e : ℕ). AreMarksOf e c.add_all.new.self.items c.touch.new.self.fills c.touch.new.self.marks) (sym stays)
          (subst (λ (l : List Item). AreMarksOf made.history.exponent l c.touch.new.self.fills c.touch.new.self.marks) (sym added) touched),
      subst (λ (e : ℕ). HoldsFills made.head e c.add_all.new.self.items c.touch.new.self.fills made.sets.filled) (sym stays)
          (subst (λ (l : List Item). HoldsFills made.head made.history.exponent l c.touch.new.self.fills made.sets.filled) (sym added)
          (subst (λ (l : List Fill). HoldsFills made.head made.history.exponent (items ++ items_of rows) l made.sets.filled) (sym fills)
          (holds_later made.head made.history.exponent items (items ++ items_of rows) made.tracker.fills made.sets.filled c.requires.marks.3 alone c.requires.marks.2))),
      subst (λ (l : List Item). databases_in l ≡ []) (sym added) alone,
    )
