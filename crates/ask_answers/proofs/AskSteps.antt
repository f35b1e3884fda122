-- Faults of reads leave the most steps of an ask as they were.
use Rattle.std.proofs.Common.{◌≡◌, ◌∙◌, ℕ, ℤ, Bool, false, List, [], ◌∷◌, ◌++◌, filter, length, Option, None, ap, refl, subst, sym}
use Rattle.std.specs.Prelude.{◌&&◌, fold}
use Rattle.std.specs.List.{AllByRecursion}
use Rattle.std.specs.Option.{option_map_or}
use Rattle.std.proofs.lemmas.List.Elements.{filter_agree}
use Rattle.std.proofs.lemmas.List.Sums.{fold-append}
use Rattle.arch_disk.specs.Disk.{Device}
use Rattle.arch_types.specs.declared.row.Row.{Row}
use Rattle.arch_types.specs.Table.{is_in_time_range, table_of}
use Rattle.intervals.specs.declared.interval.Interval.{Interval}
use Rattle.interval_walks.specs.Counts.{row_interval}
use Rattle.interval_walks.specs.Turns.{meets_range}
use Rattle.late_marks.specs.Mark.{is_late_by}
use Rattle.history_items.specs.declared.fills.Fill.{Fill}
use Rattle.history_items.specs.declared.items.Item.{Item}
use Rattle.history_items.specs.Fills.{base_after, base_in}
use Rattle.history_items.specs.Items.{rows_in}
use Rattle.history_items.specs.Late.{is_late_in, last_in}
use Rattle.archive_store.specs.Plans.{is_late_of_range, late_rows_of_range}
use Rattle.archive_store.specs.StoreView.{StoreView}
use Rattle.archive_store.specs.UnreadRows.{IsFaultOfRead, IsReadOn}
use Rattle.retrieval.specs.declared.found_asks.FoundAsk.{FoundAsk}
use Rattle.retrieval.specs.declared.found_asks.FoundAsk.TheVariants as found_ask
use Rattle.ask_answers.specs.Asks.{steps_of_ask}

-- such a fault is no fill of an interval
no_base : (interval : Interval) (base : Option ℕ) (faults : List Fill) → AllByRecursion IsFaultOfRead faults → fold (base_after interval) base faults ≡ base
no_base interval base [] each = refl
no_base interval base (item ∷ faults) each =
    subst (λ (f : Fill). fold (base_after interval) base (f ∷ faults) ≡ base) (sym each.0.1) (no_base interval base faults each.1)

-- so the same intervals are late,
module _ (exponent : ℕ) (history : List Item) (fills faults : List Fill) (each : AllByRecursion IsFaultOfRead faults) where
  as_late : (interval : Interval) → is_late_in exponent interval history (fills ++ faults) ≡ is_late_in exponent interval history fills
  as_late interval =
      ap (λ (base : Option ℕ). option_map_or (λ last. is_late_by last base) (last_in exponent interval history) false)
      (fold-append (base_after interval) None fills faults ∙ no_base interval (base_in interval fills) faults each)

  -- and the same rows are left to extract
  same_rows : (low high : ℤ) → late_rows_of_range exponent history (fills ++ faults) low high ≡ late_rows_of_range exponent history fills low high
  same_rows low high =
      filter_agree (λ (row : Row). is_late_of_range exponent history (fills ++ faults) low high (row_interval exponent row)) (λ (row : Row). is_late_of_range exponent history fills low high (row_interval exponent row))
      (λ row. ap (λ (late : Bool). late && meets_range exponent low high (row_interval exponent row)) (as_late (row_interval exponent row))) (table_of 0 (rows_in history))

pub same_steps : {D : Type 0} (device : Device D) (old new : StoreView D) → IsReadOn device old new → (ask : FoundAsk) → steps_of_ask new ask ≡ steps_of_ask old ask
same_steps {D} device old new on (found_ask.Replay asked) = refl
same_steps {D} device old new on (found_ask.Values asked) =
    let low = asked.request.from in
    let high = asked.request.to in
    ap (λ (s : StoreView D). steps_of_ask s (found_ask.Values asked)) on.same
    ∙ ap (λ (rows : List Row). length (filter (is_in_time_range low high) rows)) (same_rows old.exponent old.history old.fills on.faults on.each low high)
