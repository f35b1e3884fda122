-- Marks of rows at positions, with a run of rows of one table and of one interval behind them.
use Rattle.std.proofs.Common.{◌≡◌, ℕ, ◌+◌, List, [], ◌∷◌, ◌++◌, length, Bool, true, false, eqb, Option, Some, None, refl, sym, ap, subst, ◌∙◌, arith}
use Rattle.std.specs.List.{AllByRecursion}
use Rattle.std.specs.Option.{is_some}
use Rattle.std.specs.Ordering.{int_eq}
use Rattle.std.proofs.lemmas.Bool.Decides.{Decides-int_eq}
use Rattle.intervals.specs.declared.interval.Interval.{Interval}
use Rattle.arch_types.specs.declared.row.Row.{Row}
use Rattle.intervals.specs.Interval.{interval_of}
use Rattle.history_items.specs.declared.fills.Fill.{Fill}
use Rattle.history_items.specs.Fills.{base_in, in_flight}
use Rattle.history_items.specs.Items.{is_of_interval}
use Rattle.late_marks.specs.Mark.{touched}
use Rattle.late_marks.specs.Marks.{Marks, mark_of, Marked}
use Rattle.fill_tracker.specs.FillTracker.{AreOfOneInterval, mark_by}
use Rattle.fill_tracker.specs.Placed.{AreMarksOfPlaced, last_placed, placed_from}
use Rattle.fill_tracker.proofs.Marked.{elsewhere, in_first}
use Rattle.fill_tracker.proofs.Placed.{all_placed_from, last_placed-append, last_placed_from, later, later_none, none_placed_from, placed_more}
use Rattle.fill_tracker.proofs.Runs.{like_first}

-- all rows of a run are of an interval, or none is, as its first is
all_like_first : (e : ℕ) (j : Interval) (first : Row) (rest : List Row) (b : Bool) → AreOfOneInterval e (first ∷ rest) → is_of_interval e j first ≡ b → AllByRecursion (λ row. is_of_interval e j row ≡ b) (first ∷ rest)
all_like_first e j first rest b run is = (is, subst (λ (x : Bool). AllByRecursion (λ row. is_of_interval e j row ≡ x) rest) is (like_first e j first rest run))

module _ (e : ℕ) (placed : List (ℕ × Row)) (fills : List Fill) (position : ℕ) (first : Row) (rest : List Row) (run : AreOfOneInterval e (first ∷ rest)) where
  pub run_placed : (old new : Marks) (i : Interval) (last : ℕ) → last ≡ position + length rest → first.table ≡ 0 → i.0 ≡ interval_of e first.key.time → AreMarksOfPlaced e placed fills old
      → Marked old new i (touched (mark_of old i) last) → AreMarksOfPlaced e (placed ++ placed_from position (first ∷ rest)) fills new
  run_placed old new i last end table time are marked =
      let in_tm = in_first first.table table in
      let same : int_eq (interval_of e first.key.time) i.0 ≡ true = (Decides-int_eq (interval_of e first.key.time) i.0).1 (sym time) in
      let passes : is_of_interval e i first ≡ true = rw (in_tm, same) refl in
      let all = all_like_first e i first rest true run passes in
      placed_more e placed (placed_from position (first ∷ rest)) fills old new i last
      (record { of = all_placed_from e i position (first ∷ rest) all; last_is = last_placed_from e i position first rest all ∙ ap (λ (n : ℕ). Some n) (sym end) }) are marked

  -- rows of another table are of no interval
  pub run_elsewhere : (marks : Marks) → (first.table ≡ 0 → ⊥) → AreMarksOfPlaced e placed fills marks → AreMarksOfPlaced e (placed ++ placed_from position (first ∷ rest)) fills marks
  run_elsewhere marks other are = record {
    each = λ j. are.each j ∙ ap (λ (o : Option ℕ). mark_by o (base_in j fills) (is_some (in_flight j fills))) (sym (same j));
    known = λ j none. are.known j (sym (same j) ∙ none);
  }
    where
      fails : (j : Interval) → is_of_interval e j first ≡ false
      fails j = let not_tm = elsewhere first.table other in rw not_tm refl

      same : (j : Interval) → last_placed e j (placed ++ placed_from position (first ∷ rest)) ≡ last_placed e j placed
      same j =
          last_placed-append e j placed (placed_from position (first ∷ rest))
          ∙ ap (later (last_placed e j placed)) (none_placed_from e j position (first ∷ rest) (all_like_first e j first rest false run (fails j))) ∙ later_none (last_placed e j placed)
