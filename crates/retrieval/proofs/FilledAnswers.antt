-- The answer over a store's plan is that over its history with its fills.
use Rattle.std.proofs.Common.{◌≡◌, ℕ, ℤ, ◌≤ℤ◌, ◌<ℤ◌, ◌<◌, List, [], ◌∷◌, ◌++◌, Bool, true, false, cond, Option, Some, None, true≢false, refl, sym, ◌∙◌, ap, arith}
use Rattle.std.specs.Prelude.{filter, flat_map, int_lt, not, option_map, IsSome, if◌then◌else◌}
use Rattle.std.specs.List.{AllByRecursion, filter_map}
use Rattle.std.specs.Option.{is_some, option_map_or}
use Rattle.std.proofs.lemmas.Bool.{and_parts}
use Rattle.std.proofs.lemmas.Bool.Decides.{nat_tests}
use Rattle.std.proofs.lemmas.Int.{ints}
use Rattle.asks.specs.declared.ask.Request.{Request}
use Rattle.arch_types.specs.declared.cell.Cell.{Cell}
use Rattle.arch_disk.specs.Disk.{Device}
use Rattle.intervals.specs.declared.interval.Interval.{Interval}
use Rattle.arch_types.specs.declared.row.Row.{Row}
use Rattle.container_extract.specs.Extraction.{cell_of}
use Rattle.container_extract.specs.Answer.{as_asked}
use Rattle.history_items.specs.Fills.{base_in}
use Rattle.history_items.specs.declared.items.Item.{Item}
use Rattle.history_items.specs.Late.{IsLastIn, last_in}
use Rattle.history_items.proofs.Late.{last_is_greatest}
use Rattle.interval_fills.specs.Intervals.{NoneSince, rows_of_interval}
use Rattle.interval_walks.specs.Turns.{rows_in_turn}
use Rattle.interval_walks.proofs.Turns.{ranges}
use Rattle.late_marks.specs.Mark.{is_late_by}
use Rattle.mdb_items.specs.Database.{Database}
use Rattle.param_segments.specs.CellRange.{is_cell_in_range}
use Rattle.param_segments.specs.declared.plan.Part.{Part}
use Rattle.param_segments.specs.declared.plan.Part.TheVariants.{Rows, Set}
use Rattle.param_segments.specs.declared.plan.Plan.{Plan}
use Rattle.param_segments.specs.Rows.{SetRow}
use Rattle.store_fills.specs.Filled.{HoldsRows}
use Rattle.store_fills.specs.LastFills.{fillings_in}
use Rattle.store_fills.specs.Sound.{AreSound, Filling, Fillings, base_of_filling}
use Rattle.archive_store.proofs.CurrentSets.{current_by_fill, late_by_fill}
use Rattle.archive_store.specs.Pages.{TellsRows}
use Rattle.archive_store.specs.Plans.{IsPlan, IsPlanPart, interval_of_part, plan_intervals}
use Rattle.archive_store.specs.StoreView.{StoreView}
use Rattle.archive_store.proofs.Planning.{none_in_range}
use Rattle.retrieval.specs.FilledAnswer.{cells_of_fill, cells_of_interval, filled_answer, intervals_of_range}
use Rattle.retrieval.specs.Laws.{FilledIsAnswered}
use Rattle.part_answers.specs.PartCells.{answer_over_parts, cells_of_part, cells_of_rows}
use Rattle.retrieval.proofs.OneList.{asked_covers, asked_have, asked_rises, range_one}
use Rattle.part_answers.proofs.OverRows.{joined, timely_cells}
use Rattle.archive_store.specs.LateFills.{is_late_by_fill}

-- ---- a part has the cells of its interval

module _ {D : Type 0} (device : Device D) (store : StoreView D) (told : TellsRows device store) (bases : (i : Interval) → base_in i store.fills ≡ base_of_filling (fillings_in store.filled) i) (db : Database) (q : ℕ) (low high : ℤ) where
  abbrev of_interval : Interval → List Cell
  of_interval = cells_of_interval db q low high store.exponent store.history (fillings_in store.filled)

  by_lateness : (i : Interval) (b : Bool) → is_late_by_fill store.exponent store.history (fillings_in store.filled) i ≡ b
      → of_interval i ≡ (if b then cells_of_rows db q low high (rows_of_interval store.exponent i store.history) else cells_of_fill db q low high (fillings_in store.filled i))
  by_lateness i b late = ap (λ (t : Bool). if t then cells_of_rows db q low high (rows_of_interval store.exponent i store.history) else cells_of_fill db q low high (fillings_in store.filled i)) late

  part_cells : (part : Part) → IsPlanPart device store part → cells_of_part db q low high part ≡ of_interval (interval_of_part part)
  part_cells (Set i set) current =
      sym (by_lateness i false (current_by_fill store.exponent store.history store.fills store.filled i bases current.current) ∙ ap (cells_of_fill db q low high) current.filled)
  part_cells (Rows i rows) late =
      ap (cells_of_rows db q low high) (late.2 told) ∙ sym (by_lateness i true (late_by_fill store.exponent store.history store.fills store.filled i bases late.0))

  pub parts_cells : (parts : List Part) → AllByRecursion (IsPlanPart device store) parts → flat_map (cells_of_part db q low high) parts ≡ flat_map of_interval (plan_intervals parts)
  parts_cells [] all = refl
  parts_cells (part ∷ parts) all =
      ap (λ (l : List Cell). l ++ flat_map (cells_of_part db q low high) parts) (part_cells part all.0) ∙ ap (λ (l : List Cell). of_interval (interval_of_part part) ++ l) (parts_cells parts all.1)

-- ---- a range that ends no later than it begins has no cells

flat_none : (f : Interval → List Cell) (is : List Interval) → ((i : Interval) → f i ≡ []) → flat_map f is ≡ []
flat_none f [] each = refl
flat_none f (i ∷ is) each = ap (λ (l : List Cell). l ++ flat_map f is) (each i) ∙ flat_none f is each

module _ (low high : ℤ) (empty : high ≤ℤ low) where
  not_less : (b : Bool) → not b ≡ true → b ≡ false
  not_less true e = absurd cc
  not_less false e = refl

  no_cells : (cells : List Cell) → filter (is_cell_in_range low high) cells ≡ []
  no_cells [] = refl
  no_cells (cell ∷ cells) = go (is_cell_in_range low high cell) refl (no_cells cells)
    where
      between : is_cell_in_range low high cell ≡ true → ⊥
      between within =
          let p = and_parts (not (int_lt cell.key.time low)) (int_lt cell.key.time high) within in
          let not_low = not_less (int_lt cell.key.time low) p.0 in
          let least : low ≤ℤ cell.key.time = grind (arith, ints, not_low) in
          let most : cell.key.time <ℤ high = grind (arith, ints, p.1) in
          omega (arith, ints, least, most, empty)

      go : (b : Bool) → is_cell_in_range low high cell ≡ b → filter (is_cell_in_range low high) cells ≡ [] → cond b (cell ∷ filter (is_cell_in_range low high) cells) (filter (is_cell_in_range low high) cells) ≡ []
      go true within rest = absurd (between within)
      go false without rest = rest

  fill_none : (db : Database) (q : ℕ) (filling : Option (Filling (List SetRow))) → cells_of_fill db q low high filling ≡ []
  fill_none db q None = refl
  fill_none db q (Some filling) = no_cells _

  interval_none : (db : Database) (q : ℕ) (rows : List Row) (filling : Option (Filling (List SetRow))) (b : Bool) → (if b then cells_of_rows db q low high rows else cells_of_fill db q low high filling) ≡ []
  interval_none db q rows filling true = ap (filter_map (cell_of db q)) (none_in_range low high empty rows)
  interval_none db q rows filling false = fill_none db q filling

-- ---- the answer

pub plan_filled : {D : Type 0} (device : Device D) (store : StoreView D) (db : Database) (q : ℕ) (request : Request) (plan : Plan) → ((i : Interval) → base_in i store.fills ≡ base_of_filling (fillings_in store.filled) i)
    → TellsRows device store → IsPlan device store request.from request.to plan
    → answer_over_parts db q request plan.parts ≡ filled_answer db q request store.exponent store.history (fillings_in store.filled)
plan_filled device store db q request plan bases told planned =
    ap (as_asked request) (parts_cells device store told bases db q request.from request.to plan.parts planned.each ∙ by_range (int_lt request.from request.to) refl)
  where
    f : Interval → List Cell
    f = cells_of_interval db q request.from request.to store.exponent store.history (fillings_in store.filled)

    asked : List Interval
    asked = intervals_of_range store.exponent request.from request.to store.history

    by_range : (b : Bool) → int_lt request.from request.to ≡ b → flat_map f (plan_intervals plan.parts) ≡ flat_map f asked
    by_range true test =
        let less : request.from <ℤ request.to = grind (arith, ints, test) in
        ap (flat_map f) (range_one store.exponent request.from request.to store.history (plan_intervals plan.parts) planned.rising planned.meets (planned.cover less))
    by_range false test =
        let empty : request.to ≤ℤ request.from = grind (arith, ints, test) in
        let each = λ (i : Interval). interval_none request.from request.to empty db q (rows_of_interval store.exponent i store.history) (fillings_in store.filled i) (is_late_by_fill store.exponent store.history (fillings_in store.filled) i) in
        flat_none f (plan_intervals plan.parts) each ∙ sym (flat_none f asked each)

-- ---- sound fills

module _ (db : Database) (q : ℕ) (low high : ℤ) (exponent : ℕ) (history : List Item) (fillings : Fillings (List SetRow)) (sound : AreSound exponent (HoldsRows db) history fillings) where
  abbrev of_rows : Interval → List Cell
  of_rows i = cells_of_rows db q low high (rows_of_interval exponent i history)

  -- the set of an interval that isn't late and has rows
  set_holds : (i : Interval) (o : Option ℕ) → IsLastIn exponent i history o → is_some o ≡ true → (f : Option (Filling (List SetRow))) → fillings i ≡ f
      → option_map_or (λ last. is_late_by last (option_map (λ g. g.base) f)) o false ≡ false → cells_of_fill db q low high f ≡ of_rows i
  set_holds i None last some f there punctual = absurd (true≢false (sym some))
  set_holds i (Some l) last some None there punctual = absurd (true≢false punctual)
  set_holds i (Some l) last some (Some f) there punctual =
      let before : l < f.base = grind (arith, nat_tests, punctual) in
      let since : NoneSince exponent i f.base history = λ p changes. let most = last.2 p changes in omega (arith, most, before) in
      ap (filter (is_cell_in_range low high)) (sound.each i f there since q) ∙ timely_cells db q low high (rows_of_interval exponent i history)

  interval_holds : (i : Interval) → is_some (last_in exponent i history) ≡ true → cells_of_interval db q low high exponent history fillings i ≡ of_rows i
  interval_holds i some = go (is_late_by_fill exponent history fillings i) refl
    where
      go : (b : Bool) → is_late_by_fill exponent history fillings i ≡ b → (if b then of_rows i else cells_of_fill db q low high (fillings i)) ≡ of_rows i
      go true late = refl
      go false punctual = set_holds i (last_in exponent i history) (last_is_greatest exponent i history) some (fillings i) refl punctual

  pub intervals_hold : (is : List Interval) → AllByRecursion (λ i. IsSome (last_in exponent i history)) is
      → flat_map (cells_of_interval db q low high exponent history fillings) is ≡ cells_of_rows db q low high (rows_in_turn exponent is history)
  intervals_hold [] all = refl
  intervals_hold (i ∷ is) all =
      ap (λ (l : List Cell). l ++ flat_map (cells_of_interval db q low high exponent history fillings) is) (interval_holds i all.0)
      ∙ ap (λ (l : List Cell). of_rows i ++ l) (intervals_hold is all.1) ∙ joined db q low high (rows_of_interval exponent i history) (rows_in_turn exponent is history)

pub filled_answered : FilledIsAnswered
filled_answered db exponent history fillings request number sound =
    let is = intervals_of_range exponent request.from request.to history in
    ap (as_asked request) (intervals_hold db number request.from request.to exponent history fillings sound is (asked_have exponent request.from request.to history)
    ∙ ap (filter_map (cell_of db number)) (ranges exponent is request.from request.to history (asked_rises exponent request.from request.to history) (asked_covers exponent request.from request.to history)))
