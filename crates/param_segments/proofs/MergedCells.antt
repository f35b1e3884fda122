-- The cells of a set's segments: merged they are those of the rows, and in one segment their keys rise.
use Rattle.std.proofs.Common.{◌≡◌, ◌∙◌, ℕ, ℤ, List, [], ◌∷◌, ◌++◌, map, get_or, Bool, true, false, refl, sym, ap, subst}
use Rattle.std.specs.Prelude.{flat_map, fold, if◌then◌else◌}
use Rattle.std.specs.List.{AllByRecursion, filter_map}
use Rattle.std.specs.List.Sorted.{IsStrictlySortedBy}
use Rattle.std.proofs.lemmas.List.{map-append}
use Rattle.arch_types.specs.declared.cell.Cell.{Cell}
use Rattle.arch_types.specs.declared.key.Key.{Key}
use Rattle.arch_types.specs.Order.{key_cmp, order_by, place_by}
use Rattle.mdb_items.specs.Database.{Database}
use Rattle.container_extract.specs.Values.{IsRawValue}
use Rattle.segment_codec.specs.Segment.{IsSegment}
use Rattle.segment_codec.specs.declared.segment.Segment.{Segment}
use Rattle.param_segments.specs.declared.raw_cell.RawCell.{RawCell}
use Rattle.param_segments.specs.Cells.{AreValuesOf, is_cell_before, is_cell_earlier, raw_cell_of, set_cells, with_eng}
use Rattle.param_segments.specs.Groups.{segment_of, set_of}
use Rattle.param_segments.specs.Laws.{RawCellsMakeTheCells, SegmentCellsRise, SegmentsMakeTheCells, SegmentsMakeTheRawCells}
use Rattle.param_segments.specs.Rows.{SetRow}
use Rattle.param_segments.specs.Segments.{column_tail, rows_from, rows_of_segment}
use Rattle.param_segments.proofs.CellOrder.{own_key}
use Rattle.param_segments.proofs.Calibrated.{calibrated_are}
use Rattle.param_segments.proofs.NumberedSegments.{all_get, segments_hold}
use Rattle.param_segments.proofs.SegmentCells.{cells_rise, segments_make_cells}
use Rattle.param_segments.proofs.Stored.{set_is_segments}

-- ---- one segment

pub own_keys : (ps : List ℕ) (ks : List Key) (cs : List (List ℤ)) → map (λ t. t.key) (rows_from ps ks cs) ≡ ks
own_keys ps [] cs = refl
own_keys ps (k ∷ ks) cs = ap (λ (xs : List Key). k ∷ xs) (own_keys ps ks (map column_tail cs))

segment_rises : (q : ℕ) (s : Segment) → IsSegment s → IsStrictlySortedBy key_cmp (map (λ c. c.key) (filter_map (raw_cell_of q) (rows_of_segment s)))
segment_rises q s is = cells_rise (raw_cell_of q) (rows_of_segment s) (own_key q) (subst (IsStrictlySortedBy key_cmp) (sym (own_keys s.parameters s.keys s.columns)) is.rising)

pub segment_cells_rise : SegmentCellsRise
segment_cells_rise rows q number are lt = segment_rises q (get_or (set_of rows) number (segment_of [] [])) (all_get IsSegment (set_of rows) number (segment_of [] []) (set_is_segments rows are) lt)

-- ---- all of them

-- what keeps an order may be done before or after
module _ {X Y : Type 0} (f : X → Y) (lt : X → X → Bool) (less : Y → Y → Bool) (same : (a b : X) → less (f a) (f b) ≡ lt a b) where
  place_cases : (b : Bool) (x y : X) (ys : List X) → place_by less (map f ys) (f x) ≡ map f (place_by lt ys x) →
      (if b then f x ∷ f y ∷ map f ys else f y ∷ place_by less (map f ys) (f x)) ≡ map f (if b then x ∷ y ∷ ys else y ∷ place_by lt ys x)
  place_cases true x y ys e = refl
  place_cases false x y ys e = ap (λ (zs : List Y). f y ∷ zs) e

  place_map : (ys : List X) (x : X) → place_by less (map f ys) (f x) ≡ map f (place_by lt ys x)
  place_map [] x = refl
  place_map (y ∷ ys) x = ap (λ (b : Bool). if b then f x ∷ f y ∷ map f ys else f y ∷ place_by less (map f ys) (f x)) (same x y) ∙ place_cases (lt x y) x y ys (place_map ys x)

  fold_map : (placed xs : List X) → fold (place_by less) (map f placed) (map f xs) ≡ map f (fold (place_by lt) placed xs)
  fold_map placed [] = refl
  fold_map placed (x ∷ xs) = ap (λ (zs : List Y). fold (place_by less) zs (map f xs)) (place_map placed x) ∙ fold_map (place_by lt placed x) xs

  pub order_map : (xs : List X) → order_by less (map f xs) ≡ map f (order_by lt xs)
  order_map xs = fold_map [] xs

each_calibrated : (db : Database) (q : ℕ) (ss : List Segment) → AllByRecursion (λ s. AreValuesOf db (rows_of_segment s)) ss →
    map (with_eng db q) (flat_map (λ s. filter_map (raw_cell_of q) (rows_of_segment s)) ss) ≡ flat_map (λ s. set_cells db q (rows_of_segment s)) ss
each_calibrated db q [] all = refl
each_calibrated db q (s ∷ ss) all =
    let rest = flat_map (λ s. filter_map (raw_cell_of q) (rows_of_segment s)) ss in
    map-append (with_eng db q) (filter_map (raw_cell_of q) (rows_of_segment s)) rest
    ∙ ap (λ (cells : List Cell). cells ++ map (with_eng db q) rest) (calibrated_are db q (rows_of_segment s) all.0)
    ∙ ap (λ (cells : List Cell). set_cells db q (rows_of_segment s) ++ cells) (each_calibrated db q ss all.1)

pub segments_make_the_raw_cells : SegmentsMakeTheRawCells
segments_make_the_raw_cells rows q are = segments_make_cells q rows are

pub segments_make_the_cells : SegmentsMakeTheCells
segments_make_the_cells db rows q are values =
    let P : SetRow → Type 0 = λ row. AllByRecursion (IsRawValue db) row.values in
    let raw : List RawCell = flat_map (λ s. filter_map (raw_cell_of q) (rows_of_segment s)) (set_of rows) in
    ap (order_by is_cell_before) (sym (each_calibrated db q (set_of rows) (segments_hold P rows values)))
    ∙ order_map (with_eng db q) is_cell_earlier is_cell_before (λ a b. refl) raw
    ∙ ap (map (with_eng db q)) (segments_make_cells q rows are) ∙ calibrated_are db q rows values

pub raw_cells_make_the_cells : RawCellsMakeTheCells
raw_cells_make_the_cells db rows q values = calibrated_are db q rows values
