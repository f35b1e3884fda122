-- Raw cells as a range asks for them, calibrated.
use Rattle.std.proofs.Common.{◌≡◌, ◌∙◌, ℕ, zero, suc, List, [], ◌∷◌, ◌++◌, map, reverse, Bool, true, false, cond, Option, Some, None, refl, sym, ap, subst}
use Rattle.std.specs.Prelude.{filter, take}
use Rattle.std.specs.List.{AllByRecursion}
use Rattle.std.proofs.lemmas.List.{map-append, reverse-append}
use Rattle.arch_types.specs.Directions.{in_direction, truncated}
use Rattle.arch_types.specs.declared.direction.Direction.{Direction}
use Rattle.arch_types.specs.declared.direction.Direction.TheVariants.{Ascending, Descending}
use Rattle.container_extract.specs.Values.{IsRawValue}
use Rattle.mdb_items.specs.Database.{Database}
use Rattle.param_segments.specs.CellRange.{as_range_asks, cells_in_range, is_cell_in_range, is_raw_cell_in_range, raw_cells_in_range}
use Rattle.param_segments.specs.Cells.{AreValuesOf, raw_value_of_cell, set_raw_cells, with_eng}
use Rattle.param_segments.specs.Rows.{SetRow}
use Rattle.param_segments.specs.declared.cell_range.CellRange.{CellRange}
use Rattle.param_segments.specs.declared.raw_cell.RawCell.{RawCell}
use Rattle.param_segments.proofs.Calibrated.{calibrated_are, values_are}

-- ---- what holds of all holds of those that are asked

module _ {X : Type 0} (P : X → Type 0) where
  kept_cases : (b : Bool) (x : X) (xs : List X) → P x → AllByRecursion P xs → AllByRecursion P (cond b (x ∷ xs) xs)
  kept_cases true x xs p all = (p, all)
  kept_cases false x xs p all = all

  pub all_filter : (test : X → Bool) (xs : List X) → AllByRecursion P xs → AllByRecursion P (filter test xs)
  all_filter test [] all = tt
  all_filter test (x ∷ xs) all = kept_cases (test x) x (filter test xs) all.0 (all_filter test xs all.1)

  pub all_take : (n : ℕ) (xs : List X) → AllByRecursion P xs → AllByRecursion P (take n xs)
  all_take zero xs all = tt
  all_take (suc n) [] all = tt
  all_take (suc n) (x ∷ xs) all = (all.0, all_take n xs all.1)

  all_append : (xs ys : List X) → AllByRecursion P xs → AllByRecursion P ys → AllByRecursion P (xs ++ ys)
  all_append [] ys p q = q
  all_append (x ∷ xs) ys p q = (p.0, all_append xs ys p.1 q)

  pub all_reverse : (xs : List X) → AllByRecursion P xs → AllByRecursion P (reverse xs)
  all_reverse [] all = tt
  all_reverse (x ∷ xs) all = subst (AllByRecursion P) (sym (reverse-append (x ∷ []) xs)) (all_append (reverse xs) (x ∷ []) (all_reverse xs all.1) (all.0, tt))

  pub all_directed : (direction : Direction) (xs : List X) → AllByRecursion P xs → AllByRecursion P (in_direction direction xs)
  all_directed Ascending xs all = all
  all_directed Descending xs all = all_reverse xs all

  all_truncated : (limit : Option ℕ) (xs : List X) → AllByRecursion P xs → AllByRecursion P (truncated limit xs)
  all_truncated None xs all = all
  all_truncated (Some n) xs all = all_take n xs all

  all_asked : (range : CellRange) (xs : List X) → AllByRecursion P xs → AllByRecursion P (as_range_asks range xs)
  all_asked range xs all = all_truncated range.limit (in_direction range.direction xs) (all_directed range.direction xs all)

-- ---- and a view of each may be taken before or after

module _ {X Y : Type 0} (f : X → Y) where
  map_take : (n : ℕ) (xs : List X) → map f (take n xs) ≡ take n (map f xs)
  map_take zero xs = refl
  map_take (suc n) [] = refl
  map_take (suc n) (x ∷ xs) = ap (λ (ys : List Y). f x ∷ ys) (map_take n xs)

  map_reverse : (xs : List X) → map f (reverse xs) ≡ reverse (map f xs)
  map_reverse [] = refl
  map_reverse (x ∷ xs) =
      ap (map f) (reverse-append (x ∷ []) xs) ∙ map-append f (reverse xs) (x ∷ []) ∙ ap (λ (ys : List Y). ys ++ f x ∷ []) (map_reverse xs) ∙ sym (reverse-append (f x ∷ []) (map f xs))

  map_directed : (direction : Direction) (xs : List X) → map f (in_direction direction xs) ≡ in_direction direction (map f xs)
  map_directed Ascending xs = refl
  map_directed Descending xs = map_reverse xs

  map_truncated : (limit : Option ℕ) (xs : List X) → map f (truncated limit xs) ≡ truncated limit (map f xs)
  map_truncated None xs = refl
  map_truncated (Some n) xs = map_take n xs

  map_asked : (range : CellRange) (xs : List X) → map f (as_range_asks range xs) ≡ as_range_asks range (map f xs)
  map_asked range xs = map_truncated range.limit (in_direction range.direction xs) ∙ ap (truncated range.limit) (map_directed range.direction xs)

  filter_cases : (b : Bool) (x : X) (xs : List X) (ys : List Y) → map f xs ≡ ys → map f (cond b (x ∷ xs) xs) ≡ cond b (f x ∷ ys) ys
  filter_cases true x xs ys e = ap (λ (zs : List Y). f x ∷ zs) e
  filter_cases false x xs ys e = e

  map_filter : (test : X → Bool) (seen : Y → Bool) → ((x : X) → seen (f x) ≡ test x) → (xs : List X) → map f (filter test xs) ≡ filter seen (map f xs)
  map_filter test seen same [] = refl
  map_filter test seen same (x ∷ xs) =
      filter_cases (test x) x (filter test xs) (filter seen (map f xs)) (map_filter test seen same xs) ∙ ap (λ (b : Bool). cond b (f x ∷ filter seen (map f xs)) (filter seen (map f xs))) (sym (same x))

-- ---- the cells of a set

abbrev IsValue : Database → ℕ → RawCell → Type 0
IsValue db q c = IsRawValue db (raw_value_of_cell q c)

pub asked_values : (db : Database) (q : ℕ) (range : CellRange) (rows : List SetRow) → AreValuesOf db rows → AllByRecursion (λ c. IsRawValue db (raw_value_of_cell q c)) (as_range_asks range (raw_cells_in_range q range.from range.to rows))
asked_values db q range rows values =
    let all = all_filter (IsValue db q) (is_raw_cell_in_range range.from range.to) (set_raw_cells q rows) (values_are db q rows values) in
    all_asked (IsValue db q) range (raw_cells_in_range q range.from range.to rows) all

pub asked_are : (db : Database) (q : ℕ) (range : CellRange) (rows : List SetRow) → AreValuesOf db rows → map (with_eng db q) (as_range_asks range (raw_cells_in_range q range.from range.to rows)) ≡ cells_in_range db q range rows
asked_are db q range rows values =
    map_asked (with_eng db q) range (raw_cells_in_range q range.from range.to rows)
    ∙ ap (as_range_asks range) (map_filter (with_eng db q) (is_raw_cell_in_range range.from range.to) (is_cell_in_range range.from range.to) (λ c. refl) (set_raw_cells q rows)
    ∙ ap (filter (is_cell_in_range range.from range.to)) (calibrated_are db q rows values))
