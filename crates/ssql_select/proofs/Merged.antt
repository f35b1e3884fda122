-- The rows of several tables, merged.
use Rattle.std.proofs.Common.{◌≡◌, ℕ, suc, ℤ, ◌+◌, ◌<◌, ◌≤◌, List, [], ◌∷◌, ◌++◌, length, get_or, take, arith, Option, Some, None, Bool, true, false, not, refl, sym, ap, ◌∙◌, append-nil, append_assoc, subst}
use Rattle.std.specs.Prelude.{filter, flat_map, fold, IfSome, ◌&&◌}
use Rattle.std.specs.List.{AllByRecursion}
use Rattle.std.specs.List.Sorted.{IsSortedBy}
use Rattle.std.proofs.Math.Seq.{take-suc}
use Rattle.std.proofs.lemmas.Grind.{flat_map-append}
use Rattle.std.proofs.lemmas.List.{take_all}
use Rattle.std.proofs.lemmas.List.Elements.{filter-append, filter_passes, recursion_from_All}
use Rattle.arch_types.specs.declared.row.Row.{Row}
use Rattle.arch_types.specs.Order.{is_before, place_by}
use Rattle.arch_types.specs.Table.{sorted, range_of}
use Rattle.arch_types.proofs.Ranks.{rows_rank}
use Rattle.arch_types.proofs.Ordered.{filter-order}
use Rattle.arch_types.proofs.InOrder.{order_sorted}
use Rattle.partitions.specs.declared.partition.Partition.{Partition}
use Rattle.partitions.specs.Rows.{is_of_parts}
use Rattle.replay_merge.specs.RowSource.{IsKeyedRow, IsRowBetween, AreInKeyOrder, range_of_parts}
use Rattle.replay_merge.proofs.Sorting.{ascending, same_sorted}
use Rattle.replay_merge.proofs.Tied.{is_tied}
use Rattle.replay_merge.proofs.Reading.{all_both}
use Rattle.ssql_select.specs.Selection.{rows_between_of, ranged_in_parts, merged_between}

-- ---- a stable sort of rows is their order

tied_cases : (a b : Bool) → (not a && not b) ≡ true → (a ≡ false) × (b ≡ false)
tied_cases true b both = absurd cc
tied_cases false true both = absurd cc
tied_cases false false both = (refl, refl)

-- a row that ties with a row isn't below another that does
not_below : (z x y : Row) → is_tied z x ≡ true → is_tied z y ≡ true → is_before x y ≡ false
not_below z x y tied_x tied_y = rows_rank.chain x z y (tied_cases (is_before z x) (is_before x z) tied_x).1 (tied_cases (is_before z y) (is_before y z) tied_y).0

-- an item that is below none is put last
placed_last : (acc : List Row) (x : Row) → AllByRecursion (λ y. is_before x y ≡ false) acc → place_by is_before acc x ≡ acc ++ x ∷ []
placed_last [] x all = refl
placed_last (y ∷ acc) x all = rw all.0 (ap (λ (l : List Row). y ∷ l) (placed_last acc x all.1))

none_above : (z x : Row) (acc : List Row) → is_tied z x ≡ true → AllByRecursion (λ y. is_tied z y ≡ true) acc → AllByRecursion (λ y. is_before x y ≡ false) acc
none_above z x [] tied all = tt
none_above z x (y ∷ acc) tied all = (not_below z x y tied all.0, none_above z x acc tied all.1)

folded_tied : (z : Row) (acc xs : List Row) → AllByRecursion (λ y. is_tied z y ≡ true) acc → AllByRecursion (λ y. is_tied z y ≡ true) xs → fold (place_by is_before) acc xs ≡ acc ++ xs
folded_tied z acc [] before all = sym (append-nil acc)
folded_tied z acc (x ∷ xs) before all =
    ap (λ (l : List Row). fold (place_by is_before) l xs) (placed_last acc x (none_above z x acc all.0 before))
    ∙ folded_tied z (acc ++ x ∷ []) xs (all_both (λ y. is_tied z y ≡ true) acc (x ∷ []) before (all.0, tt)) all.1
    ∙ append_assoc acc (x ∷ []) xs

-- rows that tie with a row stay as they stand
tied_stay : (z : Row) (rows : List Row) → filter (is_tied z) (sorted rows) ≡ filter (is_tied z) rows
tied_stay z rows =
    filter-order rows_rank (is_tied z) rows
    ∙ folded_tied z [] (filter (is_tied z) rows) tt (recursion_from_All (λ y. is_tied z y ≡ true) (filter (is_tied z) rows) (filter_passes (is_tied z) rows))

-- rows in key order of which those that tie stand as they stood are the rows in their order
pub stable_is_sorted : (given rows : List Row) → IsSortedBy is_before rows → ((z : Row) → filter (is_tied z) rows ≡ filter (is_tied z) given) → rows ≡ sorted given
stable_is_sorted given rows in_order stable =
    same_sorted rows_rank rows (sorted given) (ascending rows_rank rows in_order) (ascending rows_rank (sorted given) (order_sorted given)) (λ z. stable z ∙ sym (tied_stay z given))

-- rows in key order are in their order
pub sorted_already : (rows : List Row) → IsSortedBy is_before rows → rows ≡ sorted rows
sorted_already rows in_order = stable_is_sorted rows rows in_order (λ z. refl)

-- a single table
pub one_of_tables : (tables : List ℕ) → length tables ≡ 1 → tables ≡ get_or tables 0 0 ∷ []
one_of_tables [] one = absurd (omega (arith, one))
one_of_tables (table ∷ []) one = refl
one_of_tables (table ∷ other ∷ tables) one = absurd (omega (arith, one))

-- ---- what is told of the rows

module _ (parts : List Partition) (from to : ℤ) (front : ℕ) where
  -- of one table
  pub one_told : (told : Option (ℕ → List Row)) (table : ℕ) (rows : List Row) → AreInKeyOrder rows → IfSome told (λ history. rows ≡ range_of_parts table parts from to (history front)) →
      IfSome told (λ history. rows ≡ sorted (rows_between_of (table ∷ []) parts from to (history front)))
  one_told None table rows in_order got = tt
  one_told (Some history) table rows in_order got =
      sorted_already rows in_order ∙ ap sorted (got ∙ sym (append-nil (ranged_in_parts parts from to (history front) table)))

  -- of several, put in order
  pub merged_told : (told : Option (ℕ → List Row)) (tables : List ℕ) (given rows : List Row) → IsSortedBy is_before rows → ((z : Row) → filter (is_tied z) rows ≡ filter (is_tied z) given) →
      IfSome told (λ history. given ≡ rows_between_of tables parts from to (history front)) → IfSome told (λ history. rows ≡ sorted (rows_between_of tables parts from to (history front)))
  merged_told None tables given rows in_order stable got = tt
  merged_told (Some history) tables given rows in_order stable got = stable_is_sorted given rows in_order stable ∙ ap sorted got

-- ---- one table more

flat_next : (f : ℕ → List Row) (xs : List ℕ) (i x : ℕ) → i < length xs → x ≡ get_or xs i x → flat_map f (take i xs) ++ f x ≡ flat_map f (take (i + 1) xs)
flat_next f xs i x within is =
    let next : i + 1 ≡ suc i = omega arith in
    let last : flat_map f (x ∷ []) ≡ f x = append-nil (f x) in
    ap (λ (l : List Row). flat_map f (take i xs) ++ l) (sym last) ∙ sym (flat_map-append f (take i xs) (x ∷ []))
    ∙ ap (λ (y : ℕ). flat_map f (take i xs ++ y ∷ [])) is ∙ ap (flat_map f) (sym (take-suc xs i x within)) ∙ ap (λ (n : ℕ). flat_map f (take n xs)) (sym next)

pub one_table_more : (parts : List Partition) (from to : ℤ) (front : ℕ) (told : Option (ℕ → List Row)) (tables : List ℕ) (i table : ℕ) (rows more all : List Row) → i < length tables → table ≡ get_or tables i table →
    IfSome told (λ history. rows ≡ rows_between_of (take i tables) parts from to (history front)) → IfSome told (λ history. more ≡ range_of_parts table parts from to (history front)) → all ≡ rows ++ more →
    IfSome told (λ history. all ≡ rows_between_of (take (i + 1) tables) parts from to (history front))
one_table_more parts from to front None tables i table rows more all within is so_far got added = tt
one_table_more parts from to front (Some history) tables i table rows more all within is so_far got added =
    added ∙ ap (λ (l : List Row). l ++ more) so_far ∙ ap (λ (l : List Row). rows_between_of (take i tables) parts from to (history front) ++ l) got
    ∙ flat_next (ranged_in_parts parts from to (history front)) tables i table within is

pub all_tables : (parts : List Partition) (from to : ℤ) (front : ℕ) (told : Option (ℕ → List Row)) (tables : List ℕ) (i : ℕ) (rows : List Row) → length tables ≤ i →
    IfSome told (λ history. rows ≡ rows_between_of (take i tables) parts from to (history front)) → IfSome told (λ history. rows ≡ rows_between_of tables parts from to (history front))
all_tables parts from to front told tables i rows le got =
    subst (λ (ts : List ℕ). IfSome told (λ history. rows ≡ rows_between_of ts parts from to (history front))) (take_all i tables le) got

-- ---- rows of partitions

-- what passes a test of lists put one behind the other
pub filter_flat : {A : Type 0} (q : Row → Bool) (f : A → List Row) (xs : List A) → filter q (flat_map f xs) ≡ flat_map (λ x. filter q (f x)) xs
filter_flat q f [] = refl
filter_flat {A} q f (x ∷ xs) = filter-append q (f x) (flat_map f xs) ∙ ap (λ (l : List Row). filter q (f x) ++ l) (filter_flat q f xs)

-- the merged rows of partitions are those of all merged rows
pub merged_in_parts : (tables : List ℕ) (parts : List Partition) (from to : ℤ) (history : List Row) →
    sorted (rows_between_of tables parts from to history) ≡ filter (is_of_parts parts) (merged_between tables from to history)
merged_in_parts tables parts from to history =
    ap sorted (sym (filter_flat (is_of_parts parts) (λ table. range_of table from to history) tables))
    ∙ sym (filter-order rows_rank (is_of_parts parts) (flat_map (λ table. range_of table from to history) tables))

pub keyed_between : (table : ℕ) (parts : List Partition) (from to : ℤ) (rows : List Row) → AllByRecursion (IsRowBetween table parts from to) rows → AllByRecursion IsKeyedRow rows
keyed_between table parts from to [] all = tt
keyed_between table parts from to (row ∷ rows) all = (all.0.keyed, keyed_between table parts from to rows all.1)
