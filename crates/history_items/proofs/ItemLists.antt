-- Rows and databases among items.
use Rattle.std.proofs.Common.{◌≡◌, ◌⊎◌, inl, inr, ℕ, zero, suc, ◌+◌, ◌-◌, ◌≤◌, ◌<◌, List, [], ◌∷◌, ◌++◌, length, take, map, Bool, true, false, Some, refl, sym, ap, subst, ◌∙◌, arith}
use Rattle.std.specs.Prelude.{filter, nat_lt, slice_get, if◌then◌else◌, ◌||◌}
use Rattle.std.specs.List.{AllByRecursion, enumerate_from, filter_map, list_any}
use Rattle.std.proofs.lemmas.Bool.{cases_lt}
use Rattle.std.proofs.lemmas.Bool.Decides.{nat_tests}
use Rattle.std.proofs.lemmas.List.Elements.{filter_map-append}
use Rattle.arch_types.specs.declared.row.Row.{Row}
use Rattle.arch_types.specs.History.{IsHistory, ingested, is_duplicate_of, with_row}
use Rattle.arch_types.proofs.Histories.{keeps_history}
use Rattle.history_items.specs.declared.items.Item.{Item}
use Rattle.history_items.specs.declared.items.Item.TheVariants as items
use Rattle.history_items.specs.Items.{after_row, after_rows, database_of_item, databases_in, has_key_of, is_row_with, items_of, placed_from, placed_item, row_item, row_of_item, rows_in}

-- ---- parts

pub rows_in-append : (before after : List Item) → rows_in (before ++ after) ≡ rows_in before ++ rows_in after
rows_in-append before after = filter_map-append row_of_item before after

pub databases_in-append : (before after : List Item) → databases_in (before ++ after) ≡ databases_in before ++ databases_in after
databases_in-append before after = filter_map-append database_of_item before after

pub items_of-append : (before after : List Row) → items_of (before ++ after) ≡ items_of before ++ items_of after
items_of-append [] after = refl
items_of-append (row ∷ before) after = ap (λ (l : List Item). row_item row ∷ l) (items_of-append before after)

pub length-items_of : (rows : List Row) → length (items_of rows) ≡ length rows
length-items_of [] = refl
length-items_of (row ∷ rows) = ap suc (length-items_of rows)

pub rows_of_rows : (rows : List Row) → rows_in (items_of rows) ≡ rows
rows_of_rows [] = refl
rows_of_rows (row ∷ rows) = ap (λ (l : List Row). row ∷ l) (rows_of_rows rows)

pub no_databases : (rows : List Row) → databases_in (items_of rows) ≡ []
no_databases [] = refl
no_databases (row ∷ rows) = no_databases rows

-- the rows of a history, and some more behind it
pub rows_behind : (history : List Item) (rows : List Row) → rows_in (history ++ items_of rows) ≡ rows_in history ++ rows
rows_behind history rows = rows_in-append history (items_of rows) ∙ ap (λ (l : List Row). rows_in history ++ l) (rows_of_rows rows)

-- a row that stands among items is among their rows
pub all_in : (P : Row → Type 0) (history : List Item) (place : ℕ) (row : Row) → AllByRecursion P (rows_in history) → slice_get history place ≡ Some (row_item row) → P row
all_in P [] place row all at = absurd cc
all_in P (items.Mdb database ∷ history) zero row all at = absurd cc
all_in P (items.Mdb database ∷ history) (suc place) row all at = all_in P history place row all at
all_in P (items.Row x ∷ history) zero row all at = let same : x ≡ row = cc in subst P same all.0
all_in P (items.Row x ∷ history) (suc place) row all at = all_in P history place row all.1 at

-- ---- what comes to a history

-- a test of rows, asked of items
pub any_row_with : (test : Row → Bool) (history : List Item) → list_any (is_row_with test) history ≡ list_any test (rows_in history)
any_row_with test [] = refl
any_row_with test (items.Mdb database ∷ history) = any_row_with test history
any_row_with test (items.Row row ∷ history) = ap (λ (b : Bool). test row || b) (any_row_with test history)

pub any_row_of : (test : Row → Bool) (rows : List Row) → list_any (is_row_with test) (items_of rows) ≡ list_any test rows
any_row_of test rows = any_row_with test (items_of rows) ∙ ap (list_any test) (rows_of_rows rows)

pub rows_after_row : (history : List Item) (row : Row) → rows_in (after_row history row) ≡ with_row (rows_in history) row
rows_after_row history row =
    go (list_any (has_key_of row) history) ∙ ap (λ (b : Bool). if b then rows_in history else rows_in history ++ row ∷ []) (any_row_with (is_duplicate_of row) history)
  where
    go : (b : Bool) → rows_in (if b then history else history ++ row_item row ∷ []) ≡ (if b then rows_in history else rows_in history ++ row ∷ [])
    go true = refl
    go false = rows_in-append history (row_item row ∷ [])

pub rows_after_rows : (history : List Item) (rows : List Row) → rows_in (after_rows history rows) ≡ ingested (rows_in history) rows
rows_after_rows history [] = refl
rows_after_rows history (row ∷ rows) = rows_after_rows (after_row history row) rows ∙ ap (λ (l : List Row). ingested l rows) (rows_after_row history row)

pub keeps_rows : (history : List Item) (rows : List Row) → IsHistory (rows_in history) → IsHistory (rows_in (after_rows history rows))
keeps_rows history rows is = subst IsHistory (sym (rows_after_rows history rows)) (keeps_history (rows_in history) rows is)

-- a row that comes to rows comes to their items
pub items_with_row : (rows : List Row) (row : Row) → items_of (with_row rows row) ≡ after_row (items_of rows) row
items_with_row rows row =
    go (list_any (is_duplicate_of row) rows) ∙ ap (λ (b : Bool). if b then items_of rows else items_of rows ++ row_item row ∷ []) (sym (any_row_of (is_duplicate_of row) rows))
  where
    go : (b : Bool) → items_of (if b then rows else rows ++ row ∷ []) ≡ (if b then items_of rows else items_of rows ++ row_item row ∷ [])
    go true = refl
    go false = items_of-append rows (row ∷ [])

pub items_ingested : (rows more : List Row) → items_of (ingested rows more) ≡ after_rows (items_of rows) more
items_ingested rows [] = refl
items_ingested rows (row ∷ more) = items_ingested (with_row rows row) more ∙ ap (λ (l : List Item). after_rows l more) (items_with_row rows row)

-- ---- places

enumerate-append : {X : Type 0} (first : ℕ) (before after : List X) → enumerate_from first (before ++ after) ≡ enumerate_from first before ++ enumerate_from (first + length before) after
enumerate-append first [] after = let none : first ≡ first + 0 = omega arith in ap (λ (n : ℕ). enumerate_from n after) none
enumerate-append {X = X} first (x ∷ before) after =
    let next : first + 1 + length before ≡ first + suc (length before) = omega arith in
    ap (λ (l : List (ℕ × X)). (first, x) ∷ l) (enumerate-append (first + 1) before after ∙ ap (λ (n : ℕ). enumerate_from (first + 1) before ++ enumerate_from n after) next)

pub placed_from-append : (first : ℕ) (before after : List Item) → placed_from first (before ++ after) ≡ placed_from first before ++ placed_from (first + length before) after
placed_from-append first before after = ap (filter_map placed_item) (enumerate-append first before after) ∙ filter_map-append placed_item (enumerate_from first before) (enumerate_from (first + length before) after)

pub placed_rows : (first : ℕ) (history : List Item) → map (λ placed. placed.1) (placed_from first history) ≡ rows_in history
placed_rows first [] = refl
placed_rows first (items.Mdb database ∷ history) = placed_rows (first + 1) history
placed_rows first (items.Row row ∷ history) = ap (λ (l : List Row). row ∷ l) (placed_rows (first + 1) history)

abbrev rows_below : ℕ → List (ℕ × Row) → List Row
rows_below front placed = map (λ p. p.1) (filter (λ p. nat_lt p.0 front) placed)

below_front : (first front : ℕ) (history : List Item) → rows_below front (placed_from first history) ≡ rows_in (take (front - first) history)
below_front first front [] = go (front - first)
  where
    go : (n : ℕ) → ◌≡◌ {A = List Row} [] (rows_in (take n []))
    go zero = refl
    go (suc n) = refl
below_front first front (items.Mdb database ∷ history) = below_front (first + 1) front history ∙ go (cases_lt first front)
  where
    go : first < front ⊎ front ≤ first → rows_in (take (front - (first + 1)) history) ≡ rows_in (take (front - first) (items.Mdb database ∷ history))
    go (inl lt) = let n : front - first ≡ suc (front - (first + 1)) = omega arith in rw n refl
    go (inr le) =
        let n : front - first ≡ 0 = omega arith in
        let m : front - (first + 1) ≡ 0 = omega arith in
        rw (n, m) refl
below_front first front (items.Row row ∷ history) = go (cases_lt first front) (below_front (first + 1) front history)
  where
    go : first < front ⊎ front ≤ first → rows_below front (placed_from (first + 1) history) ≡ rows_in (take (front - (first + 1)) history)
        → rows_below front ((first, row) ∷ placed_from (first + 1) history) ≡ rows_in (take (front - first) (items.Row row ∷ history))
    go (inl lt) others =
        let n : front - first ≡ suc (front - (first + 1)) = omega arith in
        let test : nat_lt first front ≡ true = grind (arith, nat_tests) in
        rw (n, test) (ap (λ (l : List Row). row ∷ l) others)
    go (inr le) others =
        let n : front - first ≡ 0 = omega arith in
        let m : front - (first + 1) ≡ 0 = omega arith in
        let test : nat_lt first front ≡ false = grind (arith, nat_tests) in
        rw (n, test) (others ∙ (rw m refl))

pub rows_below_front : (front : ℕ) (history : List Item) → rows_below front (placed_from 0 history) ≡ rows_in (take front history)
rows_below_front front history =
    let same : front - 0 ≡ front = omega arith in
    subst (λ (n : ℕ). rows_below front (placed_from 0 history) ≡ rows_in (take n history)) same (below_front 0 front history)
