-- Items that are rows alone.
use Rattle.std.proofs.Common.{◌≡◌, ℕ, zero, suc, ◌+◌, ◌-◌, ◌<◌, ◌≤◌, true, arith, List, [], ◌∷◌, ◌++◌, length, refl, sym, ap, ◌∙◌, subst}
use Rattle.std.specs.Prelude.{slice_get, Some, None, take, ◌&&◌}
use mathlib.Core.List.{IsPrefix}
use Rattle.arch_types.specs.declared.row.Row.{Row}
use Rattle.history_items.specs.declared.items.Item.{Item}
use Rattle.history_items.specs.declared.items.Item.TheVariants as items
use Rattle.arch_types.specs.declared.key.Key.{Key}
use Rattle.arch_types.specs.History.{has_key, is_in_table}
use Rattle.archive_history.specs.History.{is_at_key}
use Rattle.archive_history.proofs.PlacedRows.{rows_cut}
use Rattle.history_items.specs.Items.{items_of, prefix, row_item, rows_in}
use Rattle.history_items.proofs.ItemLists.{items_of-append, rows_of_rows}

-- the first of some rows' items are rows alone, and the first of these rows
pub prefix_alone : (xs : List Item) (rows : List Row) → IsPrefix xs (items_of rows) → (xs ≡ items_of (rows_in xs)) × IsPrefix (rows_in xs) rows
prefix_alone [] rows begins = (refl, (rows, refl))
prefix_alone (items.Row row ∷ xs) [] begins = let is = begins.1 in absurd cc
prefix_alone (items.Mdb database ∷ xs) [] begins = let is = begins.1 in absurd cc
prefix_alone (items.Mdb database ∷ xs) (next ∷ rows) begins = let is = begins.1 in absurd cc
prefix_alone (items.Row row ∷ xs) (next ∷ rows) begins =
    let is = begins.1 in
    let same : row ≡ next = cc in
    let later : xs ++ begins.0 ≡ items_of rows = cc in
    let rest = prefix_alone xs rows (begins.0, later) in (
      ap (λ (l : List Item). row_item row ∷ l) rest.0,
      (rest.1.0, ap (λ (r : Row). r ∷ (rows_in xs ++ rest.1.0)) same ∙ ap (λ (l : List Row). next ∷ l) rest.1.1),
    )

-- likewise behind rows that are there
pub log_alone : (xs before : List Item) (rows : List Row) → before ≡ items_of (rows_in before) → IsPrefix xs (before ++ items_of rows) → (xs ≡ items_of (rows_in xs)) × IsPrefix (rows_in xs) (rows_in before ++ rows)
log_alone xs before rows alone begins =
    let whole : before ++ items_of rows ≡ items_of (rows_in before ++ rows) = ap (λ (l : List Item). l ++ items_of rows) alone ∙ sym (items_of-append (rows_in before) rows) in
    prefix_alone xs (rows_in before ++ rows) (subst (IsPrefix xs) whole begins)

-- the first of them
pub below_front : (xs : List Item) → xs ≡ items_of (rows_in xs) → (front : ℕ) → rows_in (prefix front xs) ≡ take front (rows_in xs)
below_front xs alone front = ap (λ (l : List Item). rows_in (prefix front l)) alone ∙ rows_cut front (rows_in xs)

-- the row at a place
pub record HasRow (rows : List Row) (place : ℕ) (there : Item) : Type 0 where
  pub row : Row
  pub at : slice_get rows place ≡ Some row
  pub is : there ≡ row_item row
  pub within : place < length rows

row_found : (rows : List Row) (place : ℕ) (there : Item) → slice_get (items_of rows) place ≡ Some there → HasRow rows place there
row_found [] place there at = absurd cc
row_found (row ∷ rows) zero there at = let same : row_item row ≡ there = cc in record { row = row; at = refl; is = sym same; within = omega arith }
row_found (row ∷ rows) (suc place) there at =
    let rest = row_found rows place there at in
    record { row = rest.row; at = rest.at; is = rest.is; within = omega (arith, rest.within) }

pub row_there : (xs : List Item) (place : ℕ) (there : Item) → xs ≡ items_of (rows_in xs) → slice_get xs place ≡ Some there → HasRow (rows_in xs) place there
row_there xs place there alone at = row_found (rows_in xs) place there (subst (λ (l : List Item). slice_get l place ≡ Some there) alone at)

-- it has the table and key that the item has
pub key_there : (table : ℕ) (key : Key) (there : Item) (row : Row) → there ≡ row_item row → is_at_key table key there ≡ true → (is_in_table table row && has_key key row) ≡ true
key_there table key there row same is = subst (λ (i : Item). is_at_key table key i ≡ true) same is
