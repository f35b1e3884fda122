-- The tables of a history, as it grows.
use Rattle.std.proofs.Common.{◌≡◌, ◌≢◌, ⊎_elim, ℕ, zero, suc, pos, Some, ◌+◌, ◌<◌, ◌≤◌, List, [], ◌∷◌, ◌++◌, length, set, take, true, false, refl, sym, ◌∙◌, ap, subst, arith}
use Rattle.std.specs.Prelude.{slice_index_or, slice_get, vec_len, vec_capacity, replicate}
use Rattle.std.specs.Global.{Vec}
use Rattle.std.specs.declared.snapshot.Snapshot.{Snapshot}
use Rattle.std.specs.List.{list_any}
use Rattle.std.proofs.lemmas.Bool.{cases_eq}
use Rattle.std.proofs.lemmas.Bool.Decides.{nat_tests}
use Rattle.std.proofs.lemmas.List.{get_or-set_same, get_or-set_other, length-set, map-append}
use Rattle.arch_types.specs.declared.inserted.Inserted.{Inserted}
use Rattle.arch_types.specs.declared.inserted.Inserted.TheVariants.{New, Duplicate}
use Rattle.arch_types.specs.declared.key.Key.{Key}
use Rattle.arch_types.specs.declared.row.Row.{Row}
use Rattle.arch_types.specs.History.{is_in_table, is_duplicate_of, with_row}
use Rattle.history_items.specs.declared.items.Item.{Item}
use Rattle.history_items.specs.Items.{items_of, prefix, row_item, rows_in}
use Rattle.history_items.proofs.ItemLists.{any_row_of}
use Rattle.yarch_table.specs.declared.table.Stored.{Stored}
use Rattle.yarch_table.specs.Stored.{TableView, IsInserted, IsKeptAt, rows_of}
use Rattle.yarch_table.specs.Placed.{placed}
use Rattle.yarch_table.proofs.Histories.{inserted-placed, inserted-other, new-placed, duplicate-placed, kept_placed, any-placed}
use Rattle.arch_types.specs.History.{has_key}
use Rattle.archive_history.specs.History.{is_at_key}
use Rattle.archive_history.specs.Tables.{AreRowTables, noted_rows, no_table, table_in}
use Rattle.archive_history.proofs.Steps.{default_free}

-- ---- the same rows

-- the tables have the same rows
abbrev pub HaveSame : List TableView → List TableView → Type 0
HaveSame old new = (t : ℕ) → (table_in new t).stored ≡ (table_in old t).stored

-- tables with more room
pub roomier_tables : (old new : List TableView) (order order' : Vec (Snapshot Row)) (room room' : ℕ) → length new ≡ length old → HaveSame old new → order'.items ≡ order.items → AreRowTables 0 old order room
    → ((t : ℕ) → t < length new → room' ≤ (table_in new t).room) → vec_len order' + room' ≤ vec_capacity order' → AreRowTables 0 new order' room'
roomier_tables old new order order' room room' long same items hold has_room order_has_room = record {
  placed_in = λ t within. same t ∙ hold.placed_in t (omega (arith, within, long)) ∙ ap (λ (l : List (Snapshot Row)). placed t (noted_rows l)) (sym items);
  has_room = has_room;
  order_has_room = order_has_room;
}

-- ---- lengths

pub length-items : (order : List (Snapshot Row)) → length (noted_rows order) ≡ length order
length-items [] = refl
length-items (p ∷ order) = omega (arith, length-items order)

-- ---- one row more

module _ (old : List TableView) (t : ℕ) (T : TableView) (within : t < length old) where
  abbrev new : List TableView
  new = set old t T

  long : length new ≡ length old
  long = length-set old t T

  here : table_in new t ≡ T
  here = get_or-set_same old t T no_table within

  there : (u : ℕ) → u ≢ t → table_in new u ≡ table_in old u
  there u ne = get_or-set_other old t u T no_table ne

  -- a table that was put back as it was
  pub same_again : T ≡ table_in old t → HaveSame old new
  same_again is u = ⊎_elim (λ same. ap (λ (x : TableView). x.stored) (ap (table_in new) same ∙ here ∙ is ∙ sym (ap (table_in old) same))) (λ ne. ap (λ (x : TableView). x.stored) (there u ne)) (cases_eq u t)

  -- the tables after an insert at the history's end hold the rows of the history after it
  pub tables_inserted : (items : List Row) (row : Row) (result : Inserted) → row.table ≡ t → ((u : ℕ) → u < length old → (table_in old u).stored ≡ placed u items) → IsInserted (table_in old t) T row (length items) result
      → (u : ℕ) → u < length new → (table_in new u).stored ≡ placed u (with_row items row)
  tables_inserted items row result is all inserted u inside = ⊎_elim
      (λ same.
      let was : (table_in old t).stored ≡ placed row.table items = all t within ∙ ap (λ (n : ℕ). placed n items) (sym is) in
      ap (λ (n : ℕ). (table_in new n).stored) same ∙ ap (λ (x : TableView). x.stored) here ∙ inserted-placed (table_in old t) T items row result was inserted
      ∙ ap (λ (n : ℕ). placed n (with_row items row)) (is ∙ sym same))
      (λ ne.
      let other : is_in_table u row ≡ false = apart u row (λ e. ne (e ∙ is)) in
      ap (λ (x : TableView). x.stored) (there u ne) ∙ all u (omega (arith, inside, long)) ∙ sym (inserted-other u items row other))
      (cases_eq u t)
    where
      apart : (u : ℕ) (row : Row) → (u ≡ row.table → ⊥) → is_in_table u row ≡ false
      apart u row ne = grind (arith, nat_tests, ne)

  pub has_room_inserted : (room room' : ℕ) → room ≡ room' + 1 → ((u : ℕ) → u < length old → room ≤ (table_in old u).room) → (table_in old t).room ≤ T.room + 1 → (u : ℕ) → u < length new → room' ≤ (table_in new u).room
  has_room_inserted room room' one all left u inside = ⊎_elim
      (λ same. subst (λ (n : ℕ). room' ≤ (table_in new n).room) (sym same) (subst (λ (x : TableView). room' ≤ x.room) (sym here) (omega (arith, all t within, left, one))))
      (λ ne. subst (λ (x : TableView). room' ≤ x.room) (sym (there u ne)) (omega (arith, all u (omega (arith, inside, long)), one)))
      (cases_eq u t)

-- the history with one row more
pub items_more : (order : List (Snapshot Row)) (noted : Snapshot Row) (row : Row) → noted.value ≡ row → noted_rows (order ++ noted ∷ []) ≡ noted_rows order ++ row ∷ []
items_more order noted row is = map-append (λ (s : Snapshot Row). s.value) order (noted ∷ []) ∙ ap (λ (r : Row). noted_rows order ++ r ∷ []) is

-- what an insert into one of the tables did, at the end of the history
placed_insert : (old : List TableView) (T was : TableView) (order : Vec (Snapshot Row)) (row : Row) (position : ℕ) (result : Inserted) → table_in old row.table ≡ was → position ≡ length order.items
    → IsInserted was T row position result → IsInserted (table_in old row.table) T row (length (noted_rows order.items)) result
placed_insert old T was order row position result here at inserted =
    subst (λ (h : TableView). IsInserted h T row (length (noted_rows order.items)) result) (sym here)
    (subst (λ (n : ℕ). IsInserted was T row n result) (at ∙ sym (length-items order.items)) inserted)

-- tables with a new row
pub tables_with_new : (old : List TableView) (T was : TableView) (order order' : Vec (Snapshot Row)) (room room' : ℕ) (row : Row) (position p : ℕ) → row.table < length old → AreRowTables 0 old order room
    → table_in old row.table ≡ was → position ≡ length order.items → IsInserted was T row position (New p) → was.room ≤ T.room + 1
    → noted_rows order'.items ≡ noted_rows order.items ++ row ∷ [] → room ≡ room' + 1 → vec_len order' + room' ≤ vec_capacity order'
    → AreRowTables 0 (set old row.table T) order' room' × (with_row (noted_rows order.items) row ≡ noted_rows order.items ++ row ∷ [])
tables_with_new old T was order order' room room' row position p within hold here at insert left grown one order_has_room =
    let history = noted_rows order.items in
    let inserted = placed_insert old T was order row position (New p) here at insert in
    let fresh : with_row history row ≡ history ++ row ∷ [] = (new-placed (table_in old row.table) T history row p (hold.placed_in row.table within) inserted).1 in
    let room_left : (table_in old row.table).room ≤ T.room + 1 = omega (arith, left, ap (λ (h : TableView). h.room) here) in (
      record {
        placed_in = λ u inside. tables_inserted old row.table T within history row (New p) refl hold.placed_in inserted u inside ∙ ap (placed u) (fresh ∙ sym grown);
        has_room = has_room_inserted old row.table T within room room' one hold.has_room room_left;
        order_has_room = order_has_room;
      },
      fresh,
    )

-- tables that have the row's key already
pub tables_with_known : (old : List TableView) (T was : TableView) (order : Vec (Snapshot Row)) (room room' : ℕ) (row : Row) (position p : ℕ) → row.table < length old → AreRowTables 0 old order room
    → table_in old row.table ≡ was → position ≡ length order.items → IsInserted was T row position (Duplicate p) → room ≡ room' + 1
    → AreRowTables 0 (set old row.table T) order room' × (with_row (noted_rows order.items) row ≡ noted_rows order.items)
tables_with_known old T was order room room' row position p within hold here at insert one =
    let history = noted_rows order.items in
    let inserted = placed_insert old T was order row position (Duplicate p) here at insert in
    let again : T ≡ table_in old row.table = inserted.2 in
    let same = same_again old row.table T within again in
    let known = (duplicate-placed (table_in old row.table) T history row (length history) p (hold.placed_in row.table within) inserted).0 in (
      roomier_tables old (set old row.table T) order order room room' (length-set old row.table T) same refl hold
          (has_room_inserted old row.table T within room room' one hold.has_room (omega (arith, ap (λ (x : TableView). x.room) again)))
          (omega (arith, hold.order_has_room, one)),
      known,
    )

-- ---- one table

-- the table at an index has its rows of the history
pub table_rows : (tables : List TableView) (order : Vec (Snapshot Row)) (room t : ℕ) (there : TableView) → AreRowTables 0 tables order room → t < length tables → there ≡ slice_index_or tables t there → there.stored ≡ placed t (noted_rows order.items)
table_rows tables order room t there hold within is = ap (λ (h : TableView). h.stored) (is ∙ default_free tables t there no_table within) ∙ hold.placed_in t within

-- the rows below a front
pub rows_cut : (front : ℕ) (rows : List Row) → rows_in (prefix front (items_of rows)) ≡ take front rows
rows_cut zero rows = refl
rows_cut (suc front) [] = refl
rows_cut (suc front) (row ∷ rows) = ap (λ (l : List Row). row ∷ l) (rows_cut front rows)

-- ---- the row of a key

index_get : {X : Type 0} (xs : List X) (i : ℕ) (P : X → Type 0) → i < length xs → ((d : X) → P (slice_index_or xs i d)) → (x : X) × (slice_get xs i ≡ Some x) × P x
index_get [] i P within all = absurd (omega (arith, within))
index_get (x ∷ xs) zero P within all = (x, refl, all x)
index_get (x ∷ xs) (suc i) P within all = index_get xs i P (omega (arith, within)) all

get_item : (rows : List Row) (p : ℕ) (row : Row) → slice_get rows p ≡ Some row → slice_get (items_of rows) p ≡ Some (row_item row)
get_item [] p row at = absurd cc
get_item (x ∷ rows) zero row at = let same : x ≡ row = cc in ap (λ (r : Row). Some (row_item r)) same
get_item (x ∷ rows) (suc p) row at = get_item rows p row at

pub row_of_key : (stored : List Stored) (rows : List Row) (table : ℕ) (key : Key) (p : ℕ) → stored ≡ placed table rows → IsKeptAt stored key p → (there : Item) × (slice_get (items_of rows) p ≡ Some there) × (is_at_key table key there ≡ true)
row_of_key stored rows table key p is kept =
    let row : Row = record { key = key; rectime = pos 0; packet = []; link = 0; pname = 0; table = table } in
    let found = kept_placed rows row p (subst (λ (l : List Stored). IsKeptAt l key p) is kept) in
    let there = index_get rows p (λ there. is_duplicate_of row there ≡ true) found.0 found.1 in
    (row_item there.0, get_item rows p there.0 there.1, there.2)

pub no_row_of_key : (stored : List Stored) (rows : List Row) (table : ℕ) (key : Key) → stored ≡ placed table rows → list_any (has_key key) (rows_of stored) ≡ false → list_any (is_at_key table key) (items_of rows) ≡ false
no_row_of_key stored rows table key is none =
    let row : Row = record { key = key; rectime = pos 0; packet = []; link = 0; pname = 0; table = table } in
    any_row_of (is_duplicate_of row) rows ∙ sym (any-placed rows row) ∙ ap (λ (l : List Stored). list_any (has_key key) (rows_of l)) (sym is) ∙ none

-- ---- no rows

table_empty : (n t : ℕ) → table_in (replicate n no_table) t ≡ no_table
table_empty zero t = refl
table_empty (suc n) zero = refl
table_empty (suc n) (suc t) = table_empty n t

pub no_tables_yet : (n : ℕ) (order : Vec (Snapshot Row)) → order.items ≡ [] → vec_len order + 0 ≤ vec_capacity order → AreRowTables 0 (replicate n no_table) order 0
no_tables_yet n order none has_room = record {
  placed_in = λ t within. ap (λ (x : TableView). x.stored) (table_empty n t) ∙ ap (λ (l : List (Snapshot Row)). placed t (noted_rows l)) (sym none);
  has_room = λ t within. omega arith;
  order_has_room = has_room;
}
