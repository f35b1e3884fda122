-- The position of the row that has a key in a table, by the rows below each front, and what a source tells of it.
use Rattle.std.proofs.Common.{◌≡◌, ℕ, zero, suc, pos, ◌+◌, ◌<◌, ◌≤◌, arith, List, [], ◌∷◌, length, take, Bool, true, false, true≢false, Option, Some, None, refl, sym, ◌∙◌, ap, subst, add-one}
use Rattle.std.specs.Prelude.{IfNone, IfSome, slice_get, ◌==◌, ◌&&◌, ◌||◌}
use Rattle.std.specs.List.{list_any, AllByRecursion}
use Rattle.std.proofs.Math.Seq.{take-length}
use Rattle.std.proofs.lemmas.Bool.{or_from, or_parts, or_right}
use Rattle.std.proofs.lemmas.Bool.Decides.{nat_tests}
use Rattle.arch_types.specs.declared.key.Key.{Key}
use Rattle.arch_types.specs.declared.row.Row.{Row}
use Rattle.arch_types.specs.History.{IsHistory, has_key, is_duplicate_of, is_in_table}
use Rattle.history_items.specs.declared.items.Item.{Item}
use Rattle.history_items.specs.declared.items.Item.TheVariants as kinds
use Rattle.history_items.specs.Items.{rows_in}
use Rattle.history_items.proofs.ItemLists.{all_in, any_row_with}
use Rattle.history_items.proofs.Outcomes.{each_other}
use Rattle.archive_history.specs.History.{is_at_key}
use Rattle.replay_merge.specs.RowSource.{AreRowSourceHistories, IsPositionOf, RowSourceState, UsedRowSource, has_row_at}
use Rattle.archive_store.specs.Classifying.{TellsItems}
use Rattle.archive_store.specs.Replays.{rows_below}

-- ---- one of two holds

the_second : (a b : Bool) → a ≡ false → (a || b) ≡ true → b ≡ true
the_second true b none e = absurd (true≢false none)
the_second false b none e = e

the_first : (a : Bool) → (a || false) ≡ true → a ≡ true
the_first true e = refl
the_first false e = e

-- ---- a table that no row is in

other_number : (a b n : ℕ) → b < n → n ≤ a → (a == b) ≡ false
other_number a b n less most = grind (arith, nat_tests, less, most)

pub no_position : (table : ℕ) (key : Key) (n : ℕ) (rows : List Row) → AllByRecursion (λ row. row.table < n) rows → n ≤ table → has_row_at table key rows ≡ false
no_position table key n [] all most = refl
no_position table key n (row ∷ rows) all most =
    ap (λ (b : Bool). (b && has_key key row) || has_row_at table key rows) (other_number table row.table n all.0 most) ∙ no_position table key n rows all.1 most

-- ---- the item that has a key

module _ (table : ℕ) (key : Key) where
  abbrev at : Item → Bool
  at = is_at_key table key

  abbrev is_at : Row → Bool
  is_at row = is_in_table table row && has_key key row

  -- a row of the table and the key
  abbrev made : Row
  made = record { key = key; rectime = pos 0; packet = []; link = 0; pname = 0; table = table }

  -- an item of the key
  abbrev IsThere : List Item → ℕ → Type 0
  IsThere items p = (there : Item) × (slice_get items p ≡ Some there) × (at there ≡ true)

  -- none stands behind a row of it in a history
  not_behind : (row : Row) (items : List Item) (p : ℕ) (there : Item) → AllByRecursion (λ later. is_duplicate_of later row ≡ false) (rows_in items) → slice_get items p ≡ Some there → at there ≡ true → is_duplicate_of made row ≡ true → ⊥
  not_behind row items p (kinds.Row other) all found passes here =
      true≢false (sym (each_other made other row passes here) ∙ all_in (λ later. is_duplicate_of later row ≡ false) items p other all found)
  not_behind row items p (kinds.Mdb database) all found passes here = absurd cc

  none_before : (items : List Item) (p : ℕ) (there : Item) → IsHistory (rows_in items) → slice_get items p ≡ Some there → at there ≡ true → list_any at (take p items) ≡ false
  none_before [] p there is found passes = absurd cc
  none_before (item ∷ items) zero there is found passes = refl
  none_before (kinds.Row row ∷ items) (suc p) there is found passes = by (is_duplicate_of made row) refl (none_before items p there is.1 found passes)
    where
      by : (b : Bool) → is_duplicate_of made row ≡ b → list_any at (take p items) ≡ false → list_any at (take (suc p) (kinds.Row row ∷ items)) ≡ false
      by true e later = absurd (not_behind row items p there is.0 found passes e)
      by false e later = ap (λ (b : Bool). b || list_any at (take p items)) e ∙ later
  none_before (kinds.Mdb database ∷ items) (suc p) there is found passes = none_before items p there is found passes

  some_upto : (items : List Item) (p : ℕ) (there : Item) → slice_get items p ≡ Some there → at there ≡ true → list_any at (take (suc p) items) ≡ true
  some_upto [] p there found passes = absurd cc
  some_upto (item ∷ items) zero there found passes = let same : item ≡ there = cc in ap (λ (i : Item). at i || false) same ∙ ap (λ (b : Bool). b || false) passes
  some_upto (item ∷ items) (suc p) there found passes = or_right (at item) (list_any at (take (suc p) items)) (some_upto items p there found passes)

  none_taken : (n : ℕ) (items : List Item) → list_any at items ≡ false → list_any at (take n items) ≡ false
  none_taken zero items none = refl
  none_taken (suc n) [] none = refl
  none_taken (suc n) (item ∷ items) none =
      let both = or_parts (at item) (list_any at items) none in
      or_from (at item) (list_any at (take n items)) both.0 (none_taken n items both.1)

  -- so the place of its item is its position
  pub position_is : (items : List Item) (found : Option ℕ) → IsHistory (rows_in items) → IfSome found (IsThere items) → IfNone found (list_any at items ≡ false) → IsPositionOf (rows_below items) table key found
  position_is items (Some p) is (there, found, passes) none = (
    sym (any_row_with is_at (take p items)) ∙ none_before items p there is found passes,
    sym (any_row_with is_at (take (p + 1) items)) ∙ ap (λ (n : ℕ). list_any at (take n items)) (add-one p) ∙ some_upto items p there found passes,
  )
  position_is items None is some none = λ front. sym (any_row_with is_at (take front items)) ∙ none_taken front items none

  -- ---- and the other way round

  there_at : (items : List Item) (p : ℕ) → list_any at (take p items) ≡ false → list_any at (take (suc p) items) ≡ true → IsThere items p
  there_at [] p none some = absurd (true≢false (sym some))
  there_at (item ∷ items) zero none some = (item, refl, the_first (at item) some)
  there_at (item ∷ items) (suc p) none some =
      let both = or_parts (at item) (list_any at (take p items)) none in
      there_at items p both.1 (the_second (at item) (list_any at (take (suc p) items)) both.0 some)

  pub item_at : (items : List Item) (p : ℕ) → IsPositionOf (rows_below items) table key (Some p) → IsThere items p
  item_at items p is =
      there_at items p (any_row_with is_at (take p items) ∙ is.0) (ap (λ (n : ℕ). list_any at (take n items)) (sym (add-one p)) ∙ any_row_with is_at (take (p + 1) items) ∙ is.1)

  pub no_item_at : (items : List Item) → IsPositionOf (rows_below items) table key None → list_any at items ≡ false
  no_item_at items is =
      subst (λ (l : List Item). list_any at l ≡ false) (take-length items) (any_row_with is_at (take (length items) items) ∙ is (length items))

-- ---- a source that tells the rows of items

module _ (source : RowSourceState) (items : List Item) (count : ℕ) (tells : TellsItems source items count) where
  pub told_position : (table : ℕ) (key : Key) (found : Option ℕ) → IfSome source.history (λ history. IsPositionOf history table key found) → IsPositionOf (rows_below items) table key found
  told_position table key found = subst (λ (o : Option (ℕ → List Row)). IfSome o (λ history. IsPositionOf history table key found)) tells.told

  -- they are a history
  pub told_history : IfSome source.history AreRowSourceHistories → IsHistory (rows_in items)
  told_history are =
      let each = subst (λ (o : Option (ℕ → List Row)). IfSome o AreRowSourceHistories) tells.told are in
      subst (λ (l : List Item). IsHistory (rows_in l)) (take-length items) (each (length items)).once

  -- also once it was used
  pub tells_later : (later : RowSourceState) → UsedRowSource source later → TellsItems later items count
  tells_later later used = record { told = used.told ∙ tells.told; all = tells.all }
