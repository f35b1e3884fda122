-- The pages outside which no row has a key in a range.
use Rattle.std.proofs.Common.{◌≡◌, ◌⊎◌, inl, inr, ℕ, ℤ, ◌+◌, ◌*◌, ◌<◌, ◌≤◌, Bool, true, false, not, List, [], ◌∷◌, ◌++◌, length, get_or, take, drop, Option, Some, None, refl, sym, ap, ◌∙◌, subst, arith}
use Rattle.std.specs.Prelude.{◌&&◌, ◌==◌, int_lt, slice_get}
use Rattle.std.specs.List.{AllByRecursion}
use Rattle.std.specs.Ordering.{int_cmp, is_le, is_lt, nat_cmp, ordering_then}
use Rattle.std.specs.declared.cmp.Ordering.{Ordering}
use Rattle.std.specs.declared.cmp.Ordering.TheVariants.{Less, Equal, Greater}
use Rattle.std.proofs.lemmas.Bool.{cases_lt}
use Rattle.std.proofs.lemmas.Int.{ints}
use Rattle.std.proofs.lemmas.List.{length-drop, nil_from_length, take-append-drop}
use Rattle.std.proofs.lemmas.Option.{slice_get-get_or}
use Rattle.arch_types.specs.declared.key.Key.{Key}
use Rattle.arch_types.specs.Order.{key_cmp}
use Rattle.arch_types.proofs.Ranks.{key_cmp_total}
use Rattle.run_pages.specs.Placed.{Placed, rows_of_placed}
use Rattle.run_pages.specs.Order.{are_ordered, follows}
use Rattle.run_pages.specs.Runs.{first_row_key, page_of_rows}
use Rattle.run_pages.specs.declared.index.PageEntry.{PageEntry}
use Rattle.run_pages.proofs.FoundPages.{front_ordered, length-entries}
use Rattle.run_pages.proofs.Joins.{both_true}
use Rattle.run_pages.proofs.OrderedRows.{first_is, same_key_is}
use Rattle.run_pages.proofs.RunIndex.{below_trans, less_of, page_number}
use Rattle.run_files.specs.Lookup.{IsPageFor}
use Rattle.run_files.specs.Run.{IsRunInMemory}
use Rattle.run_files.specs.declared.run.Run.{Run}
use Rattle.run_files.proofs.OwnPages.{at_most_last}
use Rattle.run_files.proofs.RunPages.{found}
use Rattle.joined_rows.proofs.SameRows.{each_by, exact_keys}
use Rattle.sealed_rows.specs.Calls.{IsAboveKey, IsBelowKey, IsOutside}
use Rattle.sealed_rows.specs.declared.wanted.Times.TheVariants.{Between}

-- ---- keys

below_by : (a b c : Key) (r : Ordering) → is_lt (key_cmp a b) ≡ true → key_cmp b c ≡ r → is_le r ≡ true → is_lt (key_cmp a c) ≡ true
below_by a b c Less lt e le = ap is_lt (key_cmp_total.trans a b c (less_of (key_cmp a b) lt) e)
below_by a b c Equal lt e le = subst (λ (k : Key). is_lt (key_cmp a k) ≡ true) (exact_keys b c e) lt
below_by a b c Greater lt e le = absurd cc

lt_le : (a b c : Key) → is_lt (key_cmp a b) ≡ true → is_le (key_cmp b c) ≡ true → is_lt (key_cmp a c) ≡ true
lt_le a b c lt le = below_by a b c (key_cmp b c) lt refl le

up_by : (a b c : Key) (r : Ordering) → key_cmp a b ≡ r → is_le r ≡ true → is_lt (key_cmp b c) ≡ true → is_lt (key_cmp a c) ≡ true
up_by a b c Less e le lt = ap is_lt (key_cmp_total.trans a b c e (less_of (key_cmp b c) lt))
up_by a b c Equal e le lt = subst (λ (k : Key). is_lt (key_cmp k c) ≡ true) (sym (exact_keys a b e)) lt
up_by a b c Greater e le lt = absurd cc

le_lt : (a b c : Key) → is_le (key_cmp a b) ≡ true → is_lt (key_cmp b c) ≡ true → is_lt (key_cmp a c) ≡ true
le_lt a b c le lt = up_by a b c (key_cmp a b) refl le lt

-- ---- rows that rise

each_below_from : (table : ℕ) (first next last : Key) (rows : List Placed) → are_ordered table first (Some next) (Some last) (rows_of_placed rows) ≡ true → (is_lt (key_cmp last next) ≡ true) × AllByRecursion (IsBelowKey next) rows
each_below_from table first next last [] e = (e, tt)
each_below_from table first next last (x ∷ rows) e =
    let a = both_true (x.row.table == table) _ e in
    let b = both_true (follows first (Some last) x.row.key) _ a.1 in
    let more = each_below_from table first next x.row.key rows b.1 in
    (below_trans last x.row.key next b.0 more.0, (more.0, more.1))

each_below : (table : ℕ) (first next : Key) (rows : List Placed) → are_ordered table first (Some next) None (rows_of_placed rows) ≡ true → AllByRecursion (IsBelowKey next) rows
each_below table first next [] e = tt
each_below table first next (x ∷ rows) e =
    let a = both_true (x.row.table == table) _ e in
    let b = both_true (follows first None x.row.key) _ a.1 in
    let more = each_below_from table first next x.row.key rows b.1 in
    (more.0, more.1)

each_above_from : (table : ℕ) (key first last : Key) (next : Option Key) (rows : List Placed) → is_lt (key_cmp key last) ≡ true → are_ordered table first next (Some last) (rows_of_placed rows) ≡ true → AllByRecursion (IsAboveKey key) rows
each_above_from table key first last next [] lt e = tt
each_above_from table key first last next (x ∷ rows) lt e =
    let a = both_true (x.row.table == table) _ e in
    let b = both_true (follows first (Some last) x.row.key) _ a.1 in
    let above = below_trans key last x.row.key lt b.0 in
    (above, each_above_from table key first x.row.key next rows above b.1)

each_above : (table : ℕ) (key first : Key) (next : Option Key) (rows : List Placed) → is_lt (key_cmp key first) ≡ true → are_ordered table first next None (rows_of_placed rows) ≡ true → AllByRecursion (IsAboveKey key) rows
each_above table key first next [] lt e = tt
each_above table key first next (x ∷ rows) lt e =
    let a = both_true (x.row.table == table) _ e in
    let b = both_true (follows first None x.row.key) _ a.1 in
    let above : is_lt (key_cmp key x.row.key) ≡ true = subst (λ (k : Key). is_lt (key_cmp key k) ≡ true) (sym (same_key_is x.row.key first b.0)) lt in
    (above, each_above_from table key first x.row.key next rows above b.1)

-- those before a row are below its key,
front_below : (table : ℕ) (a : List Placed) (y : Placed) (b : List Placed) → are_ordered table (first_row_key (a ++ y ∷ b)) None None (rows_of_placed (a ++ y ∷ b)) ≡ true → AllByRecursion (IsBelowKey y.row.key) a
front_below table [] y b e = tt
front_below table (x ∷ a) y b e = each_below table x.row.key y.row.key (x ∷ a) (front_ordered table x a (y ∷ b) e).0

-- and it and those behind it are ordered
back_ordered : (table : ℕ) (a : List Placed) (y : Placed) (b : List Placed) → are_ordered table (first_row_key (a ++ y ∷ b)) None None (rows_of_placed (a ++ y ∷ b)) ≡ true → are_ordered table y.row.key None None (rows_of_placed (y ∷ b)) ≡ true
back_ordered table [] y b e = e
back_ordered table (x ∷ a) y b e = (front_ordered table x a (y ∷ b) e).1 (λ none. absurd (cc none))

-- ---- the pages of a run

all_follow : (P Q : Placed → Type 0) → ((at : Placed) → P at → Q at) → (rows : List Placed) → AllByRecursion P rows → AllByRecursion Q rows
all_follow P Q follows [] all = tt
all_follow P Q follows (at ∷ rows) all = (follows at all.0, all_follow P Q follows rows all.1)

first_taken : (rows : List Placed) → first_row_key (take 64 rows) ≡ first_row_key rows
first_taken [] = refl
first_taken (x ∷ rows) = refl

module _ (content : List ℕ) (run : Run) (rows : List Placed) (k : IsRunInMemory content run rows) where
  abbrev entries_here : List PageEntry
  entries_here = run.index.entries.items

  module _ (page : ℕ) (entry : PageEntry) (there : slice_get entries_here page ≡ Some entry) where
    first_here : first_row_key (drop (64 * page) rows) ≡ entry.first
    first_here = sym (first_taken (drop (64 * page) rows)) ∙ first_is run.table entry.first _ (page_of_rows page rows) (found content run rows k page entry there).is.ordered

    some_here : drop (64 * page) rows ≡ [] → ⊥
    some_here none = let some = (found content run rows k page entry there).is.page.some in omega (arith, some, ap length (ap (take 64) none))

    ordered_here : are_ordered run.table (first_row_key (take (64 * page) rows ++ drop (64 * page) rows)) None None (rows_of_placed (take (64 * page) rows ++ drop (64 * page) rows)) ≡ true
    ordered_here = subst (λ (l : List Placed). are_ordered run.table (first_row_key l) None None (rows_of_placed l) ≡ true) (sym (take-append-drop (64 * page) rows)) k.is.run_rows.ordered

    before_page : (key : Key) → is_le (key_cmp entry.first key) ≡ true → AllByRecursion (IsBelowKey key) (take (64 * page) rows)
    before_page key le = by (drop (64 * page) rows) refl
      where
        by : (b : List Placed) → drop (64 * page) rows ≡ b → AllByRecursion (IsBelowKey key) (take (64 * page) rows)
        by [] e = absurd (some_here e)
        by (y ∷ b) e =
            let ordered = subst (λ (l : List Placed). are_ordered run.table (first_row_key (take (64 * page) rows ++ l)) None None (rows_of_placed (take (64 * page) rows ++ l)) ≡ true) e ordered_here in
            let first : y.row.key ≡ entry.first = sym (ap first_row_key e) ∙ first_here in
            let at_most : is_le (key_cmp y.row.key key) ≡ true = subst (λ (f : Key). is_le (key_cmp f key) ≡ true) (sym first) le in
            all_follow (IsBelowKey y.row.key) (IsBelowKey key) (λ at below. lt_le at.row.key y.row.key key below at_most) (take (64 * page) rows) (front_below run.table (take (64 * page) rows) y b ordered)

    from_page : (key : Key) → is_lt (key_cmp key entry.first) ≡ true → AllByRecursion (IsAboveKey key) (drop (64 * page) rows)
    from_page key lt = by (drop (64 * page) rows) refl
      where
        by : (b : List Placed) → drop (64 * page) rows ≡ b → AllByRecursion (IsAboveKey key) (drop (64 * page) rows)
        by [] e = absurd (some_here e)
        by (y ∷ b) e =
            let ordered = subst (λ (l : List Placed). are_ordered run.table (first_row_key (take (64 * page) rows ++ l)) None None (rows_of_placed (take (64 * page) rows ++ l)) ≡ true) e ordered_here in
            let first : y.row.key ≡ entry.first = sym (ap first_row_key e) ∙ first_here in
            let above : is_lt (key_cmp key y.row.key) ≡ true = subst (λ (f : Key). is_lt (key_cmp key f) ≡ true) (sym first) lt in
            subst (AllByRecursion (IsAboveKey key)) (sym e) (each_above run.table key y.row.key None (y ∷ b) above (back_ordered run.table (take (64 * page) rows) y b ordered))

  -- behind the last page there is no row
  pub none_behind : (page : ℕ) → length entries_here ≤ page → drop (64 * page) rows ≡ []
  none_behind page le =
      let long : length entries_here ≡ length k.is.pages = ap length k.entries ∙ length-entries 0 k.is.pages in
      nil_from_length (drop (64 * page) rows) (omega (arith, length-drop (64 * page) rows, long, le, (page_number k.is.pages rows k.is.pages_are).0))

  behind_page : (key : Key) (page : ℕ) → ((entry : PageEntry) → slice_get entries_here page ≡ Some entry → is_lt (key_cmp key entry.first) ≡ true) → AllByRecursion (IsAboveKey key) (drop (64 * page) rows)
  behind_page key page above = by (cases_lt page (length entries_here))
    where
      by : (page < length entries_here) ⊎ (length entries_here ≤ page) → AllByRecursion (IsAboveKey key) (drop (64 * page) rows)
      by (inl lt) =
          let entry : PageEntry = get_or entries_here page (record { first = key; at = 0; len = 0 }) in
          let there : slice_get entries_here page ≡ Some entry = slice_get-get_or entries_here page (record { first = key; at = 0; len = 0 }) lt in
          from_page page entry there key (above entry there)
      by (inr le) = subst (AllByRecursion (IsAboveKey key)) (sym (none_behind page le)) tt

  -- before the page that may have a key all keys are below it,
  pub before_found : (key : Key) (page : ℕ) → IsPageFor entries_here key (Some page) → AllByRecursion (IsBelowKey key) (take (64 * page) rows)
  before_found key page is = before_page page is.entry is.there key is.not_above

  -- and behind it all are above
  pub behind_found : (key : Key) (page : ℕ) → IsPageFor entries_here key (Some page) → AllByRecursion (IsAboveKey key) (drop (64 * (page + 1)) rows)
  behind_found key page is = behind_page key (page + 1) (λ entry there. is.later (page + 1) entry (omega arith) there)

  pub all_behind : (key : Key) → IsPageFor entries_here key None → AllByRecursion (IsAboveKey key) (drop (64 * 0) rows)
  all_behind key none = behind_page key 0 (λ entry there. none 0 entry there)

  -- where the last key is below one, all are
  pub all_before : (key : Key) → is_lt (key_cmp run.last key) ≡ true → AllByRecursion (IsBelowKey key) rows
  all_before key lt = each_by (IsBelowKey key) rows (λ at has. le_lt at.row.key run.last key (at_most_last content run rows k at has) lt)

-- ---- times

abbrev from_time : ℤ → Key
from_time time = record { time = time; seq = 0 }

not_below_0 : (n : ℕ) → is_lt (nat_cmp n 0) ≡ true → ⊥
not_below_0 n lt = grind (arith, lt)

earlier_by : (time from : ℤ) (seq : ℕ) (r : Ordering) → int_cmp time from ≡ r → is_lt (ordering_then r (nat_cmp seq 0)) ≡ true → int_lt time from ≡ true
earlier_by time from seq Less e lt = grind (arith, ints, e)
earlier_by time from seq Equal e lt = absurd (not_below_0 seq lt)
earlier_by time from seq Greater e lt = absurd cc

later_by : (time to : ℤ) (seq : ℕ) (r : Ordering) → int_cmp to time ≡ r → is_lt (ordering_then r (nat_cmp 0 seq)) ≡ true → int_lt time to ≡ false
later_by time to seq Less e lt = grind (arith, ints, e)
later_by time to seq Equal e lt = grind (arith, ints, e)
later_by time to seq Greater e lt = absurd cc

pub outside_below : (from to : ℤ) (at : Placed) → IsBelowKey (from_time from) at → IsOutside (Between from to) at
outside_below from to at below = let early = earlier_by at.row.key.time from at.row.key.seq (int_cmp at.row.key.time from) refl below in rw early refl

pub outside_above : (from to : ℤ) (at : Placed) → IsAboveKey (from_time to) at → IsOutside (Between from to) at
outside_above from to at above = by (int_lt at.row.key.time from) (later_by at.row.key.time to at.row.key.seq (int_cmp to at.row.key.time) refl above)
  where
    by : (early : Bool) → int_lt at.row.key.time to ≡ false → (not early && int_lt at.row.key.time to) ≡ false
    by true late = refl
    by false late = late

pub all_outside_below : (from to : ℤ) (rows : List Placed) → AllByRecursion (IsBelowKey (from_time from)) rows → AllByRecursion (IsOutside (Between from to)) rows
all_outside_below from to rows all = all_follow (IsBelowKey (from_time from)) (IsOutside (Between from to)) (outside_below from to) rows all

pub all_outside_above : (from to : ℤ) (rows : List Placed) → AllByRecursion (IsAboveKey (from_time to)) rows → AllByRecursion (IsOutside (Between from to)) rows
all_outside_above from to rows all = all_follow (IsAboveKey (from_time to)) (IsOutside (Between from to)) (outside_above from to) rows all
