-- A run has an index: its pages stand one behind the other, and their first keys rise.
use Rattle.std.proofs.Common.{◌≡◌, ◌≢◌, ℕ, suc, ◌+◌, ◌-◌, ◌*◌, ◌≤◌, true, List, [], ◌∷◌, ◌++◌, length, take, drop, Option, Some, None, refl, sym, ap, subst, length-append, arith}
use Rattle.std.specs.Prelude.{◌==◌, nat_le}
use Rattle.std.specs.Ordering.{is_lt}
use Rattle.std.specs.declared.cmp.Ordering.{Ordering}
use Rattle.std.specs.declared.cmp.Ordering.TheVariants.{Less, Equal, Greater}
use Rattle.std.proofs.lemmas.Bool.Decides.{nat_tests}
use Rattle.std.proofs.lemmas.List.{length-drop, take-append-drop}
use Rattle.arch_types.specs.declared.row.Row.{Row}
use Rattle.arch_types.specs.declared.key.Key.{Key}
use Rattle.arch_types.specs.Order.{key_cmp}
use Rattle.arch_types.proofs.Ranks.{key_cmp_total}
use Rattle.octet_fields.specs.Spelling.{counted, number}
use Rattle.run_pages.specs.Placed.{Placed, rows_of_placed}
use Rattle.run_pages.specs.Order.{are_ordered, follows, is_same_key}
use Rattle.run_pages.specs.Pages.{page_octets}
use Rattle.run_pages.specs.Index.{are_joined, is_above_last, is_page_number}
use Rattle.run_pages.specs.Runs.{ArePages, IsRunFile, entries_from, first_row_key, footer_of_pages, pages_octets}
use Rattle.run_pages.specs.Damage.{HasIndex}
use Rattle.run_pages.proofs.Joins.{both_true}
use Rattle.run_pages.proofs.FoundPages.{front_ordered, key_if, length-entries}

-- ---- keys

pub less_of : (r : Ordering) → is_lt r ≡ true → r ≡ Less
less_of Less e = refl
less_of Equal e = absurd cc
less_of Greater e = absurd cc

pub below_trans : (a b c : Key) → is_lt (key_cmp a b) ≡ true → is_lt (key_cmp b c) ≡ true → is_lt (key_cmp a c) ≡ true
below_trans a b c p q = ap is_lt (key_cmp_total.trans a b c (less_of (key_cmp a b) p) (less_of (key_cmp b c) q))

-- ordered rows end below the next key, so the key before them is below it
ordered_below : (table : ℕ) (first next last : Key) (rows : List Row) → are_ordered table first (Some next) (Some last) rows ≡ true → is_lt (key_cmp last next) ≡ true
ordered_below table first next last [] e = e
ordered_below table first next last (row ∷ rows) e =
    let a = both_true (row.table == table) _ e in
    let b = both_true (follows first (Some last) row.key) _ a.1 in
    below_trans last row.key next b.0 (ordered_below table first next row.key rows b.1)

first_below : (table : ℕ) (row : Row) (rows : List Row) (next : Key) → are_ordered table row.key (Some next) None (row ∷ rows) ≡ true → is_lt (key_cmp row.key next) ≡ true
first_below table row rows next e =
    let a = both_true (row.table == table) _ e in
    let b = both_true (is_same_key row.key row.key) _ a.1 in
    ordered_below table row.key next row.key rows b.1

above_next : (table : ℕ) (x : Placed) (front back : List Placed) → are_ordered table x.row.key (key_if back) None (rows_of_placed (x ∷ front)) ≡ true → back ≢ [] → is_lt (key_cmp x.row.key (first_row_key back)) ≡ true
above_next table x front [] e some = absurd (some refl)
above_next table x front (y ∷ back) e some = first_below table x.row (rows_of_placed front) y.row.key e

-- ---- the number of pages

pub page_number : (pages : List (List Placed)) (rows : List Placed) → ArePages pages rows → (length rows ≤ 64 * length pages) × (64 * length pages ≤ length rows + 63)
page_number [] rows is = (omega (arith, ap length is), omega arith)
page_number (p ∷ pages) [] is = absurd (is.1 refl)
page_number (p ∷ pages) (x ∷ rest) is =
    let more = page_number pages (drop 64 (x ∷ rest)) is.2 in
    let left = length-drop 64 (x ∷ rest) in
    by pages more left is.2
  where
    by : (pages : List (List Placed)) → (length (drop 64 (x ∷ rest)) ≤ 64 * length pages) × (64 * length pages ≤ length (drop 64 (x ∷ rest)) + 63) → length (drop 64 (x ∷ rest)) ≡ length (x ∷ rest) - 64 → ArePages pages (drop 64 (x ∷ rest))
        → (length (x ∷ rest) ≤ 64 * suc (length pages)) × (64 * suc (length pages) ≤ length (x ∷ rest) + 63)
    by [] more left is = (omega (arith, more.0, left), omega arith)
    by (q ∷ pages) more left is =
        let some : 1 ≤ length (drop 64 (x ∷ rest)) = not_empty (drop 64 (x ∷ rest)) is.1 in
        (omega (arith, more.0, left), omega (arith, more.1, left, some))
      where
        not_empty : (l : List Placed) → l ≢ [] → 1 ≤ length l
        not_empty [] some = absurd (some refl)
        not_empty (y ∷ l) some = omega arith

some_rows : (table : ℕ) (rows : List Placed) → are_ordered table (first_row_key rows) None None (rows_of_placed rows) ≡ true → 1 ≤ length rows
some_rows table [] e = absurd cc
some_rows table (x ∷ rows) e = omega arith

numbered : (pages rows : ℕ) → 1 ≤ rows → rows ≤ 64 * pages → 64 * pages ≤ rows + 63 → is_page_number pages rows ≡ true
numbered pages rows a b c = grind (arith, nat_tests)

-- ---- pages one behind the other

some_octets : (rows : List Placed) → 1 ≤ length (page_octets rows)
unfolding counted number
some_octets rows = omega arith

joined_pages : (table : ℕ) (pages : List (List Placed)) (rows : List Placed) (at : ℕ) (last : Option Key) → ArePages pages rows
    → (rows ≢ [] → are_ordered table (first_row_key rows) None None (rows_of_placed rows) ≡ true) → (rows ≢ [] → is_above_last last (first_row_key rows) ≡ true)
    → are_joined at (at + length (pages_octets pages)) last (entries_from at pages) ≡ true
joined_pages table [] rows at last is ordered above = grind (arith, nat_tests)
joined_pages table (p ∷ pages) [] at last is ordered above = absurd (is.1 refl)
joined_pages table (p ∷ pages) (x ∷ rest) at last is ordered above =
    let rows : List Placed = x ∷ rest in
    let len = length (page_octets p) in
    let all = take-append-drop 64 rows in
    let some : rows ≢ [] = λ none. absurd cc in
    let first : first_row_key p ≡ x.row.key = ap first_row_key is.0 in
    let parts = front_ordered table x (take 63 rest) (drop 63 rest) (subst (λ (l : List Placed). are_ordered table x.row.key None None (rows_of_placed l) ≡ true) (sym all) (ordered some)) in
    let above_back : drop 64 rows ≢ [] → is_above_last (Some (first_row_key p)) (first_row_key (drop 64 rows)) ≡ true = λ back. rw first (above_next table x (take 63 rest) (drop 63 rest) parts.0 back) in
    let more = joined_pages table pages (drop 64 rows) (at + len) (Some (first_row_key p)) is.2 parts.1 above_back in
    let end : (at + len) + length (pages_octets pages) ≡ at + length (page_octets p ++ pages_octets pages) = omega (arith, length-append (page_octets p) (pages_octets pages)) in
    let here : (at == at) ≡ true = grind (arith, nat_tests) in
    let long : nat_le 1 len ≡ true = grind (arith, nat_tests, some_octets p) in
    let rising : is_above_last last (first_row_key p) ≡ true = rw first (above some) in
    rw (here, long, rising) (subst (λ (n : ℕ). are_joined (at + len) n (Some (first_row_key p)) (entries_from (at + len) pages) ≡ true) end more)

pub run_has_index : (content : List ℕ) (table : ℕ) (rows : List Placed) (k : IsRunFile content table rows) → HasIndex content (entries_from 0 k.pages) (footer_of_pages k.pages (length rows))
run_has_index content table rows k =
    let count = page_number k.pages rows k.pages_are in
    let joined : are_joined 0 (0 + length (pages_octets k.pages)) None (entries_from 0 k.pages) ≡ true = joined_pages table k.pages rows 0 None k.pages_are (λ some. k.run_rows.ordered) (λ some. refl) in
    let end : 0 + length (pages_octets k.pages) ≡ length (pages_octets k.pages) = omega arith in
    let number : is_page_number (length k.pages) (length rows) ≡ true = numbered (length k.pages) (length rows) (some_rows table rows k.run_rows.ordered) count.0 count.1 in
    record {
      before = pages_octets k.pages;
      fits = record { count_is = length-entries 0 k.pages; each = k.entries_fit };
      footer_fits = k.footer_fits;
      content_is = k.content_is;
      at_is = refl;
      index = rw number (subst (λ (n : ℕ). are_joined 0 n None (entries_from 0 k.pages) ≡ true) end joined);
    }
