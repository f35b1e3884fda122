-- The pages of a run, where its index names them.
use Rattle.std.proofs.Common.{◌≡◌, ◌≢◌, ℕ, zero, suc, ◌+◌, ◌*◌, ◌≤◌, true, List, [], ◌∷◌, ◌++◌, length, take, drop, Option, Some, None, refl, sym, ap, ◌∙◌, subst, append_assoc, append-nil, length-append, arith}
use Rattle.std.specs.Prelude.{slice_get}
use Rattle.std.specs.List.{AllByRecursion}
use Rattle.std.proofs.lemmas.List.{take_at, drop_at, drop-drop, length-take, length-drop, take-append-drop}
use Rattle.arch_types.specs.declared.row.Row.{Row}
use Rattle.arch_types.specs.declared.key.Key.{Key}
use Rattle.octet_fields.proofs.Exact.{some_is}
use Rattle.run_pages.specs.Placed.{Placed, rows_of_placed}
use Rattle.run_pages.specs.Order.{are_ordered}
use Rattle.run_pages.specs.Pages.{FitsPage, IsPage, page_octets}
use Rattle.run_pages.specs.Index.{index_octets}
use Rattle.run_pages.specs.Footer.{footer_octets}
use Rattle.run_pages.specs.Runs.{ArePages, IsRunFile, entries_from, first_row_key, footer_of_pages, page_of_rows, pages_octets}
use Rattle.run_pages.specs.Damage.{HasWholePages, IsPageOf, count_at, first_of_entry}
use Rattle.run_pages.specs.declared.index.PageEntry.{PageEntry}
use Rattle.run_pages.proofs.OrderedRows.{split_ordered}

-- ---- parts of lists

all_take : {X : Type 0} (P : X → Type 0) (n : ℕ) (xs : List X) → AllByRecursion P xs → AllByRecursion P (take n xs)
all_take P zero xs all = tt
all_take P (suc n) [] all = tt
all_take P (suc n) (x ∷ xs) all = (all.0, all_take P n xs all.1)

all_drop : {X : Type 0} (P : X → Type 0) (n : ℕ) (xs : List X) → AllByRecursion P xs → AllByRecursion P (drop n xs)
all_drop P zero xs all = all
all_drop P (suc n) [] all = tt
all_drop P (suc n) (x ∷ xs) all = all_drop P n xs all.1

pub rows_append : (a b : List Placed) → rows_of_placed (a ++ b) ≡ rows_of_placed a ++ rows_of_placed b
rows_append [] b = refl
rows_append (x ∷ a) b = ap (λ (l : List Row). x.row ∷ l) (rows_append a b)

-- the key of the first row, if there is one
abbrev pub key_if : List Placed → Option Key
key_if [] = None
key_if (at ∷ rows) = Some at.row.key

pub front_ordered : (table : ℕ) (x : Placed) (front back : List Placed) → are_ordered table x.row.key None None (rows_of_placed (x ∷ front ++ back)) ≡ true
    → (are_ordered table x.row.key (key_if back) None (rows_of_placed (x ∷ front)) ≡ true) × (back ≢ [] → are_ordered table (first_row_key back) None None (rows_of_placed back) ≡ true)
front_ordered table x front [] e = (subst (λ (l : List Placed). are_ordered table x.row.key None None (rows_of_placed (x ∷ l)) ≡ true) (append-nil front) e, λ some. absurd (some refl))
front_ordered table x front (y ∷ back) e =
    let whole : are_ordered table x.row.key None None (x.row ∷ rows_of_placed front ++ y.row ∷ rows_of_placed back) ≡ true = subst (λ (l : List Row). are_ordered table x.row.key None None (x.row ∷ l) ≡ true) (rows_append front (y ∷ back)) e in
    let parts = split_ordered table x.row.key x.row (rows_of_placed front) y.row (rows_of_placed back) whole in
    (parts.0, λ some. parts.1)

-- the next page's first key
next_is : (pages : List (List Placed)) (rows : List Placed) (at : ℕ) → ArePages pages rows → first_of_entry (slice_get (entries_from at pages) 0) ≡ key_if rows
next_is [] rows at is = sym (ap key_if is)
next_is (page ∷ pages) [] at is = absurd (is.1 refl)
next_is (page ∷ pages) (x ∷ rest) at is = ap (λ (p : List Placed). Some (first_row_key p)) is.0

-- page 0 of what is left behind a page is the next one
pub shift : (page : ℕ) (rows : List Placed) → page_of_rows page (drop 64 rows) ≡ page_of_rows (suc page) rows
shift page rows =
    let number : 64 + 64 * page ≡ 64 * suc page = omega arith in
    ap (take 64) (drop-drop (64 * page) 64 rows ∙ ap (λ (n : ℕ). drop n rows) number)

pub length-page : (page : ℕ) (rows : List Placed) → length (page_of_rows page rows) ≡ count_at (length rows) page
length-page page rows = omega (arith, length-take 64 (drop (64 * page) rows), length-drop (64 * page) rows)

-- ---- a page

-- the index names octets inside the file, which are the page
pub record FoundPage (table : ℕ) (content : List ℕ) (entries : List PageEntry) (rows : List Placed) (page : ℕ) (entry : PageEntry) : Type 0 where
  pub inside : entry.at + entry.len ≤ length content
  pub is : IsPageOf content table (count_at (length rows) page) entry (slice_get entries (suc page)) (page_of_rows page rows)

found : (table : ℕ) (pages : List (List Placed)) (rows : List Placed) (front tail : List ℕ) (at : ℕ) → ArePages pages rows → at ≡ length front → AllByRecursion FitsPage rows
    → (rows ≢ [] → are_ordered table (first_row_key rows) None None (rows_of_placed rows) ≡ true)
    → (page : ℕ) (entry : PageEntry) → slice_get (entries_from at pages) page ≡ Some entry → FoundPage table (front ++ (pages_octets pages ++ tail)) (entries_from at pages) rows page entry
found table [] rows front tail at is at_is each ordered page entry there = absurd (cc there)
found table (p ∷ pages) [] front tail at is at_is each ordered page entry there = absurd (is.1 refl)
found table (p ∷ pages) (x ∷ rest) front tail at is at_is each ordered zero entry there =
    let rows : List Placed = x ∷ rest in
    let len = length (page_octets p) in
    let here : PageEntry = record { first = first_row_key p; at = at; len = len } in
    let content = front ++ ((page_octets p ++ pages_octets pages) ++ tail) in
    let all = take-append-drop 64 rows in
    let first : first_row_key p ≡ x.row.key = ap first_row_key is.0 in
    let parts = front_ordered table x (take 63 rest) (drop 63 rest) (subst (λ (l : List Placed). are_ordered table x.row.key None None (rows_of_placed l) ≡ true) (sym all) (ordered (λ none. absurd cc))) in
    let one : 1 ≤ length (take 64 rows) = omega (arith, length-take 64 rows) in
    subst (λ (k : PageEntry). FoundPage table content (entries_from at (p ∷ pages)) rows 0 k) (some_is here entry there) (record {
      inside = omega (arith, at_is, length-append front ((page_octets p ++ pages_octets pages) ++ tail), length-append (page_octets p ++ pages_octets pages) tail, length-append (page_octets p) (pages_octets pages));
      is = record {
        page = record { some = one; few = omega (arith, length-take 64 rows); each = all_take FitsPage 64 rows each };
        spelled = ap (take len) (drop_at front ((page_octets p ++ pages_octets pages) ++ tail) at (sym at_is) ∙ append_assoc (page_octets p) (pages_octets pages) tail) ∙ take_at (page_octets p) (pages_octets pages ++ tail) len refl ∙ ap page_octets is.0;
        count_is = length-page 0 rows;
        ordered = subst (λ (k : Key). are_ordered table k (first_of_entry (slice_get (entries_from (at + len) pages) 0)) None (rows_of_placed (take 64 rows)) ≡ true) (sym first)
            (subst (λ (o : Option Key). are_ordered table x.row.key o None (rows_of_placed (take 64 rows)) ≡ true) (sym (next_is pages (drop 64 rows) (at + len) is.2)) parts.0);
      };
    })
found table (p ∷ pages) (x ∷ rest) front tail at is at_is each ordered (suc page) entry there =
    let rows : List Placed = x ∷ rest in
    let len = length (page_octets p) in
    let all = take-append-drop 64 rows in
    let parts = front_ordered table x (take 63 rest) (drop 63 rest) (subst (λ (l : List Placed). are_ordered table x.row.key None None (rows_of_placed l) ≡ true) (sym all) (ordered (λ none. absurd cc))) in
    let f = found table pages (drop 64 rows) (front ++ page_octets p) tail (at + len) is.2 (omega (arith, at_is, length-append front (page_octets p))) (all_drop FitsPage 64 rows each) parts.1 page entry there in
    let same : front ++ ((page_octets p ++ pages_octets pages) ++ tail) ≡ (front ++ page_octets p) ++ (pages_octets pages ++ tail) =
    ap (λ (l : List ℕ). front ++ l) (append_assoc (page_octets p) (pages_octets pages) tail) ∙ sym (append_assoc front (page_octets p) (pages_octets pages ++ tail)) in
    let shifted = shift page rows in
    record {
      inside = subst (λ (l : List ℕ). entry.at + entry.len ≤ length l) (sym same) f.inside;
      is = record {
        page = subst IsPage shifted f.is.page;
        spelled = ap (λ (l : List ℕ). take entry.len (drop entry.at l)) same ∙ f.is.spelled ∙ ap page_octets shifted;
        count_is = length-page (suc page) rows;
        ordered = subst (λ (l : List Placed). are_ordered table entry.first (first_of_entry (slice_get (entries_from (at + len) pages) (suc page))) None (rows_of_placed l) ≡ true) shifted f.is.ordered;
      };
    }

-- ---- the pages of a run

page_is : (pages : List (List Placed)) (rows : List Placed) (i : ℕ) (page : List Placed) → ArePages pages rows → slice_get pages i ≡ Some page → page_of_rows i rows ≡ page
page_is [] rows i page is there = absurd (cc there)
page_is (p ∷ pages) rows zero page is there = sym is.0 ∙ some_is p page there
page_is (p ∷ pages) rows (suc i) page is there = sym (shift i rows) ∙ page_is pages (drop 64 rows) i page is.2 there

pub length-entries : (at : ℕ) (pages : List (List Placed)) → length (entries_from at pages) ≡ length pages
length-entries at [] = refl
length-entries at (p ∷ pages) = ap suc (length-entries (at + length (page_octets p)) pages)

module _ (content : List ℕ) (table : ℕ) (rows : List Placed) (k : IsRunFile content table rows) where
  pub found_page : (page : ℕ) (entry : PageEntry) → slice_get (entries_from 0 k.pages) page ≡ Some entry → FoundPage table content (entries_from 0 k.pages) rows page entry
  found_page page entry there =
      let tail = index_octets (entries_from 0 k.pages) ++ footer_octets (footer_of_pages k.pages (length rows)) in
      subst (λ (l : List ℕ). FoundPage table l (entries_from 0 k.pages) rows page entry) (sym k.content_is) (found table k.pages rows [] tail 0 k.pages_are refl k.run_rows.each (λ some. k.run_rows.ordered) page entry there)

  pub run_has_pages : HasWholePages content (entries_from 0 k.pages) (length rows) table k.pages
  run_has_pages = record {
    within = omega (arith, length-entries 0 k.pages);
    each = λ i page entry at_p at_e. subst (IsPageOf content table (count_at (length rows) i) entry (slice_get (entries_from 0 k.pages) (suc i))) (page_is k.pages rows i page k.pages_are at_p) (found_page i entry at_e).is;
  }
