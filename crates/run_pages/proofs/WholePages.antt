-- A file whose pages are all whole is a run of their rows.
use Rattle.std.proofs.Common.{◌≡◌, ◌≢◌, ⊎_elim, ℕ, suc, ◌+◌, ◌-◌, ◌*◌, ◌≤◌, min, true, List, [], ◌∷◌, ◌++◌, length, take, drop, Option, Some, None, refl, sym, ap, ◌∙◌, subst, append-nil, length-append, arith}
use Rattle.std.specs.Prelude.{slice_get, ◌==◌, nat_le}
use Rattle.std.specs.List.{AllByRecursion, flat_map}
use Rattle.std.proofs.Math.Seq.{take-add}
use Rattle.std.proofs.lemmas.Bool.{cases_lt}
use Rattle.std.proofs.lemmas.Bool.Decides.{nat_tests}
use Rattle.std.proofs.lemmas.List.{take_at, drop_at, take_all, drop_all, drop-drop, length-take, length-drop, nil_from_length}
use Rattle.arch_types.specs.declared.key.Key.{Key}
use Rattle.run_pages.specs.Placed.{Placed, rows_of_placed}
use Rattle.run_pages.specs.Order.{are_ordered}
use Rattle.run_pages.specs.Pages.{FitsPage, page_octets}
use Rattle.run_pages.specs.Index.{IsPageEntry, are_joined, index_octets, is_above_last, is_page_number}
use Rattle.run_pages.specs.Footer.{IsFooter, footer_octets}
use Rattle.run_pages.specs.Runs.{ArePages, AreRunRows, IsRunFile, entries_from, first_row_key, footer_of_pages, pages_octets}
use Rattle.run_pages.specs.Damage.{HasIndex, HasWholePages, IsPageOf, count_at, first_of_entry}
use Rattle.run_pages.specs.declared.index.PageEntry.{PageEntry}
use Rattle.run_pages.specs.declared.footer.Footer.{Footer}
use Rattle.run_pages.proofs.FoundPages.{rows_append}
use Rattle.run_pages.proofs.Joins.{both_true, joined_forward}
use Rattle.run_pages.proofs.OrderedRows.{eq_true, first_is, join_ordered}

-- all rows of pages
abbrev pub rows_of_pages : List (List Placed) → List Placed
rows_of_pages pages = flat_map (λ page. page) pages

-- ---- how many rows pages have

-- each page has 64 of the rows, or those that are left
abbrev pub AreLong : ℕ → List (List Placed) → Type 0
AreLong rows [] = Unit {0}
AreLong rows (page ∷ pages) = (length page ≡ min 64 rows) × AreLong (rows - 64) pages

-- rows that are cut behind a page
cut : (rows : ℕ) (page rest : List Placed) → 1 ≤ rows → length page ≡ min 64 rows → length rest ≡ rows - 64 → (page ≡ take 64 (page ++ rest)) × (drop 64 (page ++ rest) ≡ rest)
cut rows page rest some long left = ⊎_elim
    (λ lt. let none : rest ≡ [] = nil_from_length rest (omega (arith, lt, long, left)) in
    let all : page ++ rest ≡ page = ap (λ (l : List Placed). page ++ l) none ∙ append-nil page in
    let short : length (page ++ rest) ≤ 64 = omega (arith, length-append page rest, lt, left, long) in
    (sym (take_all 64 (page ++ rest) short ∙ all), drop_all 64 (page ++ rest) short ∙ sym none))
    (λ le. let full : length page ≡ 64 = omega (arith, le, long) in
    (sym (take_at page rest 64 full), drop_at page rest 64 full))
    (cases_lt (length page) 64)

are_pages : (rows : ℕ) (pages : List (List Placed)) → AreLong rows pages → rows ≤ 64 * length pages → 64 * length pages ≤ rows + 63 → ArePages pages (rows_of_pages pages) × (length (rows_of_pages pages) ≡ rows)
are_pages rows [] long most least = (refl, omega (arith, most))
are_pages rows (p ∷ pages) long most least =
    let some : 1 ≤ rows = omega (arith, least) in
    let more = are_pages (rows - 64) pages long.1 (omega (arith, most)) (omega (arith, least)) in
    let parts = cut rows p (rows_of_pages pages) some long.0 more.1 in
    let not_none : p ++ rows_of_pages pages ≢ [] = λ none. absurd (omega (arith, ap length none, length-append p (rows_of_pages pages), long.0, some)) in
    ((parts.0, not_none, subst (ArePages pages) (sym parts.1) more.0), omega (arith, length-append p (rows_of_pages pages), long.0, more.1))

-- ---- pages behind the first

module _ (content : List ℕ) (table : ℕ) where
  -- each page, whatever their number
  abbrev pub AreEach : List PageEntry → ℕ → List (List Placed) → Type 0
  AreEach entries rows pages = (i : ℕ) (page : List Placed) (entry : PageEntry) → slice_get pages i ≡ Some page → slice_get entries i ≡ Some entry →
      IsPageOf content table (count_at rows i) entry (slice_get entries (suc i)) page

  behind : (e : PageEntry) (entries : List PageEntry) (rows : ℕ) (p : List Placed) (pages : List (List Placed)) → AreEach (e ∷ entries) rows (p ∷ pages) → AreEach entries (rows - 64) pages
  behind e entries rows p pages each i page entry at_p at_e =
      let number : count_at rows (suc i) ≡ count_at (rows - 64) i = omega arith in
      subst (λ (n : ℕ). IsPageOf content table n entry (slice_get entries (suc i)) page) number (each (suc i) page entry at_p at_e)

  -- ---- octets

  -- where pages stand one behind the other, the index is the one of these pages, and the octets are theirs
  record AreOctets (at end : ℕ) (entries : List PageEntry) (pages : List (List Placed)) : Type 0 where
    entries_are : entries ≡ entries_from at pages
    octets : take (end - at) (drop at content) ≡ pages_octets pages
    ends : at + length (pages_octets pages) ≡ end

  octets_of : (at end rows : ℕ) (last : Option Key) (entries : List PageEntry) (pages : List (List Placed)) → are_joined at end last entries ≡ true → end ≤ length content → length pages ≡ length entries → AreEach entries rows pages → AreOctets at end entries pages
  octets_of at end rows last [] [] joined within long each =
      let same : at ≡ end = eq_true at end joined in
      let none : end - at ≡ 0 = omega (arith, same) in
      record { entries_are = refl; octets = ap (λ (n : ℕ). take n (drop at content)) none; ends = omega (arith, same) }
  octets_of at end rows last [] (p ∷ pages) joined within long each = absurd (omega (arith, long))
  octets_of at end rows last (e ∷ entries) [] joined within long each = absurd (omega (arith, long))
  octets_of at end rows last (e ∷ entries) (p ∷ pages) joined within long each =
      let a = both_true (e.at == at) _ joined in
      let b = both_true (nat_le 1 e.len) _ a.1 in
      let d = both_true (is_above_last last e.first) _ b.1 in
      let place : e.at ≡ at = eq_true e.at at a.0 in
      let forward = joined_forward (at + e.len) end (Some e.first) entries d.1 in
      let is = each 0 p e refl refl in
      let here : take e.len (drop at content) ≡ page_octets p = ap (λ (n : ℕ). take e.len (drop n content)) (sym place) ∙ is.spelled in
      let len : e.len ≡ length (page_octets p) = omega (arith, ap length here, length-take e.len (drop at content), length-drop at content, forward, within) in
      let first : e.first ≡ first_row_key p = sym (first_is table e.first (first_of_entry (slice_get entries 0)) p is.ordered) in
      let more = octets_of (at + e.len) end (rows - 64) (Some e.first) entries pages d.1 within (omega (arith, long)) (behind e entries rows p pages each) in
      let size : end - at ≡ e.len + (end - (at + e.len)) = omega (arith, forward) in
      let entry_is : e ≡ record { first = first_row_key p; at = at; len = length (page_octets p) } = rw (← first, ← len, ← place) refl in
      record {
        entries_are = ap (λ (l : List PageEntry). e ∷ l) (more.entries_are ∙ ap (λ (n : ℕ). entries_from (at + n) pages) len) ∙ ap (λ (x : PageEntry). x ∷ entries_from (at + length (page_octets p)) pages) entry_is;
        octets = ap (λ (n : ℕ). take n (drop at content)) size ∙ take-add e.len (end - (at + e.len)) (drop at content) ∙ ap (λ (l : List ℕ). l ++ take (end - (at + e.len)) (drop e.len (drop at content))) here
            ∙ ap (λ (l : List ℕ). page_octets p ++ take (end - (at + e.len)) l) (drop-drop e.len at content) ∙ ap (λ (l : List ℕ). page_octets p ++ l) more.octets;
        ends = omega (arith, more.ends, len, length-append (page_octets p) (pages_octets pages));
      }

  -- ---- rows

  -- the rows of the pages are ordered, from the first page's key on
  rows_ordered : (e : PageEntry) (entries : List PageEntry) (rows : ℕ) (p : List Placed) (pages : List (List Placed)) → length pages ≡ length entries → AreEach (e ∷ entries) rows (p ∷ pages)
      → are_ordered table e.first None None (rows_of_placed (p ++ rows_of_pages pages)) ≡ true
  rows_ordered e [] rows p [] long each = subst (λ (l : List Placed). are_ordered table e.first None None (rows_of_placed l) ≡ true) (sym (append-nil p)) (each 0 p e refl refl).ordered
  rows_ordered e [] rows p (q ∷ pages) long each = absurd (omega (arith, long))
  rows_ordered e (f ∷ entries) rows p [] long each = absurd (omega (arith, long))
  rows_ordered e (f ∷ entries) rows p (q ∷ pages) long each =
      let more = rows_ordered f entries (rows - 64) q pages (omega (arith, long)) (behind e (f ∷ entries) rows p (q ∷ pages) each) in
      rw (rows_append p (q ++ rows_of_pages pages)) (join_ordered table e.first f.first (rows_of_placed p) (rows_of_placed (q ++ rows_of_pages pages)) (each 0 p e refl refl).ordered more)

  all_append : (a b : List Placed) → AllByRecursion FitsPage a → AllByRecursion FitsPage b → AllByRecursion FitsPage (a ++ b)
  all_append [] b fits more = more
  all_append (x ∷ a) b fits more = (fits.0, all_append a b fits.1 more)

  rows_fit : (entries : List PageEntry) (rows : ℕ) (pages : List (List Placed)) → length pages ≡ length entries → AreEach entries rows pages → AllByRecursion FitsPage (rows_of_pages pages)
  rows_fit entries rows [] long each = tt
  rows_fit [] rows (p ∷ pages) long each = absurd (omega (arith, long))
  rows_fit (e ∷ entries) rows (p ∷ pages) long each = all_append p (rows_of_pages pages) (each 0 p e refl refl).page.each (rows_fit entries (rows - 64) pages (omega (arith, long)) (behind e entries rows p pages each))

  lengths : (entries : List PageEntry) (rows : ℕ) (pages : List (List Placed)) → length pages ≡ length entries → AreEach entries rows pages → AreLong rows pages
  lengths entries rows [] long each = tt
  lengths [] rows (p ∷ pages) long each = absurd (omega (arith, long))
  lengths (e ∷ entries) rows (p ∷ pages) long each = (omega (arith, (each 0 p e refl refl).count_is), lengths entries (rows - 64) pages (omega (arith, long)) (behind e entries rows p pages each))

-- ---- the whole

some_page : (content : List ℕ) (table rows : ℕ) (entries : List PageEntry) (pages : List (List Placed)) → length pages ≡ length entries → 1 ≤ length pages → AreEach content table entries rows pages → AreRunRows table (rows_of_pages pages)
some_page content table rows entries [] long some each = absurd (omega (arith, some))
some_page content table rows [] (p ∷ pages) long some each = absurd (omega (arith, long))
some_page content table rows (e ∷ entries) (p ∷ pages) long some each =
    let ordered = rows_ordered content table e entries rows p pages (omega (arith, long)) each in
    let first : first_row_key (p ++ rows_of_pages pages) ≡ e.first = first_is table e.first None (p ++ rows_of_pages pages) ordered in
    record {
      each = rows_fit content table (e ∷ entries) rows (p ∷ pages) long each;
      ordered = rw first ordered;
    }

number_is : (pages rows : ℕ) → is_page_number pages rows ≡ true → (1 ≤ rows) × ((rows ≤ 64 * pages) × (64 * pages ≤ rows + 63))
number_is pages rows e =
    let a = both_true (nat_le 1 rows) _ e in
    let b = both_true (nat_le rows (64 * pages)) _ a.1 in
    let x : 1 ≤ rows = grind (arith, nat_tests, a.0) in
    let y : rows ≤ 64 * pages = grind (arith, nat_tests, b.0) in
    let z : 64 * pages ≤ rows + 63 = grind (arith, nat_tests, b.1) in
    (x, (y, z))

pub whole_run : (content : List ℕ) (entries : List PageEntry) (footer : Footer) (table : ℕ) (pages : List (List Placed)) → HasIndex content entries footer → HasWholePages content entries footer.rows table pages → length pages ≡ length entries
    → IsRunFile content table (rows_of_pages pages)
whole_run content entries footer table pages has are long =
    let parts = both_true (is_page_number footer.pages footer.rows) _ has.index in
    let number = number_is footer.pages footer.rows parts.0 in
    let count : length pages ≡ footer.pages = long ∙ has.fits.count_is in
    let end : footer.at ≤ length content = omega (arith, has.at_is, ap length has.content_is, length-append has.before (index_octets entries ++ footer_octets footer)) in
    let octets = octets_of content table 0 footer.at footer.rows None entries pages parts.1 end long are.each in
    let none : footer.at ≡ footer.at - 0 = omega arith in
    let counted = are_pages footer.rows pages (lengths content table entries footer.rows pages long are.each) (omega (arith, number.1.0, count)) (omega (arith, number.1.1, count)) in
    let before : has.before ≡ pages_octets pages =
    sym (take_at has.before (index_octets entries ++ footer_octets footer) footer.at (sym has.at_is)) ∙ ap (take footer.at) (sym has.content_is) ∙ ap (λ (n : ℕ). take n content) none ∙ octets.octets in
    let rows = rows_of_pages pages in
    let at : footer.at ≡ length (pages_octets pages) = omega (arith, octets.ends) in
    let by_at : (n : ℕ) → Footer = λ n. record { at = n; pages = footer.pages; rows = footer.rows } in
    let by_pages : (n : ℕ) → Footer = λ n. record { at = length (pages_octets pages); pages = n; rows = footer.rows } in
    let by_rows : (n : ℕ) → Footer = λ n. record { at = length (pages_octets pages); pages = length pages; rows = n } in
    let footer_is : footer ≡ footer_of_pages pages (length rows) = ap by_at at ∙ ap by_pages (sym count) ∙ ap by_rows (sym counted.1) in
    record {
      pages = pages;
      run_rows = some_page content table footer.rows entries pages long (omega (arith, number, count)) are.each;
      pages_are = counted.0;
      content_is = has.content_is ∙ ap (λ (l : List ℕ). l ++ (index_octets entries ++ footer_octets footer)) before ∙ ap (λ (l : List PageEntry). pages_octets pages ++ (index_octets l ++ footer_octets footer)) octets.entries_are
          ∙ ap (λ (f : Footer). pages_octets pages ++ (index_octets (entries_from 0 pages) ++ footer_octets f)) footer_is;
      entries_fit = subst (AllByRecursion IsPageEntry) octets.entries_are has.fits.each;
      footer_fits = subst IsFooter footer_is has.footer_fits;
    }
