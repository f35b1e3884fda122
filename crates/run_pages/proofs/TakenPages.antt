-- One page more of a file that is read page by page, or the first that is broken.
use Rattle.std.proofs.Common.{◌≡◌, ◌⊎◌, inl, inr, ⊎_elim, ℕ, zero, suc, ◌≤◌, true, List, [], ◌∷◌, ◌++◌, length, get_or, take, drop, Option, Some, None, refl, sym, ap, ◌∙◌, subst, length-append, arith}
use Rattle.std.specs.Prelude.{slice_get}
use Rattle.std.proofs.lemmas.Option.{slice_get_within, slice_get-get_or}
use Rattle.octet_fields.proofs.Exact.{some_is}
use Rattle.run_pages.specs.Placed.{Placed, rows_of_placed}
use Rattle.run_pages.specs.Order.{are_ordered}
use Rattle.run_pages.specs.Pages.{IsPage, page_octets}
use Rattle.run_pages.specs.Damage.{HasIndex, HasWholePages, IsBrokenPage, IsPageOf, count_at, first_of_entry}
use Rattle.run_pages.specs.declared.index.PageEntry.{PageEntry}
use Rattle.run_pages.specs.declared.footer.Footer.{Footer}
use Rattle.run_pages.proofs.PageSpelling.{page_exact}
use Rattle.run_pages.proofs.Ends.{once}
use Rattle.run_pages.proofs.OrderedRows.{one_table}

push_cases : {X : Type 0} (xs : List X) (x : X) (i : ℕ) (y : X) → slice_get (xs ++ x ∷ []) i ≡ Some y → (slice_get xs i ≡ Some y) ⊎ ((length xs ≡ i) × (x ≡ y))
push_cases [] x zero y e = inr (refl, some_is x y e)
push_cases [] x (suc i) y e = absurd (cc e)
push_cases (z ∷ xs) x zero y e = inl e
push_cases (z ∷ xs) x (suc i) y e = ⊎_elim (λ old. inl old) (λ new. inr (ap suc new.0, new.1)) (push_cases xs x i y e)

-- the octets of a page are one list of rows,
page_once : (content : List ℕ) (t n : ℕ) (entry : PageEntry) (next : Option PageEntry) (a b : List Placed) → IsPage a → take entry.len (drop entry.at content) ≡ page_octets a → IsPageOf content t n entry next b → a ≡ b
page_once content t n entry next a b fits spelled is = once page_exact a b fits is.page (sym spelled ∙ is.spelled)

-- and of one table
same_table : (content : List ℕ) (t u n m : ℕ) (entry : PageEntry) (next other : Option PageEntry) (a b : List Placed) → IsPageOf content t n entry next a → IsPageOf content u m entry other b → t ≡ u
same_table content t u n m entry next other a b pa pb =
    let same : a ≡ b = page_once content u m entry other a b pa.page pa.spelled pb in
    one_table t u entry.first entry.first (first_of_entry next) (first_of_entry other) (rows_of_placed b) (subst (λ (l : List Placed). are_ordered t entry.first (first_of_entry next) None (rows_of_placed l) ≡ true) same pa.ordered) pb.ordered

first_table : (content : List ℕ) (entries : List PageEntry) (rows t u : ℕ) (pages more : List (List Placed)) → HasWholePages content entries rows t pages → HasWholePages content entries rows u more → 1 ≤ length pages → 1 ≤ length more → t ≡ u
first_table content entries rows t u [] more a b some too = absurd (omega (arith, some))
first_table content entries rows t u (p ∷ pages) [] a b some too = absurd (omega (arith, too))
first_table content [] rows t u (p ∷ pages) (q ∷ more) a b some too = absurd (omega (arith, a.within))
first_table content (entry ∷ entries) rows t u (p ∷ pages) (q ∷ more) a b some too =
    same_table content t u (count_at rows 0) (count_at rows 0) entry (slice_get entries 0) (slice_get entries 0) p q (a.each 0 p entry refl refl) (b.each 0 q entry refl refl)

module _ (content : List ℕ) (entries : List PageEntry) (footer : Footer) (table : ℕ) (pages : List (List Placed)) (has : HasIndex content entries footer) (are : HasWholePages content entries footer.rows table pages)
    (entry : PageEntry) (there : slice_get entries (length pages) ≡ Some entry) where
  abbrev pub next_entry : Option PageEntry
  next_entry = slice_get entries (suc (length pages))

  abbrev pub count : ℕ
  count = count_at footer.rows (length pages)

  -- the next page is whole
  pub takes_page : (t : ℕ) (page : List Placed) → IsPageOf content t count entry next_entry page → (1 ≤ length pages → table ≡ t) → HasWholePages content entries footer.rows t (pages ++ page ∷ [])
  takes_page t page whole same = record {
    within = omega (arith, length-append pages (page ∷ []), slice_get_within entries (length pages) entry there);
    each = λ i q e at_q at_e. ⊎_elim
        (λ old. let some : 1 ≤ length pages = omega (arith, slice_get_within pages i q old) in
        subst (λ (u : ℕ). IsPageOf content u (count_at footer.rows i) e (slice_get entries (suc i)) q) (same some) (are.each i q e old at_e))
        (λ new. let here : entry ≡ e = some_is entry e (sym there ∙ ap (λ (n : ℕ). slice_get entries n) new.0 ∙ at_e) in
        subst (λ (l : List Placed). IsPageOf content t (count_at footer.rows i) e (slice_get entries (suc i)) l) new.1
        (subst (λ (x : PageEntry). IsPageOf content t (count_at footer.rows i) x (slice_get entries (suc i)) page) here
        (subst (λ (n : ℕ). IsPageOf content t (count_at footer.rows n) entry (slice_get entries (suc n)) page) new.0 whole)))
        (push_cases pages page i q at_q);
  }

  -- the next page is not
  pub broken_page : ((t : ℕ) (held : List Placed) → IsPageOf content t count entry next_entry held → (1 ≤ length pages → table ≡ t) → ⊥) → IsBrokenPage content entry.at
  broken_page none = record {
    entries = entries;
    footer = footer;
    has = has;
    table = table;
    pages = pages;
    before = are;
    entry = entry;
    there = there;
    broken = λ other more long h.
        let last = get_or more (length pages) [] in
        let is = h.each (length pages) last entry (slice_get-get_or more (length pages) [] (omega (arith, long))) there in
        none other last is (λ some. first_table content entries footer.rows table other pages more are h some (omega (arith, long)));
    at_is = refl;
  }

  -- its octets spell no page
  pub no_page : ((page : List Placed) → IsPage page → take entry.len (drop entry.at content) ≡ page_octets page → ⊥) → IsBrokenPage content entry.at
  no_page none = broken_page (λ t held is same. none held is.page is.spelled)

  -- or one with another number of rows, or not in order from its first key to below the next page's, or not of the table
  pub other_page : (t : ℕ) (page : List Placed) → IsPage page → take entry.len (drop entry.at content) ≡ page_octets page → (1 ≤ length pages → table ≡ t)
      → (length pages ≡ 0 → (u : ℕ) → are_ordered u entry.first (first_of_entry next_entry) None (rows_of_placed page) ≡ true → t ≡ u)
      → (length page ≡ count → are_ordered t entry.first (first_of_entry next_entry) None (rows_of_placed page) ≡ true → ⊥) → IsBrokenPage content entry.at
  other_page t page fits spelled later first wrong = broken_page (λ u held is same.
      let rows_are : page ≡ held = page_once content u count entry next_entry page held fits spelled is in
      let ordered : are_ordered u entry.first (first_of_entry next_entry) None (rows_of_placed page) ≡ true = subst (λ (l : List Placed). are_ordered u entry.first (first_of_entry next_entry) None (rows_of_placed l) ≡ true) (sym rows_are) is.ordered in
      let table_is : t ≡ u = ⊎_elim (λ none. first none u ordered) (λ some. sym (later some) ∙ same some) (zero_or (length pages)) in
      wrong (ap length rows_are ∙ is.count_is) (subst (λ (v : ℕ). are_ordered v entry.first (first_of_entry next_entry) None (rows_of_placed page) ≡ true) (sym table_is) ordered))
    where
      zero_or : (n : ℕ) → (n ≡ 0) ⊎ (1 ≤ n)
      zero_or zero = inl refl
      zero_or (suc n) = inr (omega arith)
