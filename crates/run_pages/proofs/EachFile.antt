-- A file is a run, or it is damaged at some octet.
use Rattle.std.proofs.Common.{◌≡◌, ◌⊎◌, inl, inr, ⊎_elim, ℕ, zero, suc, pos, ◌+◌, ◌-◌, ◌*◌, ◌≤◌, Bool, true, false, List, [], ◌∷◌, ◌++◌, length, get_or, take, drop, Option, Some, None, refl, sym, ap, ◌∙◌, subst, length-append, arith}
use Rattle.std.specs.Prelude.{◌==◌, slice_get}
use Rattle.std.proofs.lemmas.Bool.{cases_lt}
use Rattle.std.proofs.lemmas.Bool.Decides.{nat_tests}
use Rattle.std.proofs.lemmas.List.{take_all, take-append-drop, length-drop, length-take, get_or-take, get_or_past}
use Rattle.std.proofs.lemmas.Option.{slice_get-get_or}
use Rattle.arch_types.specs.declared.key.Key.{Key}
use Rattle.octet_fields.specs.Exact.{IsExact, IsOctets}
use Rattle.octet_fields.specs.Reading.{Reader, whole}
use Rattle.octet_fields.proofs.Exact.{rest_octets, whole_again, whole_takes}
use Rattle.run_pages.specs.Placed.{Placed, rows_of_placed}
use Rattle.run_pages.specs.Order.{are_ordered}
use Rattle.run_pages.specs.Index.{is_index}
use Rattle.run_pages.specs.Footer.{IsFooter, footer_octets}
use Rattle.run_pages.specs.Runs.{IsRunFile}
use Rattle.run_pages.specs.Damage.{HasIndex, HasNoIndex, HasWholePages, IsBrokenPage, IsRunDamagedAt, count_at, first_of_entry}
use Rattle.run_pages.specs.declared.index.PageEntry.{PageEntry}
use Rattle.run_pages.specs.declared.footer.Footer.{Footer}
use Rattle.run_pages.proofs.PageSpelling.{page_exact}
use Rattle.run_pages.proofs.IndexSpelling.{footer_exact, index_exact}
use Rattle.run_pages.proofs.Ends.{footer_is, has_index, index_is, once, size_is}
use Rattle.run_pages.proofs.Joins.{both_true}
use Rattle.run_pages.proofs.OrderedRows.{eq_true}
use Rattle.run_pages.proofs.TakenPages.{no_page, other_page, takes_page}
use Rattle.run_pages.proofs.WholePages.{rows_of_pages, whole_run}

-- ---- choices

by_bool : (b : Bool) → (b ≡ true) ⊎ (b ≡ false)
by_bool true = inl refl
by_bool false = inr refl

not_equal : (a b : ℕ) → (a == b) ≡ false → a ≡ b → ⊥
not_equal a b e is = absurd (grind (arith, nat_tests, e, is))

-- octets spell a value, or none
spells : {A : Type 0} {Fits : A → Type 0} {spell : A → List ℕ} {read : Reader A} → IsExact Fits spell read → (octets : List ℕ) → IsOctets octets
    → ((a : A) × Fits a × (octets ≡ spell a)) ⊎ ((a : A) → Fits a → octets ≡ spell a → ⊥)
spells {A} {Fits} {spell} {read} exact octets are = by (whole read octets) refl where
  by : (o : Option A) → whole read octets ≡ o → ((a : A) × Fits a × (octets ≡ spell a)) ⊎ ((a : A) → Fits a → octets ≡ spell a → ⊥)
  by (Some a) e = let t = whole_takes exact octets a are e in inl (a, t.0, t.1)
  by None e = inr (λ a fits is. absurd (cc (sym e ∙ ap (λ (l : List ℕ). whole read l) is ∙ whole_again exact a tt fits)))

-- ---- parts of octets

octets_drop : (n : ℕ) (octets : List ℕ) → IsOctets octets → IsOctets (drop n octets)
octets_drop n octets are = rest_octets (take n octets) (drop n octets) (subst IsOctets (sym (take-append-drop n octets)) are)

octets_take : (n : ℕ) (octets : List ℕ) → IsOctets octets → IsOctets (take n octets)
octets_take n octets are i =
    elim (cases_lt i n) [
      | inl lt ↦ rw (get_or-take n octets i 0 lt) (are i)
      | inr le ↦ rw (get_or_past (take n octets) i 0 (omega (arith, length-take n octets))) (omega arith)
    ]

-- ---- the index

module _ (content : List ℕ) (are : IsOctets content) where
  abbrev last : List ℕ
  last = drop (length content - 20) content

  -- where a footer was read
  index_with : (footer : Footer) → IsFooter footer → last ≡ footer_octets footer → 20 ≤ length content → ((entries : List PageEntry) × (other : Footer) × HasIndex content entries other) ⊎ HasNoIndex content
  index_with footer fits is long =
      let short : length last ≤ 20 = omega (arith, length-drop (length content - 20) content, long) in
      let told : (entries : List PageEntry) (other : Footer) → HasIndex content entries other → footer ≡ other = λ entries other h. once footer_exact footer other fits h.footer_fits (sym is ∙ sym (take_all 20 last short) ∙ footer_is content entries other h) in
      ⊎_elim
      (λ size. ⊎_elim
      (λ read. ⊎_elim
      (λ joined. inl (read.0, footer, has_index content read.0 footer (eq_true (footer.at + 24 * footer.pages + 20) (length content) size) (read.1, read.2) (fits, take_all 20 last short ∙ is) joined))
      (λ none. inr (λ entries other h.
      let same = told entries other h in
      let there : HasIndex content entries footer = subst (HasIndex content entries) (sym same) h in
      let indexes : read.0 ≡ entries = once (index_exact footer.pages) read.0 entries read.1 there.fits (sym read.2 ∙ index_is content entries footer there) in
      absurd (cc (sym none ∙ ap (λ (l : List PageEntry). is_index l footer) indexes ∙ there.index))))
      (by_bool (is_index read.0 footer)))
      (λ none. inr (λ entries other h.
      let there : HasIndex content entries footer = subst (HasIndex content entries) (sym (told entries other h)) h in
      none entries there.fits (index_is content entries footer there)))
      (spells (index_exact footer.pages) (take (24 * footer.pages) (drop footer.at content)) (octets_take (24 * footer.pages) (drop footer.at content) (octets_drop footer.at content are))))
      (λ size. inr (λ entries other h.
      let there : HasIndex content entries footer = subst (HasIndex content entries) (sym (told entries other h)) h in
      not_equal (footer.at + 24 * footer.pages + 20) (length content) size (size_is content entries footer there)))
      (by_bool (footer.at + 24 * footer.pages + 20 == length content))

  index_or_none : ((entries : List PageEntry) × (other : Footer) × HasIndex content entries other) ⊎ HasNoIndex content
  index_or_none = ⊎_elim
      (λ short. inr (λ entries footer h. absurd (omega (arith, size_is content entries footer h, short))))
      (λ long. ⊎_elim
      (λ read. index_with read.0 read.1 read.2 long)
      (λ none. inr (λ entries footer h. none footer h.footer_fits (sym (take_all 20 last (omega (arith, length-drop (length content - 20) content, long))) ∙ footer_is content entries footer h)))
      (spells footer_exact last (octets_drop (length content - 20) content are)))
      (cases_lt (length content) 20)

-- ---- the pages

abbrev first_table : List Placed → ℕ
first_table [] = 0
first_table (x ∷ rows) = x.row.table

of_first : (rows : List Placed) (first : Key) (next : Option Key) (u : ℕ) → are_ordered u first next None (rows_of_placed rows) ≡ true → first_table rows ≡ u
of_first [] first next u e = absurd cc
of_first (x ∷ rows) first next u e = eq_true x.row.table u (both_true (x.row.table == u) _ e).0

module _ (content : List ℕ) (are : IsOctets content) (entries : List PageEntry) (footer : Footer) (has : HasIndex content entries footer) where
  -- the table of the pages so far, or that of the first page's first row
  abbrev table_for : List (List Placed) → ℕ → List Placed → ℕ
  table_for [] table page = first_table page
  table_for (p ∷ pages) table page = table

  later : (table : ℕ) (pages : List (List Placed)) (page : List Placed) → 1 ≤ length pages → table ≡ table_for pages table page
  later table [] page some = absurd (omega (arith, some))
  later table (p ∷ pages) page some = refl

  first : (table : ℕ) (pages : List (List Placed)) (page : List Placed) (key : Key) (next : Option Key) → length pages ≡ 0 → (u : ℕ) → are_ordered u key next None (rows_of_placed page) ≡ true → table_for pages table page ≡ u
  first table [] page key next none u e = of_first page key next u e
  first table (p ∷ pages) page key next none u e = absurd (omega (arith, none))

  -- one page more is whole, or the next one is broken
  one_more : (table : ℕ) (pages : List (List Placed)) → HasWholePages content entries footer.rows table pages → (entry : PageEntry) → slice_get entries (length pages) ≡ Some entry
      → ((t : ℕ) × (page : List Placed) × HasWholePages content entries footer.rows t (pages ++ page ∷ [])) ⊎ IsBrokenPage content entry.at
  one_more table pages h entry there =
      let next = slice_get entries (suc (length pages)) in
      let count = count_at footer.rows (length pages) in
      ⊎_elim
      (λ read. let page = read.0 in
      let t = table_for pages table page in
      ⊎_elim
      (λ long. ⊎_elim
      (λ ordered. inl (
        t,
        page,
        takes_page content entries footer table pages has h entry there t page
            (record { page = read.1; spelled = read.2; count_is = eq_true (length page) count long; ordered = ordered }) (later table pages page),
      ))
      (λ wrong. inr (other_page content entries footer table pages has h entry there t page read.1 read.2 (later table pages page) (first table pages page entry.first (first_of_entry next)) (λ same e. absurd (cc (sym wrong ∙ e)))))
      (by_bool (are_ordered t entry.first (first_of_entry next) None (rows_of_placed page))))
      (λ wrong. inr (other_page content entries footer table pages has h entry there t page read.1 read.2 (later table pages page) (first table pages page entry.first (first_of_entry next)) (λ same e. not_equal (length page) count wrong same)))
      (by_bool (length page == count)))
      (λ none. inr (no_page content entries footer table pages has h entry there none))
      (spells page_exact (take entry.len (drop entry.at content)) (octets_take entry.len (drop entry.at content) (octets_drop entry.at content are)))

  -- all pages are whole, or one is broken
  all_more : (left table : ℕ) (pages : List (List Placed)) → HasWholePages content entries footer.rows table pages → length pages + left ≡ length entries
      → ((t : ℕ) × (rows : List Placed) × IsRunFile content t rows) ⊎ ((at : ℕ) × IsBrokenPage content at)
  all_more zero table pages h done = inl (table, rows_of_pages pages, whole_run content entries footer table pages has h (omega (arith, done)))
  all_more (suc left) table pages h done =
      let d : PageEntry = record { first = record { time = pos 0; seq = 0 }; at = 0; len = 0 } in
      let entry = get_or entries (length pages) d in
      ⊎_elim
      (λ more. all_more left more.0 (pages ++ more.1 ∷ []) more.2 (omega (arith, length-append pages (more.1 ∷ []), done)))
      (λ broken. inr (entry.at, broken))
      (one_more table pages h entry (slice_get-get_or entries (length pages) d (omega (arith, done))))

no_pages : (content : List ℕ) (entries : List PageEntry) (rows : ℕ) → HasWholePages content entries rows 0 []
no_pages content entries rows = record { within = omega arith; each = λ i page entry at_p at_e. absurd (cc at_p) }

pub run_or_damaged : (content : List ℕ) → IsOctets content → ((table : ℕ) × (rows : List Placed) × IsRunFile content table rows) ⊎ ((at : ℕ) × IsRunDamagedAt content at)
run_or_damaged content are = ⊎_elim
    (λ there. ⊎_elim (λ run. inl run) (λ broken. inr (broken.0, inr broken.1))
    (all_more content are there.0 there.1 there.2 (length there.0) 0 [] (no_pages content there.0 there.1.rows) (omega arith)))
    (λ none. inr (0, inl (none, refl)))
    (index_or_none content are)
