-- One page more of a run that is opened.
use Rattle.std.proofs.Common.{◌≡◌, ℕ, zero, suc, pos, ◌+◌, ◌<◌, ◌≤◌, Bool, true, List, [], ◌∷◌, ◌++◌, length, get_or, take, drop, Option, Some, None, refl, sym, ap, ◌∙◌, subst, append-nil, add-one, length-append, arith}
use Rattle.std.specs.Prelude.{slice_get, ◌==◌, nat_le}
use Rattle.std.proofs.lemmas.Grind.{flat_map-append}
use Rattle.arch_types.specs.declared.row.Row.{Row}
use Rattle.arch_types.specs.declared.key.Key.{Key}
use Rattle.octet_fields.proofs.Exact.{some_is}
use Rattle.run_pages.specs.Placed.{Placed, placed_rows, rows_of_placed}
use Rattle.run_pages.specs.Order.{are_ordered}
use Rattle.run_pages.specs.Pages.{IsPage, page_octets, rows_of_page}
use Rattle.run_pages.specs.Index.{are_joined, index_octets, is_above_last}
use Rattle.run_pages.specs.Footer.{footer_octets}
use Rattle.run_pages.specs.Damage.{HasIndex, IsBrokenPage, IsPageOf, count_at, first_of_entry}
use Rattle.run_pages.specs.declared.index.PageEntry.{PageEntry}
use Rattle.run_pages.specs.declared.footer.Footer.{Footer}
use Rattle.run_pages.specs.declared.page_rows.PageRows.{PageRows}
use Rattle.run_pages.proofs.Beside.{placed_rows_len, rows_back}
use Rattle.run_pages.proofs.Joins.{both_true, joined_forward}
use Rattle.run_pages.proofs.OrderedRows.{eq_true}
use Rattle.run_pages.proofs.TakenPages.{no_page, other_page, takes_page}
use Rattle.run_files.specs.Opening.{IsReadingRun, rows_of_pages}
use Rattle.run_files.specs.Run.{last_key_from, last_row_key}
use Rattle.run_files.specs.declared.opening.RunOpening.{RunOpening}

-- ---- the last key

last_append : (key : Key) (a b : List Placed) → last_key_from key (a ++ b) ≡ last_key_from (last_key_from key a) b
last_append key [] b = refl
last_append key (x ∷ a) b = last_append x.row.key a b

last_any : (key other : Key) (rows : List Placed) → 1 ≤ length rows → last_key_from key rows ≡ last_key_from other rows
last_any key other [] some = absurd (omega (arith, some))
last_any key other (x ∷ rows) some = refl

pub last_more : (pages : List (List Placed)) (page : List Placed) → 1 ≤ length page → last_row_key page ≡ last_row_key (rows_of_pages (pages ++ page ∷ []))
last_more pages page some =
    let none : Key = record { time = pos 0; seq = 0 } in
    last_any none (last_row_key (rows_of_pages pages)) page some ∙ sym (last_append none (rows_of_pages pages) page)
    ∙ ap (λ (l : List Placed). last_row_key (rows_of_pages pages ++ l)) (sym (append-nil page)) ∙ ap last_row_key (sym (flat_map-append (λ (p : List Placed). p) pages (page ∷ [])))

pub last_row : (positions : List ℕ) (rows : List Row) (i : ℕ) (row : Row) (key : Key) → length positions ≡ length rows → i + 1 ≡ length rows → row ≡ get_or rows i row → last_key_from key (placed_rows positions rows) ≡ row.key
last_row [] [] i row key beside is there = absurd (omega (arith, is))
last_row [] (r ∷ rows) i row key beside is there = absurd (omega (arith, beside))
last_row (p ∷ positions) [] i row key beside is there = absurd (omega (arith, beside))
last_row (p ∷ []) (r ∷ []) zero row key beside is there = sym (ap (λ (x : Row). x.key) there)
last_row (p ∷ []) (r ∷ []) (suc i) row key beside is there = absurd (omega (arith, is))
last_row (p ∷ []) (r ∷ s ∷ rows) i row key beside is there = absurd (omega (arith, beside))
last_row (p ∷ q ∷ positions) (r ∷ []) i row key beside is there = absurd (omega (arith, beside))
last_row (p ∷ q ∷ positions) (r ∷ s ∷ rows) zero row key beside is there = absurd (omega (arith, is))
last_row (p ∷ q ∷ positions) (r ∷ s ∷ rows) (suc i) row key beside is there = last_row (q ∷ positions) (s ∷ rows) i row r.key (omega (arith, beside)) (omega (arith, is)) there

-- ---- the table and the order of a page's rows

pub table_is : (rows : List Row) (row : Row) (first : Key) (next : Option Key) (u : ℕ) → 0 < length rows → row ≡ get_or rows 0 row → are_ordered u first next None rows ≡ true → row.table ≡ u
table_is [] row first next u some there e = absurd (omega (arith, some))
table_is (x ∷ rows) row first next u some there e = ap (λ (r : Row). r.table) there ∙ eq_true x.table u (both_true (x.table == u) _ e).0

pub order_told : (items given : List PageEntry) (page t : ℕ) (first : Key) (next : Option Key) (rows mine : List Row) (result : Bool) → given ≡ items → next ≡ first_of_entry (slice_get given (page + 1)) → mine ≡ rows
    → result ≡ are_ordered t first next None mine → result ≡ are_ordered t first (first_of_entry (slice_get items (suc page))) None rows
order_told items given page t first next rows mine result items_are next_is rows_are told =
    let is : next ≡ first_of_entry (slice_get items (suc page)) = next_is ∙ ap (λ (l : List PageEntry). first_of_entry (slice_get l (page + 1))) items_are ∙ ap (λ (n : ℕ). first_of_entry (slice_get items n)) (add-one page) in
    told ∙ ap (λ (o : Option Key). are_ordered t first o None mine) is ∙ ap (λ (l : List Row). are_ordered t first (first_of_entry (slice_get items (suc page))) None l) rows_are

-- ---- a page stands before the index

pub entry_within : (at end : ℕ) (last : Option Key) (entries : List PageEntry) (i : ℕ) (entry : PageEntry) → are_joined at end last entries ≡ true → slice_get entries i ≡ Some entry → entry.at + entry.len ≤ end
entry_within at end last [] i entry joined there = absurd (cc there)
entry_within at end last (e ∷ entries) zero entry joined there =
    let a = both_true (e.at == at) _ joined in
    let b = both_true (nat_le 1 e.len) _ a.1 in
    let d = both_true (is_above_last last e.first) _ b.1 in
    let place : e.at ≡ at = eq_true e.at at a.0 in
    let forward = joined_forward (at + e.len) end (Some e.first) entries d.1 in
    let same : e ≡ entry = some_is e entry there in
    subst (λ (x : PageEntry). x.at + x.len ≤ end) same (omega (arith, place, forward))
entry_within at end last (e ∷ entries) (suc i) entry joined there =
    let a = both_true (e.at == at) _ joined in
    let b = both_true (nat_le 1 e.len) _ a.1 in
    let d = both_true (is_above_last last e.first) _ b.1 in
    entry_within (at + e.len) end (Some e.first) entries i entry d.1 there

pub inside : (content : List ℕ) (entries : List PageEntry) (footer : Footer) (i : ℕ) (entry : PageEntry) → HasIndex content entries footer → slice_get entries i ≡ Some entry → entry.at + entry.len ≤ length content
inside content entries footer i entry has there =
    let joined = (both_true _ _ has.index).1 in
    let before = entry_within 0 footer.at None entries i entry joined there in
    omega (arith, before, has.at_is, ap length has.content_is, length-append has.before (index_octets entries ++ footer_octets footer))

module _ (content : List ℕ) (opening : RunOpening) (pages : List (List Placed)) (r : IsReadingRun opening content pages) (entry : PageEntry) (there : slice_get opening.index.entries.items opening.read ≡ Some entry) where
  abbrev entries : List PageEntry
  entries = opening.index.entries.items

  abbrev count : ℕ
  count = count_at opening.index.footer.rows opening.read

  here : slice_get entries (length pages) ≡ Some entry
  here = ap (λ (n : ℕ). slice_get entries n) r.count ∙ there

  -- its octets spell no page
  pub not_spelled : ((page : List Placed) → IsPage page → take entry.len (drop entry.at content) ≡ page_octets page → ⊥) → IsBrokenPage content entry.at
  not_spelled none = no_page content entries opening.index.footer opening.table pages r.has r.are entry here none

  module _ (page : PageRows) (fits : IsPage (rows_of_page page)) (spelled : take entry.len (drop entry.at content) ≡ page_octets (rows_of_page page)) where
    back : rows_of_placed (rows_of_page page) ≡ page.rows
    back = rows_back page.positions page.rows page.beside

    long : length (rows_of_page page) ≡ length page.rows
    long = placed_rows_len page.positions page.rows page.beside

    abbrev next : Option Key
    next = first_of_entry (slice_get entries (suc opening.read))

    -- a page that is as the index says
    pub taken : (t : ℕ) (new : RunOpening) → length page.rows ≡ count → are_ordered t entry.first next None page.rows ≡ true → (1 ≤ opening.read → opening.table ≡ t)
        → new.index ≡ opening.index → new.read ≡ opening.read + 1 → new.table ≡ t → new.last ≡ last_row_key (rows_of_page page) → IsReadingRun new content (pages ++ rows_of_page page ∷ [])
    taken t new count_is ordered later index read table last =
        let is : IsPageOf content t (count_at opening.index.footer.rows (length pages)) entry (slice_get entries (suc (length pages))) (rows_of_page page) =
        subst (λ (n : ℕ). IsPageOf content t (count_at opening.index.footer.rows n) entry (slice_get entries (suc n)) (rows_of_page page)) (sym r.count)
        (record { page = fits; spelled = spelled; count_is = long ∙ count_is; ordered = subst (λ (l : List Row). are_ordered t entry.first next None l ≡ true) (sym back) ordered }) in
        let more = takes_page content entries opening.index.footer opening.table pages r.has r.are entry here t (rows_of_page page) is (λ some. later (omega (arith, some, r.count))) in
        record {
          has = rw index r.has;
          are = rw (index, table) more;
          count = omega (arith, length-append pages (rows_of_page page ∷ []), r.count, read);
          last = last ∙ last_more pages (rows_of_page page) fits.some;
        }

    -- a page that isn't
    pub wrong : (t : ℕ) → (1 ≤ opening.read → opening.table ≡ t) → (opening.read ≡ 0 → (u : ℕ) → are_ordered u entry.first next None page.rows ≡ true → t ≡ u)
        → (length page.rows ≡ count → are_ordered t entry.first next None page.rows ≡ true → ⊥) → IsBrokenPage content entry.at
    wrong t later first not_so =
        let place : (n : ℕ) → n ≡ opening.read → (u : ℕ) → are_ordered u entry.first (first_of_entry (slice_get entries (suc n))) None (rows_of_placed (rows_of_page page)) ≡ true → are_ordered u entry.first next None page.rows ≡ true =
        λ n is u e. subst (λ (l : List Row). are_ordered u entry.first next None l ≡ true) back (subst (λ (m : ℕ). are_ordered u entry.first (first_of_entry (slice_get entries (suc m))) None (rows_of_placed (rows_of_page page)) ≡ true) is e) in
        other_page content entries opening.index.footer opening.table pages r.has r.are entry here t (rows_of_page page) fits spelled (λ some. later (omega (arith, some, r.count)))
        (λ none u e. first (omega (arith, none, r.count)) u (place (length pages) r.count u e))
        (λ same e. not_so (sym long ∙ same ∙ ap (count_at opening.index.footer.rows) r.count) (place (length pages) r.count t e))

    -- so one with another number of rows
    pub wrong_count : (length page.rows ≡ count → ⊥) → IsBrokenPage content entry.at
    wrong_count none = by opening.read refl where
      first_table : List Row → ℕ
      first_table [] = 0
      first_table (x ∷ rows) = x.table

      told : (rows : List Row) (u : ℕ) → are_ordered u entry.first next None rows ≡ true → first_table rows ≡ u
      told [] u e = absurd cc
      told (x ∷ rows) u e = eq_true x.table u (both_true (x.table == u) _ e).0

      by : (n : ℕ) → opening.read ≡ n → IsBrokenPage content entry.at
      by zero is = wrong (first_table page.rows) (λ some. absurd (omega (arith, some, is))) (λ zero_read u e. told page.rows u e) (λ same e. none same)
      by (suc n) is = wrong opening.table (λ some. refl) (λ zero_read u e. absurd (omega (arith, zero_read, is))) (λ same e. none same)
