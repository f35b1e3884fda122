-- The page on which a row stands.
use Rattle.std.proofs.Common.{◌≡◌, ◌⊎◌, inl, inr, ℕ, zero, suc, ◌+◌, ◌-◌, ◌*◌, ◌<◌, ◌≤◌, Bool, true, false, List, [], ◌∷◌, length, get_or, take, drop, Option, Some, None, refl, sym, ap, ◌∙◌, subst, arith}
use Rattle.std.specs.Prelude.{◌==◌, slice_get}
use Rattle.std.specs.List.{Contains}
use Rattle.std.specs.Ordering.{is_le, is_lt, ordering_reverse}
use Rattle.std.specs.declared.cmp.Ordering.{Ordering}
use Rattle.std.specs.declared.cmp.Ordering.TheVariants.{Less, Equal, Greater}
use Rattle.std.proofs.lemmas.Bool.{cases_lt}
use Rattle.std.proofs.lemmas.List.{get_or-take, get_or-drop, length-take, length-drop}
use Rattle.std.proofs.lemmas.Option.{get_or_from_slice_get, slice_get-get_or, slice_get_within}
use Rattle.arch_types.specs.declared.key.Key.{Key}
use Rattle.arch_types.specs.Order.{key_cmp}
use Rattle.arch_types.proofs.Ranks.{key_cmp_total}
use Rattle.run_pages.specs.Placed.{Placed, rows_of_placed}
use Rattle.run_pages.specs.Order.{are_ordered, follows, is_below_next}
use Rattle.run_pages.specs.Index.{are_joined}
use Rattle.run_pages.specs.Runs.{ArePages, page_of_rows}
use Rattle.run_pages.specs.Damage.{first_of_entry}
use Rattle.run_pages.specs.declared.index.PageEntry.{PageEntry}
use Rattle.run_pages.proofs.Joins.{both_true}
use Rattle.run_pages.proofs.FoundPages.{length-entries, shift}
use Rattle.run_pages.proofs.OrderedRows.{same_key_is}
use Rattle.run_pages.proofs.RunIndex.{below_trans, less_of, page_number}
use Rattle.run_files.specs.Laws.{StandsOnlyOn}
use Rattle.run_files.specs.Lookup.{IsLastNotAbove, IsPageFor}
use Rattle.run_files.specs.Run.{IsRunInMemory, last_key_from, last_row_key}
use Rattle.run_files.specs.declared.run.Run.{Run}
use Rattle.run_files.proofs.KeyPages.{not_above, parted}
use Rattle.run_files.proofs.RunPages.{found}

-- ---- keys

not_both_by : (a key : Key) (r : Ordering) → key_cmp a key ≡ r → is_le r ≡ true → is_lt (ordering_reverse r) ≡ true → ⊥
not_both_by a key Less e le lt = absurd cc
not_both_by a key Equal e le lt = absurd cc
not_both_by a key Greater e le lt = absurd cc

-- a key isn't below what is at most it
pub not_both : (a key : Key) → is_le (key_cmp a key) ≡ true → is_lt (key_cmp key a) ≡ true → ⊥
not_both a key le lt = not_both_by a key (key_cmp a key) refl le (ap is_lt (sym (key_cmp_total.antisymm key a)) ∙ lt)

le_of : (r : Ordering) → is_lt r ≡ true → is_le r ≡ true
le_of Less e = refl
le_of Equal e = absurd cc
le_of Greater e = absurd cc

same_le : (r : Ordering) → r ≡ ordering_reverse r → is_le r ≡ true
same_le Less e = absurd cc
same_le Equal e = refl
same_le Greater e = absurd cc

le_self : (key : Key) → is_le (key_cmp key key) ≡ true
le_self key = same_le (key_cmp key key) (key_cmp_total.antisymm key key)

le_by : (a b c : Key) (r : Ordering) → is_lt (key_cmp a b) ≡ true → key_cmp b c ≡ r → is_le r ≡ true → is_le (key_cmp a c) ≡ true
le_by a b c Less lt e le = ap is_le (key_cmp_total.trans a b c (less_of (key_cmp a b) lt) e)
le_by a b c Equal lt e le =
    let back : key_cmp c b ≡ Equal = key_cmp_total.antisymm c b ∙ ap ordering_reverse e in
    let same : key_cmp c a ≡ key_cmp b a = key_cmp_total.congr c b a back in
    ap is_le (key_cmp_total.antisymm a c ∙ ap ordering_reverse same ∙ sym (key_cmp_total.antisymm a b)) ∙ le_of (key_cmp a b) lt
le_by a b c Greater lt e le = absurd cc

-- ---- the rows of a page

abbrev parts_of : (table : ℕ) (first : Key) (next last : Option Key) (x : Placed) (rows : List Placed) → are_ordered table first next last (rows_of_placed (x ∷ rows)) ≡ true
    → (follows first last x.row.key ≡ true) × (are_ordered table first next (Some x.row.key) (rows_of_placed rows) ≡ true)
parts_of table first next last x rows e = both_true (follows first last x.row.key) _ (both_true (x.row.table == table) _ e).1

below_next : (last key : Key) (next : Option Key) → is_lt (key_cmp last key) ≡ true → is_below_next key next ≡ true → is_below_next last next ≡ true
below_next last key None lt e = refl
below_next last key (Some next) lt e = below_trans last key next lt e

-- the last key so far is below the next page
end_below : (table : ℕ) (first last : Key) (next : Option Key) (rows : List Placed) → are_ordered table first next (Some last) (rows_of_placed rows) ≡ true → is_below_next last next ≡ true
end_below table first last next [] e = e
end_below table first last next (x ∷ rows) e =
    let parts = parts_of table first next (Some last) x rows e in
    below_next last x.row.key next parts.0 (end_below table first x.row.key next rows parts.1)

-- each row is
row_below : (table : ℕ) (first : Key) (next last : Option Key) (rows : List Placed) (at : Placed) → are_ordered table first next last (rows_of_placed rows) ≡ true → Contains rows at → is_below_next at.row.key next ≡ true
row_below table first next last [] at e (k, lt, is) = absurd (omega (arith, lt))
row_below table first next last (x ∷ rows) at e (zero, lt, is) =
    subst (λ (p : Placed). is_below_next p.row.key next ≡ true) is (end_below table first x.row.key next rows (parts_of table first next last x rows e).1)
row_below table first next last (x ∷ rows) at e (suc k, lt, is) =
    row_below table first next (Some x.row.key) rows at (parts_of table first next last x rows e).1 (k, omega (arith, lt), is)

above_last : (table : ℕ) (first last : Key) (next : Option Key) (rows : List Placed) (at : Placed) → are_ordered table first next (Some last) (rows_of_placed rows) ≡ true → Contains rows at → is_lt (key_cmp last at.row.key) ≡ true
above_last table first last next [] at e (k, lt, is) = absurd (omega (arith, lt))
above_last table first last next (x ∷ rows) at e (zero, lt, is) = subst (λ (p : Placed). is_lt (key_cmp last p.row.key) ≡ true) is (parts_of table first next (Some last) x rows e).0
above_last table first last next (x ∷ rows) at e (suc k, lt, is) =
    let parts = parts_of table first next (Some last) x rows e in
    below_trans last x.row.key at.row.key parts.0 (above_last table first x.row.key next rows at parts.1 (k, omega (arith, lt), is))

-- none is below the first
from_first : (table : ℕ) (first : Key) (next : Option Key) (rows : List Placed) (at : Placed) → are_ordered table first next None (rows_of_placed rows) ≡ true → Contains rows at → is_le (key_cmp first at.row.key) ≡ true
from_first table first next [] at e (k, lt, is) = absurd (omega (arith, lt))
from_first table first next (x ∷ rows) at e (zero, lt, is) =
    let same : first ≡ at.row.key = sym (same_key_is x.row.key first (parts_of table first next None x rows e).0) ∙ ap (λ (p : Placed). p.row.key) is in
    subst (λ (k : Key). is_le (key_cmp first k) ≡ true) same (le_self first)
from_first table first next (x ∷ rows) at e (suc k, lt, is) =
    let parts = parts_of table first next None x rows e in
    let same : x.row.key ≡ first = same_key_is x.row.key first parts.0 in
    le_of (key_cmp first at.row.key) (subst (λ (k : Key). is_lt (key_cmp k at.row.key) ≡ true) same (above_last table first x.row.key next rows at parts.1 (k, omega (arith, lt), is)))

-- none is above the last
up_to_last : (table : ℕ) (first last : Key) (next : Option Key) (rows : List Placed) → are_ordered table first next (Some last) (rows_of_placed rows) ≡ true → is_le (key_cmp last (last_key_from last rows)) ≡ true
up_to_last table first last next [] e = le_self last
up_to_last table first last next (x ∷ rows) e =
    let parts = parts_of table first next (Some last) x rows e in
    le_by last x.row.key (last_key_from x.row.key rows) (key_cmp x.row.key (last_key_from x.row.key rows)) parts.0 refl (up_to_last table first x.row.key next rows parts.1)

within_last : (table : ℕ) (first key : Key) (next last : Option Key) (rows : List Placed) (at : Placed) → are_ordered table first next last (rows_of_placed rows) ≡ true → Contains rows at → is_le (key_cmp at.row.key (last_key_from key rows)) ≡ true
within_last table first key next last [] at e (k, lt, is) = absurd (omega (arith, lt))
within_last table first key next last (x ∷ rows) at e (zero, lt, is) =
    subst (λ (p : Placed). is_le (key_cmp p.row.key (last_key_from x.row.key rows)) ≡ true) is (up_to_last table first x.row.key next rows (parts_of table first next last x rows e).1)
within_last table first key next last (x ∷ rows) at e (suc k, lt, is) =
    within_last table first x.row.key next (Some x.row.key) rows at (parts_of table first next last x rows e).1 (k, omega (arith, lt), is)

-- ---- each row stands on a page

pub page_with : (pages : List (List Placed)) (rows : List Placed) (at : Placed) → ArePages pages rows → Contains rows at → (page : ℕ) × Contains (page_of_rows page rows) at
page_with [] rows at is (k, lt, here) = absurd (omega (arith, ap length is, lt))
page_with (p ∷ pages) rows at is (k, lt, here) = by (λ has. page_with pages (drop 64 rows) at is.2 has) (cases_lt k 64)
  where
    by : (Contains (drop 64 rows) at → (page : ℕ) × Contains (page_of_rows page (drop 64 rows)) at) → (k < 64) ⊎ (64 ≤ k) → (page : ℕ) × Contains (page_of_rows page rows) at
    by more (inl first) = (0, (k, omega (arith, length-take 64 rows, first, lt), get_or-take 64 rows k at first ∙ here))
    by more (inr later) =
        let place : 64 + (k - 64) ≡ k = omega (arith, later) in
        let found = more (k - 64, omega (arith, length-drop 64 rows, later, lt), get_or-drop 64 rows (k - 64) at ∙ ap (λ (n : ℕ). get_or rows n at) place ∙ here) in
        (suc found.0, subst (λ (l : List Placed). Contains l at) (shift found.0 rows) found.1)

-- ---- and no other than its key's

-- a page whose first key isn't above a key, which is below the next page's
record HasBetween (entries : List PageEntry) (key : Key) (page : ℕ) : Type 0 where
  entry : PageEntry
  there : slice_get entries page ≡ Some entry
  not_above : is_le (key_cmp entry.first key) ≡ true
  below : is_below_next key (first_of_entry (slice_get entries (suc page))) ≡ true

module _ (entries : List PageEntry) (end : ℕ) (joined : are_joined 0 end None entries ≡ true) (key : Key) where
  same_page : (p q : ℕ) → HasBetween entries key p → IsLastNotAbove entries key q → p ≡ q
  same_page p q stands last = by (cases_lt p q) (cases_lt q p)
    where
      by : (p < q) ⊎ (q ≤ p) → (q < p) ⊎ (p ≤ q) → p ≡ q
      by (inl less) other =
          let within : q < length entries = slice_get_within entries q last.entry last.there in
          let here : get_or entries q last.entry ≡ last.entry = get_or_from_slice_get entries q last.entry last.entry last.there in
          let told : not_above key (get_or entries q last.entry) ≡ true = subst (λ (e : PageEntry). not_above key e ≡ true) (sym here) last.not_above in
          let so = parted 0 end None entries key joined (suc p) q last.entry (omega (arith, less)) within told in
          let next : slice_get entries (suc p) ≡ Some (get_or entries (suc p) last.entry) = slice_get-get_or entries (suc p) last.entry (omega (arith, less, within)) in
          absurd (not_both (get_or entries (suc p) last.entry).first key so (subst (λ (o : Option PageEntry). is_below_next key (first_of_entry o) ≡ true) next stands.below))
      by (inr le) (inl less) = absurd (not_both stands.entry.first key stands.not_above (last.later p stands.entry less stands.there))
      by (inr le) (inr ge) = omega (arith, le, ge)

module _ (content : List ℕ) (run : Run) (rows : List Placed) (k : IsRunInMemory content run rows) (at : Placed) where
  abbrev entries_here : List PageEntry
  entries_here = run.index.entries.items

  joined_here : are_joined 0 run.index.footer.at None entries_here ≡ true
  joined_here = (both_true _ _ run.index.index).1

  stands : (page : ℕ) → Contains (page_of_rows page rows) at → HasBetween entries_here at.row.key page
  stands page (i, lt, is) =
      let long : length entries_here ≡ length k.is.pages = ap length k.entries ∙ length-entries 0 k.is.pages in
      let number = page_number k.is.pages rows k.is.pages_are in
      let within : page < length entries_here = omega (arith, lt, length-take 64 (drop (64 * page) rows), length-drop (64 * page) rows, long, number.0) in
      let entry : PageEntry = get_or entries_here page (record { first = at.row.key; at = 0; len = 0 }) in
      let there : slice_get entries_here page ≡ Some entry = slice_get-get_or entries_here page (record { first = at.row.key; at = 0; len = 0 }) within in
      let page_is = (found content run rows k page entry there).is in
      record {
        entry = entry;
        there = there;
        not_above = from_first run.table entry.first (first_of_entry (slice_get entries_here (suc page))) (page_of_rows page rows) at page_is.ordered (i, lt, is);
        below = row_below run.table entry.first (first_of_entry (slice_get entries_here (suc page))) None (page_of_rows page rows) at page_is.ordered (i, lt, is);
      }

  pub own_page : (found : Option ℕ) → Contains rows at → IsPageFor entries_here at.row.key found → (page : ℕ) × (found ≡ Some page) × StandsOnlyOn rows at page
  own_page None has none =
      let here = page_with k.is.pages rows at k.is.pages_are has in
      let between = stands here.0 here.1 in
      absurd (not_both between.entry.first at.row.key between.not_above (none here.0 between.entry between.there))
  own_page (Some page) has last =
      let here = page_with k.is.pages rows at k.is.pages_are has in
      let same : (other : ℕ) → Contains (page_of_rows other rows) at → other ≡ page = λ other on. same_page entries_here run.index.footer.at joined_here at.row.key other page (stands other on) last in (
        page,
        refl,
        record { there = subst (λ (n : ℕ). Contains (page_of_rows n rows) at) (same here.0 here.1) here.1; nowhere_else = same },
      )

  -- no row is above the last
  pub at_most_last : Contains rows at → is_le (key_cmp at.row.key run.last) ≡ true
  at_most_last has = subst (λ (key : Key). is_le (key_cmp at.row.key key) ≡ true) (sym k.last)
      (within_last run.table _ _ None None rows at k.is.run_rows.ordered has)
