-- The page that may have a key.
use Rattle.std.proofs.Common.{◌≡◌, ◌⊎◌, inl, inr, ℕ, zero, suc, ◌+◌, ◌<◌, ◌≤◌, Bool, true, false, List, [], ◌∷◌, length, get_or, Option, Some, None, refl, sym, ap, ◌∙◌, subst, arith}
use Rattle.std.specs.Prelude.{◌==◌, nat_le, slice_get}
use Rattle.std.specs.List.Sorted.{IsPartitionedBy, IsPartitionPoint}
use Rattle.std.specs.Ordering.{is_lt, is_le, ordering_reverse}
use Rattle.std.specs.declared.cmp.Ordering.{Ordering}
use Rattle.std.specs.declared.cmp.Ordering.TheVariants.{Less, Equal, Greater}
use Rattle.std.proofs.lemmas.Bool.{cases_lt}
use Rattle.std.proofs.lemmas.Cmp.{alike_right}
use Rattle.std.proofs.lemmas.Option.{slice_get-get_or, slice_get_within, get_or_from_slice_get}
use Rattle.arch_types.specs.declared.key.Key.{Key}
use Rattle.arch_types.specs.Order.{key_cmp}
use Rattle.arch_types.proofs.Ranks.{key_cmp_total}
use Rattle.run_pages.specs.Index.{are_joined, is_above_last}
use Rattle.run_files.specs.Lookup.{IsPageFor}
use Rattle.run_pages.specs.declared.index.PageEntry.{PageEntry}
use Rattle.run_pages.proofs.Joins.{both_true}
use Rattle.run_pages.proofs.RunIndex.{below_trans, less_of}

-- whether a page's first key isn't above a key
abbrev pub not_above : Key → PageEntry → Bool
not_above key entry = is_le (key_cmp entry.first key)

all_above : (at end : ℕ) (last : Key) (entries : List PageEntry) (j : ℕ) (d : PageEntry) → are_joined at end (Some last) entries ≡ true → j < length entries → is_lt (key_cmp last (get_or entries j d).first) ≡ true
all_above at end last [] j d e lt = absurd (omega (arith, lt))
all_above at end last (entry ∷ entries) zero d e lt = (both_true (is_above_last (Some last) entry.first) _ (both_true (nat_le 1 entry.len) _ (both_true (entry.at == at) _ e).1).1).0
all_above at end last (entry ∷ entries) (suc j) d e lt =
    let more = both_true (is_above_last (Some last) entry.first) _ (both_true (nat_le 1 entry.len) _ (both_true (entry.at == at) _ e).1).1 in
    below_trans last entry.first (get_or entries j d).first more.0 (all_above (at + entry.len) end entry.first entries j d more.1 (omega (arith, lt)))

rising : (at end : ℕ) (last : Option Key) (entries : List PageEntry) (i j : ℕ) (d : PageEntry) → are_joined at end last entries ≡ true → i < j → j < length entries → is_lt (key_cmp (get_or entries i d).first (get_or entries j d).first) ≡ true
rising at end last [] i j d e less lt = absurd (omega (arith, lt))
rising at end last (entry ∷ entries) zero zero d e less lt = absurd (omega (arith, less))
rising at end last (entry ∷ entries) (suc i) zero d e less lt = absurd (omega (arith, less))
rising at end last (entry ∷ entries) zero (suc j) d e less lt =
    let more = both_true (is_above_last last entry.first) _ (both_true (nat_le 1 entry.len) _ (both_true (entry.at == at) _ e).1).1 in
    all_above (at + entry.len) end entry.first entries j d more.1 (omega (arith, lt))
rising at end last (entry ∷ entries) (suc i) (suc j) d e less lt =
    let more = both_true (is_above_last last entry.first) _ (both_true (nat_le 1 entry.len) _ (both_true (entry.at == at) _ e).1).1 in
    rising (at + entry.len) end (Some entry.first) entries i j d more.1 (omega (arith, less)) (omega (arith, lt))

at_most : (a b key : Key) (r : Ordering) → is_lt (key_cmp a b) ≡ true → key_cmp b key ≡ r → is_le r ≡ true → is_le (key_cmp a key) ≡ true
at_most a b key Less less e le = ap is_le (key_cmp_total.trans a b key (less_of (key_cmp a b) less) e)
at_most a b key Equal less e le = ap is_le (sym (alike_right key_cmp_total b key a e) ∙ less_of (key_cmp a b) less)
at_most a b key Greater less e le = absurd cc

pub parted : (at end : ℕ) (last : Option Key) (entries : List PageEntry) (key : Key) → are_joined at end last entries ≡ true → IsPartitionedBy (not_above key) entries
parted at end last entries key e i j d le lt told = by (cases_lt i j)
  where
    by : (i < j) ⊎ (j ≤ i) → not_above key (get_or entries i d) ≡ true
    by (inl less) = at_most (get_or entries i d).first (get_or entries j d).first key (key_cmp (get_or entries j d).first key) (rising at end last entries i j d e less lt) refl told
    by (inr same) = let is : j ≡ i = omega (arith, le, same) in subst (λ (n : ℕ). not_above key (get_or entries n d) ≡ true) is told

above : (a key : Key) (r : Ordering) → key_cmp a key ≡ r → is_le r ≡ false → is_lt (key_cmp key a) ≡ true
above a key Less e not_so = absurd cc
above a key Equal e not_so = absurd cc
above a key Greater e not_so = ap is_lt (key_cmp_total.antisymm key a ∙ ap ordering_reverse e)

module _ (entries : List PageEntry) (key : Key) (behind : ℕ) (point : IsPartitionPoint (λ (y : PageEntry). not_above key y ≡ true) (λ (y : PageEntry). not_above key y ≡ false) entries behind) where
  above_from : (page : ℕ) (entry : PageEntry) → behind ≤ page → slice_get entries page ≡ Some entry → is_lt (key_cmp key entry.first) ≡ true
  above_from page entry le there =
      let not_so = point.1 page entry le (slice_get_within entries page entry there) in
      let is : get_or entries page entry ≡ entry = get_or_from_slice_get entries page entry entry there in
      above entry.first key (key_cmp entry.first key) refl (subst (λ (y : PageEntry). not_above key y ≡ false) is not_so)

  pub no_page : behind ≡ 0 → IsPageFor entries key None
  no_page none page entry there = above_from page entry (omega (arith, none)) there

  pub last_page : (d : PageEntry) (page : ℕ) → page + 1 ≡ behind → behind ≤ length entries → IsPageFor entries key (Some page)
  last_page d page is within = record {
    entry = get_or entries page d;
    there = slice_get-get_or entries page d (omega (arith, is, within));
    not_above = point.0 page d (omega arith) (omega (arith, is));
    later = λ q other less there. above_from q other (omega (arith, is, less)) there;
  }
