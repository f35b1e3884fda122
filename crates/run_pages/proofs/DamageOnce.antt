-- A file is one run at most, or damaged at one octet.
use Rattle.std.proofs.Common.{◌≡◌, inl, inr, ⊎_elim, ℕ, zero, suc, ◌+◌, ◌<◌, List, [], ◌∷◌, length, take, Some, sym, ap, ◌∙◌, subst, arith}
use Rattle.std.specs.Prelude.{slice_get}
use Rattle.std.proofs.lemmas.Bool.{cases_lt}
use Rattle.std.proofs.lemmas.List.{length-take}
use Rattle.std.proofs.lemmas.Option.{slice_get_within}
use Rattle.octet_fields.proofs.Exact.{some_is}
use Rattle.run_pages.specs.Placed.{Placed}
use Rattle.run_pages.specs.Runs.{IsRunFile, entries_from, footer_of_pages}
use Rattle.run_pages.specs.Damage.{HasIndex, HasWholePages, IsBrokenPage, IsRunDamagedAt}
use Rattle.run_pages.specs.declared.index.PageEntry.{PageEntry}
use Rattle.run_pages.specs.declared.footer.Footer.{Footer}
use Rattle.run_pages.proofs.Ends.{index_once}
use Rattle.run_pages.proofs.FoundPages.{length-entries, run_has_pages}
use Rattle.run_pages.proofs.RunIndex.{run_has_index}

-- ---- fewer pages

get_take : {X : Type 0} (n : ℕ) (xs : List X) (i : ℕ) (x : X) → slice_get (take n xs) i ≡ Some x → slice_get xs i ≡ Some x
get_take zero xs i x e = absurd (cc e)
get_take (suc n) [] i x e = absurd (cc e)
get_take (suc n) (y ∷ xs) zero x e = e
get_take (suc n) (y ∷ xs) (suc i) x e = get_take n xs i x e

pub fewer_pages : (n : ℕ) (content : List ℕ) (entries : List PageEntry) (rows table : ℕ) (pages : List (List Placed)) → HasWholePages content entries rows table pages → HasWholePages content entries rows table (take n pages)
fewer_pages n content entries rows table pages h = record {
  within = omega (arith, length-take n pages, h.within);
  each = λ i page entry at_p at_e. h.each i page entry (get_take n pages i page at_p) at_e;
}

-- where more pages are whole, none before is broken
none_before : (content : List ℕ) (at : ℕ) (entries : List PageEntry) (footer : Footer) (table : ℕ) (pages : List (List Placed)) (x : IsBrokenPage content at) → HasIndex content entries footer → HasWholePages content entries footer.rows table pages →
    length x.pages < length pages → ⊥
none_before content at entries footer table pages x has are lt =
    let same = index_once content entries x.entries footer x.footer has x.has in
    let here : HasWholePages content x.entries x.footer.rows table pages = subst (λ (f : Footer). HasWholePages content x.entries f.rows table pages) same.0 (subst (λ (l : List PageEntry). HasWholePages content l footer.rows table pages) same.1 are) in
    x.broken table (take (length x.pages + 1) pages) (omega (arith, length-take (length x.pages + 1) pages, lt)) (fewer_pages (length x.pages + 1) content x.entries x.footer.rows table pages here)

one_broken : (content : List ℕ) (a b : ℕ) (x : IsBrokenPage content a) (y : IsBrokenPage content b) → a ≡ b
one_broken content a b x y = ⊎_elim
    (λ lt. absurd (none_before content a y.entries y.footer y.table y.pages x y.has y.before lt))
    (λ le. ⊎_elim
    (λ lt. absurd (none_before content b x.entries x.footer x.table x.pages y x.has x.before lt))
    (λ other. let number : length x.pages ≡ length y.pages = omega (arith, le, other) in
    let indexes = (index_once content x.entries y.entries x.footer y.footer x.has y.has).1 in
    let same : x.entry ≡ y.entry = some_is x.entry y.entry (sym x.there ∙ ap (λ (l : List PageEntry). slice_get l (length x.pages)) indexes ∙ ap (λ (n : ℕ). slice_get y.entries n) number ∙ y.there) in
    x.at_is ∙ ap (λ (e : PageEntry). e.at) same ∙ sym y.at_is)
    (cases_lt (length y.pages) (length x.pages)))
    (cases_lt (length x.pages) (length y.pages))

pub damage_once : (content : List ℕ) (a b : ℕ) → IsRunDamagedAt content a → IsRunDamagedAt content b → a ≡ b
damage_once content a b (inl x) (inl y) = x.1 ∙ sym y.1
damage_once content a b (inl x) (inr y) = absurd (x.0 y.entries y.footer y.has)
damage_once content a b (inr x) (inl y) = absurd (y.0 x.entries x.footer x.has)
damage_once content a b (inr x) (inr y) = one_broken content a b x y

pub run_is_whole : (content : List ℕ) (table : ℕ) (rows : List Placed) (at : ℕ) → IsRunFile content table rows → IsRunDamagedAt content at → ⊥
run_is_whole content table rows at k (inl none) = none.0 (entries_from 0 k.pages) (footer_of_pages k.pages (length rows)) (run_has_index content table rows k)
run_is_whole content table rows at k (inr x) =
    let footer = footer_of_pages k.pages (length rows) in
    let has = run_has_index content table rows k in
    let same = (index_once content x.entries (entries_from 0 k.pages) x.footer footer x.has has).1 in
    none_before content at (entries_from 0 k.pages) footer table k.pages x has (run_has_pages content table rows k)
    (omega (arith, slice_get_within x.entries (length x.pages) x.entry x.there, ap length same, length-entries 0 k.pages))
