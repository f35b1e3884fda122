-- What a link put, as a part of the whole.
use Rattle.std.proofs.Common.{◌≡◌, inl, inr, ℕ, zero, suc, ◌+◌, ◌-◌, ◌≤◌, ◌==◌, List, [], ◌∷◌, drop, filter, Bool, true, false, cond, Contains, Some, refl, sym, ap, subst, ◌∙◌, arith, true≢false, eqb-true, eq-eqb}
use Rattle.std.specs.Prelude.{slice_get}
use Rattle.std.specs.List.{AllByRecursion}
use Rattle.arch_types.specs.declared.row.Row.{Row}
use Rattle.history_items.specs.declared.items.Item.{Item}
use Rattle.history_items.specs.declared.items.Item.TheVariants as items
use Rattle.history_items.specs.Items.{is_row_with, items_of, row_item, rows_in}
use Rattle.history_items.proofs.ItemLists.{rows_of_rows}
use Rattle.shared_history.specs.Laws.{EachRowIsOfALink, RowsOfALink}
use Rattle.shared_history.specs.Turns.{ArePlaced, HasPut, LinksDiffer, LinkWork, RiseFrom, StandAt}
use Rattle.shared_history.proofs.Members.{IsIn, all_in, below_length, in_from, row_in_items, stands_in}

rising_in : (low : ℕ) (ps : List ℕ) (p : ℕ) → RiseFrom low ps → IsIn p ps → low ≤ p
rising_in low [] p r i = absurd i
rising_in low (q ∷ ps) p r (inl e) = omega (arith, e, r.0)
rising_in low (q ∷ ps) p r (inr i) = omega (arith, r.0, rising_in (suc q) ps p r.1 i)

-- the items at the places, counted from k on
abbrev From : {X : Type 0} → ℕ → List X → List ℕ → List X → Type 0
From k xs [] [] = Unit {0}
From k xs [] (r ∷ rs) = ⊥
From k xs (p ∷ ps) [] = ⊥
From k xs (p ∷ ps) (r ∷ rs) = ((i : ℕ) × (p ≡ k + i) × (slice_get xs i ≡ Some r)) × From k xs ps rs

shift_one : {X : Type 0} (k : ℕ) (x : X) (xs : List X) (p : ℕ) (r : X) → suc k ≤ p → (i : ℕ) × (p ≡ k + i) × (slice_get (x ∷ xs) i ≡ Some r) → (i : ℕ) × (p ≡ suc k + i) × (slice_get xs i ≡ Some r)
shift_one k x xs p r above (zero, e, at) = absurd (omega (arith, above, e))
shift_one k x xs p r above (suc i, e, at) = (i, omega (arith, e), at)

shift : {X : Type 0} (k : ℕ) (x : X) (xs : List X) (ps : List ℕ) (rs : List X) → RiseFrom (suc k) ps → From k (x ∷ xs) ps rs → From (suc k) xs ps rs
shift k x xs [] [] r f = tt
shift k x xs [] (y ∷ rs) r f = absurd f
shift k x xs (p ∷ ps) [] r f = absurd f
shift k x xs (p ∷ ps) (y ∷ rs) r f = (shift_one k x xs p y r.0 f.0, shift k x xs ps rs (weaken (suc k) (suc p) ps (omega (arith, r.0)) r.1) f.1)
  where
    weaken : (low high : ℕ) (ps : List ℕ) → low ≤ high → RiseFrom high ps → RiseFrom low ps
    weaken low high [] le r = tt
    weaken low high (q ∷ qs) le r = (omega (arith, le, r.0), r.1)

abbrev Knows : {X : Type 0} → (X → Bool) → ℕ → List X → List ℕ → Type 0
Knows {X = X} test k xs ps = (i : ℕ) (y : X) → slice_get xs i ≡ Some y → test y ≡ true → IsIn (k + i) ps

later : {X : Type 0} (test : X → Bool) (k : ℕ) (x : X) (xs : List X) (ps : List ℕ) → Knows test k (x ∷ xs) ps → Knows test (suc k) xs ps
later test k x xs ps know i y at t = let e : k + suc i ≡ suc k + i = omega arith in subst (λ (n : ℕ). IsIn n ps) e (know (suc i) y at t)

-- no place is k
none_at : (k : ℕ) (ps : List ℕ) → RiseFrom (suc k) ps → IsIn (k + 0) ps → ⊥
none_at k ps r i = let low = rising_in (suc k) ps (k + 0) r i in absurd (omega (arith, low))

passed_over : {X : Type 0} (test : X → Bool) (k : ℕ) (x : X) (xs : List X) (ps : List ℕ) (rs : List X) → RiseFrom (suc k) ps → Knows test k (x ∷ xs) ps → filter test xs ≡ rs → filter test (x ∷ xs) ≡ rs
passed_over test k x xs ps rs r know others = go (test x) refl
  where
    go : (b : Bool) → test x ≡ b → cond b (x ∷ filter test xs) (filter test xs) ≡ rs
    go true e = absurd (none_at k ps r (know 0 x refl e))
    go false e = others

taken : {X : Type 0} (test : X → Bool) (x r : X) (xs rs : List X) → test r ≡ true → x ≡ r → filter test xs ≡ rs → filter test (x ∷ xs) ≡ r ∷ rs
taken {X = X} test x r xs rs passes same others =
    let here : test x ≡ true = ap test same ∙ passes in
    rw here (ap (λ (y : X). y ∷ filter test xs) same ∙ ap (λ (l : List X). r ∷ l) others)

others_know : {X : Type 0} (test : X → Bool) (k p : ℕ) (x : X) (xs : List X) (ps : List ℕ) → p ≡ k + 0 → Knows test k (x ∷ xs) (p ∷ ps) → Knows test (suc k) xs ps
others_know test k p x xs ps here know i y at t = go (know (suc i) y at t)
  where
    go : IsIn (k + suc i) (p ∷ ps) → IsIn (suc k + i) ps
    go (inl e) = absurd (omega (arith, e, here))
    go (inr j) = let e : k + suc i ≡ suc k + i = omega arith in subst (λ (n : ℕ). IsIn n ps) e j

-- what passes a test is what stands at the places
walk : {X : Type 0} (test : X → Bool) (k : ℕ) (xs : List X) (ps : List ℕ) (rs : List X) → RiseFrom k ps → From k xs ps rs → AllByRecursion (λ r. test r ≡ true) rs → Knows test k xs ps → filter test xs ≡ rs
walk test k [] [] [] r f all know = refl
walk test k [] [] (y ∷ rs) r f all know = absurd f
walk test k [] (p ∷ ps) [] r f all know = absurd f
walk test k [] (p ∷ ps) (y ∷ rs) r f all know = absurd (cc (f.0.2))
walk test k (x ∷ xs) [] [] r f all know = passed_over test k x xs [] [] tt know (walk test (suc k) xs [] [] tt tt tt (later test k x xs [] know))
walk test k (x ∷ xs) [] (y ∷ rs) r f all know = absurd f
walk test k (x ∷ xs) (p ∷ ps) [] r f all know = absurd f
walk test k (x ∷ xs) (p ∷ ps) (y ∷ rs) r ((zero, e, at), f) all know =
    let here : p ≡ k = omega (arith, e) in
    let above : RiseFrom (suc k) ps = subst (λ (n : ℕ). RiseFrom (suc n) ps) here r.1 in
    let same : x ≡ y = cc in
    taken test x y xs rs all.0 same (walk test (suc k) xs ps rs above (shift k x xs ps rs above f) all.1 (others_know test k p x xs ps e know))
walk test k (x ∷ xs) (p ∷ ps) (y ∷ rs) r ((suc i, e, at), f) all know =
    let above : RiseFrom (suc k) (p ∷ ps) = (omega (arith, e), r.1) in
    passed_over test k x xs (p ∷ ps) (y ∷ rs) above know (walk test (suc k) xs (p ∷ ps) (y ∷ rs) above (shift k x xs (p ∷ ps) (y ∷ rs) above ((suc i, e, at), f)) all (later test k x xs (p ∷ ps) know))

pub get_drop : {X : Type 0} (low : ℕ) (xs : List X) (i : ℕ) → slice_get (drop low xs) i ≡ slice_get xs (low + i)
get_drop zero xs i = let e : 0 + i ≡ i = omega arith in ap (slice_get xs) (sym e)
get_drop (suc low) [] i = refl
get_drop (suc low) (x ∷ xs) i = let e : suc low + i ≡ suc (low + i) = omega arith in get_drop low xs i ∙ ap (slice_get (x ∷ xs)) (sym e)

from_drop : {X : Type 0} (low k : ℕ) (whole : List X) (ps : List ℕ) (rs : List X) → low ≤ k → RiseFrom k ps → StandAt whole ps rs → From low (drop low whole) ps rs
from_drop low k whole [] [] le r s = tt
from_drop low k whole [] (y ∷ rs) le r s = absurd s
from_drop low k whole (p ∷ ps) [] le r s = absurd s
from_drop low k whole (p ∷ ps) (y ∷ rs) le r s =
    let e : p ≡ low + (p - low) = omega (arith, le, r.0) in
    ((p - low, e, get_drop low whole (p - low) ∙ ap (slice_get whole) (sym e) ∙ s.0), from_drop low (suc p) whole ps rs (omega (arith, le, r.0)) r.1 s.1)

-- whether a row has a link's number
abbrev has_link : ℕ → Row → Bool
has_link link row = row.link == link

links : (link : ℕ) (rows : List Row) → AllByRecursion (λ row. row.link ≡ link) rows → AllByRecursion (λ item. is_row_with (has_link link) item ≡ true) (items_of rows)
links link [] all = tt
links link (row ∷ rows) all = (eq-eqb row.link link all.0, links link rows all.1)

-- an item that is a row of a link's number
row_there : (link : ℕ) (item : Item) → is_row_with (has_link link) item ≡ true → (row : Row) → item ≡ row_item row → row.link ≡ link
row_there link (items.Row other) is row same = let r : other ≡ row = cc in eqb-true row.link link (subst (λ (x : Row). has_link link x ≡ true) r is)
row_there link (items.Mdb database) is row same = absurd (true≢false (sym is))

-- the rows among items that pass a test are those that pass it among the rows
rows_that_pass : (test : Row → Bool) (history : List Item) → rows_in (filter (is_row_with test) history) ≡ filter test (rows_in history)
rows_that_pass test [] = refl
rows_that_pass test (items.Mdb database ∷ history) = rows_that_pass test history
rows_that_pass test (items.Row row ∷ history) = go (test row) (rows_that_pass test history)
  where
    go : (b : Bool) → rows_in (filter (is_row_with test) history) ≡ filter test (rows_in history) →
        rows_in (cond b (row_item row ∷ filter (is_row_with test) history) (filter (is_row_with test) history)) ≡ cond b (row ∷ filter test (rows_in history)) (filter test (rows_in history))
    go true others = ap (λ (l : List Row). row ∷ l) others
    go false others = others

module _ (low : ℕ) (history : List Item) (works : List LinkWork) (each : AllByRecursion (HasPut low history) works) (placed : ArePlaced low history works) where
  ours : (place : ℕ) (item : Item) → low ≤ place → slice_get history place ≡ Some item →
      (work : LinkWork) × Contains works work × Contains work.places place × ((row : Row) × (item ≡ row_item row) × (row.link ≡ work.link))
  ours place item le at =
      let w = placed place le (below_length history place item at) in
      let put = all_in (HasPut low history) works w.0 each (in_from w.0 works w.1) in
      let inside = stands_in history w.0.places (items_of w.0.rows) place item put.stand (in_from place w.0.places w.2) at in
      let row = row_in_items w.0.rows item inside in
      (w.0, w.1, w.2, (row.0, row.1, all_in (λ (r : Row). r.link ≡ w.0.link) w.0.rows row.0 put.of_link row.2))

  of_work : LinksDiffer works → (work : LinkWork) → Contains works work → filter (is_row_with (has_link work.link)) (drop low history) ≡ items_of work.rows
  of_work differ work inside =
      let put = all_in (HasPut low history) works work each (in_from work works inside) in
      walk (is_row_with (has_link work.link)) low (drop low history) work.places (items_of work.rows) put.rising (from_drop low low history work.places (items_of work.rows) (omega arith) put.rising put.stand) (links work.link work.rows put.of_link) know
    where
      know : Knows (is_row_with (has_link work.link)) low (drop low history) work.places
      know i item at passes =
          let there : slice_get history (low + i) ≡ Some item = sym (get_drop low history i) ∙ at in
          let found = ours (low + i) item (omega arith) there in
          let link : found.3.0.link ≡ work.link = row_there work.link item passes found.3.0 found.3.1 in
          let same : found.0 ≡ work = differ found.0 work found.1 inside (sym found.3.2 ∙ link) in
          in_from (low + i) work.places (subst (λ (w : LinkWork). Contains w.places (low + i)) same found.2)

pub each_row_is_of_a_link : EachRowIsOfALink
each_row_is_of_a_link low history works each placed place item le at = let o = ours low history works each placed place item le at in (o.0, o.1, o.3)

pub rows_of_a_link : RowsOfALink
rows_of_a_link low history works each placed differ work inside =
    sym (rows_that_pass (has_link work.link) (drop low history)) ∙ (ap rows_in (of_work low history works each placed differ work inside) ∙ rows_of_rows work.rows)
