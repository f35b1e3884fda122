-- What a step of one pass does to what is kept of a list.
use Rattle.std.proofs.Common.{◌≡◌, ◌≢◌, ℕ, zero, suc, ◌+◌, ◌-◌, ◌<◌, ◌≤◌, ⊎_elim, List, [], ◌∷◌, ◌++◌, length, set, cond, Bool, true, false, Contains, refl, sym, ap, ◌∙◌, subst, arith, lt_of_not-le}
use Rattle.std.proofs.lemmas.Bool.{ltb-true, lt-ltb}
use Rattle.std.proofs.lemmas.List.Elements.{Contains-append_left, Contains-append_right}
use Rattle.std.proofs.lemmas.List.FromFn.{length-range_with_len, get_or-range_with_len}
use mathlib.Core.Logic.{dite}
use mathlib.Core.Option.{some, some-injective, some-ne-none}
use mathlib.Core.List.{IsPrefix}
use native.Mathlib.Decide.{ℕ_discrete, dec_le}
use lib.Dec.{ltb}
use lib.ListN.{get_elem?}
use Rattle.atomic_table.proofs.Lists.{at_set, set_else, at_snoc, at_longer}
use Rattle.turn_cell.specs.declared.view.ListView.{ListView}
use Rattle.turn_cell.specs.Lists.{total, longer, shorter, Begins, IsUnused, first_list, both_lists, left_list, added_by, IsPlaced, ListKept}
use Rattle.turn_cell.proofs.Fronts.{prefix_self, prefix_trans, prefix_length}

module _ {A : Type 0} where
  pub total-append : (f : A → ℕ) (l m : List A) → total f (l ++ m) ≡ total f l + total f m
  total-append f [] m = omega arith
  total-append f (x ∷ xs) m = let h = total-append f xs m in let g : f x + total f (xs ++ m) ≡ f x + total f xs + total f m = omega (arith, h) in g

  -- where one has all, the others have none
  pub total_alone : (f : A → ℕ) (l : List A) (i : ℕ) (a : A) → get_elem? l i ≡ some a → total f l ≡ f a → (j : ℕ) (b : A) → j ≢ i → get_elem? l j ≡ some b → f b ≡ 0
  total_alone f [] i a at is j b ne e = absurd (some-ne-none a (sym at))
  total_alone f (x ∷ xs) zero a at is zero b ne e = absurd (ne refl)
  total_alone f (x ∷ xs) zero a at is (suc j) b ne e = let h : f x ≡ f a = ap f (some-injective x a at) in let g : f x + total f xs ≡ f a = is in total_none f xs (omega (arith, h, g)) j b e
    where
      total_none : (f : A → ℕ) (l : List A) → total f l ≡ 0 → (j : ℕ) (b : A) → get_elem? l j ≡ some b → f b ≡ 0
      total_none f [] is j b e = absurd (some-ne-none b (sym e))
      total_none f (x ∷ xs) is zero b e = let h : f x ≡ f b = ap f (some-injective x b e) in let g : f x + total f xs ≡ 0 = is in omega (arith, h, g)
      total_none f (x ∷ xs) is (suc j) b e = let g : f x + total f xs ≡ 0 = is in total_none f xs (omega (arith, g)) j b e
  total_alone f (x ∷ xs) (suc i) a at is zero b ne e = let h : f x ≡ f b = ap f (some-injective x b e) in let low = total_one f xs i a at in let g : f x + total f xs ≡ f a = is in omega (arith, h, low, g)
    where
      total_one : (f : A → ℕ) (l : List A) (i : ℕ) (a : A) → get_elem? l i ≡ some a → f a ≤ total f l
      total_one f [] i a at = absurd (some-ne-none a (sym at))
      total_one f (x ∷ xs) zero a at = let h : f x ≡ f a = ap f (some-injective x a at) in let g : f a ≤ f x + total f xs = omega (arith, h) in g
      total_one f (x ∷ xs) (suc i) a at = let h = total_one f xs i a at in let g : f a ≤ f x + total f xs = omega (arith, h) in g
  total_alone f (x ∷ xs) (suc i) a at is (suc j) b ne e = let low = total_le f xs i a at in let g : f x + total f xs ≡ f a = is in total_alone f xs i a at (omega (arith, low, g)) j b (λ h. ne (ap suc h)) e
    where
      total_le : (f : A → ℕ) (l : List A) (i : ℕ) (a : A) → get_elem? l i ≡ some a → f a ≤ total f l
      total_le f [] i a at = absurd (some-ne-none a (sym at))
      total_le f (x ∷ xs) zero a at = let h : f x ≡ f a = ap f (some-injective x a at) in let g : f a ≤ f x + total f xs = omega (arith, h) in g
      total_le f (x ∷ xs) (suc i) a at = let h = total_le f xs i a at in let g : f a ≤ f x + total f xs = omega (arith, h) in g

  -- the total is one's own where the others have none
  pub total_own : (f : A → ℕ) (l : List A) (i : ℕ) (a : A) → get_elem? l i ≡ some a → ((j : ℕ) (b : A) → j ≢ i → get_elem? l j ≡ some b → f b ≡ 0) → total f l ≡ f a
  total_own f [] i a at others = absurd (some-ne-none a (sym at))
  total_own f (x ∷ xs) zero a at others = let h : f x ≡ f a = ap f (some-injective x a at) in let z = total_zero f xs (λ j b e. others (suc j) b (λ q. absurd (cc q)) e) in let g : f x + total f xs ≡ f a = omega (arith, h, z) in g
    where
      total_zero : (f : A → ℕ) (l : List A) → ((j : ℕ) (b : A) → get_elem? l j ≡ some b → f b ≡ 0) → total f l ≡ 0
      total_zero f [] h = refl
      total_zero f (x ∷ xs) h = let a = h 0 x refl in let b = total_zero f xs (λ j b e. h (suc j) b e) in let g : f x + total f xs ≡ 0 = omega (arith, a, b) in g
  total_own f (x ∷ xs) (suc i) a at others = let z = others 0 x (λ q. absurd (cc q)) refl in let h = total_own f xs i a at (λ j b ne e. others (suc j) b (λ q. ne (omega (arith, q))) e) in let g : f x + total f xs ≡ f a = omega (arith, z, h) in g

  pub sum_set : (f : A → ℕ) (l : List A) (i : ℕ) (a b : A) → get_elem? l i ≡ some a → total f (set l i b) + f a ≡ total f l + f b
  sum_set f [] i a b e = absurd (some-ne-none a (sym e))
  sum_set f (x ∷ xs) zero a b e = let h : f x ≡ f a = ap f (some-injective x a e) in let g : f b + total f xs + f a ≡ f x + total f xs + f b = omega (arith, h) in g
  sum_set f (x ∷ xs) (suc i) a b e = let h = sum_set f xs i a b e in let g : f x + total f (set xs i b) + f a ≡ f x + total f xs + f b = omega (arith, h) in g

  pub at_here : (l : List A) (i : ℕ) (a b : A) → get_elem? l i ≡ some a → get_elem? (set l i b) i ≡ some b
  at_here [] i a b e = absurd (some-ne-none a (sym e))
  at_here (x ∷ xs) zero a b e = refl
  at_here (x ∷ xs) (suc i) a b e = at_here xs i a b e

  pub at_only : (a b : A) (j : ℕ) → get_elem? (a ∷ []) j ≡ some b → (j ≡ 0) × (a ≡ b)
  at_only a b zero e = (refl, some-injective a b e)
  at_only a b (suc j) e = absurd (some-ne-none b (sym e))

  -- a fact of each, after a step of one
  pub each_set : (K : A → Type 0) (vs : List A) (me : ℕ) (w : A) → K w → ((j : ℕ) (u : A) → j ≢ me → get_elem? vs j ≡ some u → K u) → (j : ℕ) (u : A) → get_elem? (set vs me w) j ≡ some u → K u
  each_set K vs me w mine others j u e = ⊎_elim (λ (t : (j ≡ me) × (w ≡ u)). subst K t.1 mine) (λ (t : (j ≢ me) × (get_elem? vs j ≡ some u)). others j u t.0 t.1) (at_set vs me j w u e)

  -- and after one more
  pub each_more : (K : A → Type 0) (vs : List A) (g : A) → ((j : ℕ) (u : A) → get_elem? vs j ≡ some u → K u) → K g → (j : ℕ) (u : A) → get_elem? (vs ++ g ∷ []) j ≡ some u → K u
  each_more K vs g old new j u e = ⊎_elim (λ (o : get_elem? vs j ≡ some u). old j u o) (λ (same : g ≡ u). subst K same new) (at_snoc vs g u j e)

  -- what stands at one place is one
  pub at_one : (vs : List A) (i : ℕ) (a b : A) → get_elem? vs i ≡ some a → get_elem? vs i ≡ some b → a ≡ b
  at_one vs i a b x y = some-injective a b (sym x ∙ y)

module _ {V I : Type 0} (part : V → ListView I) where
  pub placed_set : (vs : List V) (me : ℕ) (v w : V) (p : ℕ) → get_elem? vs me ≡ some v → (Contains (part v).list.places p → Contains (part w).list.places p) → IsPlaced part vs p → IsPlaced part (set vs me w) p
  placed_set vs me v w p at more (j, u, there, has) = dite (ℕ_discrete j me)
      (λ (e : j ≡ me). let same : u ≡ v = some-injective u v (sym there ∙ (ap (get_elem? vs) e ∙ at)) in (me, w, at_here vs me v w at, more (subst (λ (z : V). Contains (part z).list.places p) same has)))
      (λ (n : j ≢ me). (j, u, set_else vs me j w n ∙ there, has))

  pub list_opens : (v : V) (xs : List I) → part v ≡ first_list xs → ListKept part xs (v ∷ [])
  list_opens v xs is = record {
    begins = λ j u e. subst (λ (z : V). Begins xs (part z)) (at_only v u j e).1 (subst (Begins xs) (sym is) (prefix_self xs, (xs, refl)));
    added = let a : (part v).list.added ≡ length xs = ap (λ (s : ListView I). s.list.added) is in let g : (part v).list.added + 0 ≡ length xs = omega (arith, a) in g;
    placed = λ p low. (0, v, refl, subst (λ (s : ListView I). Contains s.list.places p) (sym is) (p, subst (λ (k : ℕ). p < k) (sym (length-range_with_len 0 (length xs))) low, get_or-range_with_len 0 (length xs) p p low ∙ omega arith));
  }

  -- a step of one, by which the list only grows
  pub list_moves : (vs : List V) (me : ℕ) (v w : V) (whole whole' : List I) → ListKept part whole vs → get_elem? vs me ≡ some v → IsPrefix whole whole' → Begins whole' (part w)
      → length whole' + (part v).list.added ≡ length whole + (part w).list.added
      → ((p : ℕ) → Contains (part v).list.places p → Contains (part w).list.places p)
      → ((p : ℕ) → length whole ≤ p → p < length whole' → Contains (part w).list.places p)
      → ListKept part whole' (set vs me w)
  list_moves vs me v w whole whole' r at grows mine adds keep new = record {
    begins = each_set (λ u. Begins whole' (part u)) vs me w mine (λ j u n e. let f = r.begins j u e in (prefix_trans (part u).list.seen whole whole' f.0 grows, prefix_trans (part u).lesser whole whole' f.1 grows));
    added = let a = sum_set (added_by part) vs me v w at in let b = r.added in omega (arith, a, b, adds);
    placed = λ p low. dite (dec_le (length whole) p)
        (λ (h : length whole ≤ p). (me, w, at_here vs me v w at, new p h low))
        (λ h. placed_set vs me v w p at (keep p) (r.placed p (lt_of_not-le h)));
  }

  -- a step that adds nothing
  pub list_sees : (vs : List V) (me : ℕ) (v w : V) (whole : List I) → ListKept part whole vs → get_elem? vs me ≡ some v → Begins whole (part w)
      → (part w).list.added ≡ (part v).list.added → (part w).list.places ≡ (part v).list.places → ListKept part whole (set vs me w)
  list_sees vs me v w whole r at mine adds places =
      list_moves vs me v w whole whole r at (prefix_self whole) mine (omega (arith, adds)) (λ p h. subst (λ (ps : List ℕ). Contains ps p) (sym places) h) (λ p lo hi. absurd (omega (arith, lo, hi)))

  pub list_same : (vs : List V) (me : ℕ) (v w : V) (whole : List I) → ListKept part whole vs → get_elem? vs me ≡ some v → part w ≡ part v → ListKept part whole (set vs me w)
  list_same vs me v w whole r at is = list_sees vs me v w whole r at (subst (Begins whole) (sym is) (r.begins me v at)) (ap (λ (s : ListView I). s.list.added) is) (ap (λ (s : ListView I). s.list.places) is)

  -- the list grows by what the one in turn adds
  pub list_grows : (vs : List V) (me : ℕ) (v w : V) (whole xs : List I) → ListKept part whole vs → get_elem? vs me ≡ some v → (part v).list.seen ≡ whole → IsPrefix (part v).list.seen xs → part w ≡ left_list (part v) xs → ListKept part xs (set vs me w)
  list_grows vs me v w whole xs r at all grows is =
      let f = r.begins me v at in
      let long : length (part v).list.seen ≤ length xs = prefix_length (part v).list.seen xs grows in
      let size : length (part v).list.seen ≡ length whole = ap length all in
      let low : ℕ = length (part v).list.seen in
      let extra : ℕ = length xs - length (part v).list.seen in
      let g : ListView I = left_list (part v) xs in
      let more : IsPrefix whole xs = subst (λ (l : List I). IsPrefix l xs) all grows in
      let fits : Begins xs g = (prefix_self xs, prefix_trans (part v).lesser whole xs f.1 more) in
      let adds : length xs + (part v).list.added ≡ length whole + g.list.added = omega (arith, long, size) in
      let keep : (p : ℕ) → Contains (part v).list.places p → Contains g.list.places p = λ p h. Contains-append_left (part v).list.places _ p h in
      let new : (p : ℕ) → length whole ≤ p → p < length xs → Contains g.list.places p = λ p lo hi.
      Contains-append_right (part v).list.places _ p (p - low, subst (λ (k : ℕ). p - low < k) (sym (length-range_with_len low extra)) (omega (arith, lo, hi, size)), get_or-range_with_len low extra (p - low) p (omega (arith, lo, hi, size)) ∙ omega (arith, lo, size)) in
      list_moves vs me v w whole xs r at more (subst (Begins xs) (sym is) fits) (subst (λ (s : ListView I). length xs + (part v).list.added ≡ length whole + s.list.added) (sym is) adds)
      (λ p h. subst (λ (s : ListView I). Contains s.list.places p) (sym is) (keep p h)) (λ p lo hi. subst (λ (s : ListView I). Contains s.list.places p) (sym is) (new p lo hi))

  -- one more, which has added nothing
  pub list_more : (vs : List V) (g : V) (whole : List I) → ListKept part whole vs → Begins whole (part g) → (part g).list.added ≡ 0 → ListKept part whole (vs ++ g ∷ [])
  list_more vs g whole r new none = record {
    begins = each_more (λ u. Begins whole (part u)) vs g r.begins new;
    added = let a = total-append (added_by part) vs (g ∷ []) in let b = r.added in let c : total (added_by part) (g ∷ []) ≡ 0 = (let h : (part g).list.added + 0 ≡ 0 = omega (arith, none) in h) in omega (arith, a, b, c);
    placed = λ p low. let q = r.placed p low in (q.0, q.1, at_longer vs (g ∷ []) q.0 q.1 q.2, q.3);
  }

  longer_prefix : (xs ys l : List I) → IsPrefix xs l → IsPrefix ys l → IsPrefix (longer xs ys) l
  longer_prefix xs ys l p q = elim (ltb (length xs) (length ys)) as (λ b. IsPrefix (cond b ys xs) l) [ true ↦ q | false ↦ p ]

  shorter_prefix : (xs ys l : List I) → IsPrefix xs l → IsPrefix ys l → IsPrefix (shorter xs ys) l
  shorter_prefix xs ys l p q = elim (ltb (length xs) (length ys)) as (λ b. IsPrefix (cond b xs ys) l) [ true ↦ p | false ↦ q ]

  -- one takes in another, which is spent
  pub list_joins : (vs : List V) (me other : ℕ) (v w b z : V) (whole : List I) → ListKept part whole vs → get_elem? vs me ≡ some v → get_elem? vs other ≡ some w → other ≢ me
      → part b ≡ both_lists (part v) (part w) → (part z).list.added ≡ 0 → Begins whole (part z) → ListKept part whole (set (set vs me b) other z)
  list_joins vs me other v w b z whole r at there ne is none gone =
      let f = r.begins me v at in
      let g = r.begins other w there in
      let us : List V = set vs me b in
      let there' : get_elem? us other ≡ some w = set_else vs me other b ne ∙ there in
      let mine : Begins whole (both_lists (part v) (part w)) = (longer_prefix (part v).list.seen (part w).list.seen whole f.0 g.0, shorter_prefix (part v).list.seen (part w).list.seen whole f.0 g.0) in
      let there_b : get_elem? (set us other z) me ≡ some b = set_else us other me z (λ e. ne (sym e)) ∙ at_here vs me v b at in
      let sum : (part b).list.added ≡ (part v).list.added + (part w).list.added = ap (λ (s : ListView I). s.list.added) is in
      let places : (part b).list.places ≡ (part v).list.places ++ (part w).list.places = ap (λ (s : ListView I). s.list.places) is in
      record {
        begins = each_set (λ u. Begins whole (part u)) us other z gone (λ j u n e. each_set (λ u. Begins whole (part u)) vs me b (subst (Begins whole) (sym is) mine) (λ j u n e. r.begins j u e) j u e);
        added = let a = sum_set (added_by part) vs me v b at in let c = sum_set (added_by part) us other w z there' in let d = r.added in omega (arith, a, c, d, sum, none);
        placed = λ p low. let q = r.placed p low in
            dite (ℕ_discrete q.0 me)
            (λ (e : q.0 ≡ me). let same : q.1 ≡ v = some-injective q.1 v (sym q.2 ∙ (ap (get_elem? vs) e ∙ at)) in (me, b, there_b, subst (λ (ps : List ℕ). Contains ps p) (sym places) (Contains-append_left (part v).list.places (part w).list.places p (subst (λ (u : V). Contains (part u).list.places p) same q.3))))
            (λ (n : q.0 ≢ me). dite (ℕ_discrete q.0 other)
            (λ (e : q.0 ≡ other). let same : q.1 ≡ w = some-injective q.1 w (sym q.2 ∙ (ap (get_elem? vs) e ∙ there)) in (me, b, there_b, subst (λ (ps : List ℕ). Contains ps p) (sym places) (Contains-append_right (part v).list.places (part w).list.places p (subst (λ (u : V). Contains (part u).list.places p) same q.3))))
            (λ (n' : q.0 ≢ other). (q.0, q.1, set_else us other q.0 z n' ∙ (set_else vs me q.0 b n ∙ q.2), q.3)));
      }

  -- where the others have added nothing, one has added all
  pub list_closes : (vs : List V) (me : ℕ) (v : V) (whole : List I) → ListKept part whole vs → get_elem? vs me ≡ some v → ((j : ℕ) (u : V) → j ≢ me → get_elem? vs j ≡ some u → IsUnused (part u))
      → IsPrefix (part v).list.seen whole × (length whole ≡ (part v).list.added) × ((p : ℕ) → p < length whole → Contains (part v).list.places p)
  list_closes vs me v whole r at others = (
    (r.begins me v at).0,
    sym r.added ∙ total_own (added_by part) vs me v at (λ j u ne e. (others j u ne e).0),
    λ p low. let q = r.placed p low in dite (ℕ_discrete q.0 me)
        (λ (e : q.0 ≡ me). let same : q.1 ≡ v = some-injective q.1 v (sym q.2 ∙ (ap (get_elem? vs) e ∙ at)) in subst (λ (u : V). Contains (part u).list.places p) same q.3)
        (λ (n : q.0 ≢ me). let o = others q.0 q.1 n q.2 in let has : Contains [] p = subst (λ (ps : List ℕ). Contains ps p) o.1 q.3 in absurd (omega (arith, has.1))),
  )

true_false : true ≡ false → ⊥
true_false e = absurd (cc e)

ltb-false : (a b : ℕ) → ltb a b ≡ false → b ≤ a
ltb-false a b is = dite (dec_le b a) (λ h. h) (λ h. absurd (true_false (sym (lt-ltb a b (lt_of_not-le h)) ∙ is)))

-- where the shorter begins the longer, both do
pub both_begin : {I : Type 0} (xs ys : List I) → (length (shorter xs ys) ≤ length (longer xs ys) → IsPrefix (shorter xs ys) (longer xs ys)) → IsPrefix xs (longer xs ys) × IsPrefix ys (longer xs ys)
both_begin {I} xs ys = by_cases (ltb (length xs) (length ys)) refl
  where
    by_cases : (b : Bool) → ltb (length xs) (length ys) ≡ b → (length (cond b xs ys) ≤ length (cond b ys xs) → IsPrefix (cond b xs ys) (cond b ys xs)) → IsPrefix xs (cond b ys xs) × IsPrefix ys (cond b ys xs)
    by_cases true is h = (h (let l = ltb-true (length xs) (length ys) is in omega (arith, l)), prefix_self ys)
    by_cases false is h = (prefix_self xs, h (ltb-false (length xs) (length ys) is))
