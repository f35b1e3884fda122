-- The children of containers that each stand below their parents.
use Rattle.std.proofs.Common.{◌≡◌, ◌∙◌, ◌+◌, ◌<◌, ℕ, zero, suc, List, [], ◌∷◌, ◌++◌, length, set, take, Option, Some, None, Bool, true, false, inl, inr, refl, ap, sym, arith, subst}
use Rattle.std.specs.Prelude.{slice_get, ◌==◌, if◌then◌else◌}
use Rattle.std.proofs.lemmas.Bool.{cases_Bool, cases_lt, eqb-true, eqb-false}
use Rattle.std.proofs.lemmas.List.{append-nil, get_or-set_same, length-set, length-take-le, take_all}
use Rattle.std.proofs.lemmas.Option.{slice_get-get_or, slice_get_within}
use Rattle.mdb_items.specs.declared.container.Container.{Container}
use Rattle.mdb_lookups.specs.Children.{AreChildren, children_from, children_of, if_parent, is_parent_of}
use Rattle.mdb_items.specs.Paths.{AreEarlier, parent_of}
use Rattle.mdb_items.proofs.Ends.{length-push, slice_get-end, slice_get-left, take-next}

-- ---- one more child

set_same : {X : Type 0} (xs : List X) (p : ℕ) (x : X) → p < length xs → slice_get (set xs p x) p ≡ Some x
set_same xs p x lt = slice_get-get_or (set xs p x) p x (omega (arith, length-set xs p x)) ∙ ap (λ (y : _). Some y) (get_or-set_same xs p x x lt)

set_other : {X : Type 0} (xs : List X) (p n : ℕ) (x : X) → (p ≡ n → ⊥) → slice_get (set xs p x) n ≡ slice_get xs n
set_other [] p n x ne = refl
set_other (y ∷ xs) zero zero x ne = absurd (ne refl)
set_other (y ∷ xs) zero (suc n) x ne = refl
set_other (y ∷ xs) (suc p) zero x ne = refl
set_other (y ∷ xs) (suc p) (suc n) x ne = set_other xs p n x (λ e. ne (ap suc e))

-- a list written with one more number at its end
pub written : (lists : List (List ℕ)) (p k n : ℕ) (old new xs : List ℕ) → slice_get lists p ≡ Some old → new ≡ old ++ k ∷ [] → slice_get lists n ≡ Some xs → slice_get (set lists p new) n ≡ Some (xs ++ if_parent n (Some p) k)
written lists p k n old new xs there grown here = elim (cases_Bool (p == n)) [
  | inl is ↦
      let at : p ≡ n = eqb-true p n is in
      let own : if_parent n (Some p) k ≡ k ∷ [] = rw is refl in
      let same : Path (Option (List ℕ)) (Some xs) (Some old) = sym here ∙ ap (slice_get lists) (sym at) ∙ there in
      let lists_same : xs ≡ old = cc in
      ap (slice_get (set lists p new)) (sym at) ∙ set_same lists p new (slice_get_within lists p old there)
      ∙ ap (λ (ys : List ℕ). Some ys) (grown ∙ ap (λ (ys : List ℕ). ys ++ k ∷ []) (sym lists_same) ∙ ap (λ (ys : List ℕ). xs ++ ys) (sym own))
  | inr isnt ↦
      let own : if_parent n (Some p) k ≡ [] = rw isnt refl in
      set_other lists p n new (eqb-false p n isnt) ∙ here ∙ ap (λ (ys : List ℕ). Some ys) (sym (append-nil xs) ∙ ap (λ (ys : List ℕ). xs ++ ys) (sym own))
]

pub unwritten : (lists : List (List ℕ)) (k n : ℕ) (xs : List ℕ) → slice_get lists n ≡ Some xs → slice_get lists n ≡ Some (xs ++ if_parent n None k)
unwritten lists k n xs here = here ∙ ap (λ (ys : List ℕ). Some ys) (sym (append-nil xs))

-- ---- one more container

if_one : (b : Bool) (k : ℕ) (xs ys : List ℕ) → (if b then k ∷ (xs ++ ys) else (xs ++ ys)) ≡ (if b then k ∷ xs else xs) ++ ys
if_one true k xs ys = refl
if_one false k xs ys = refl

children_from-push : (n k : ℕ) (cs : List Container) (c : Container) → children_from n k (cs ++ c ∷ []) ≡ children_from n k cs ++ if_parent n c.parent (k + length cs)
children_from-push n k [] c = let at : k + 0 ≡ k = omega arith in ap (if_parent n c.parent) (sym at)
children_from-push n k (d ∷ cs) c =
    let at : suc k + length cs ≡ k + suc (length cs) = omega arith in
    let rest = children_from-push n (suc k) cs c ∙ ap (λ (j : ℕ). children_from n (suc k) cs ++ if_parent n c.parent j) at in
    ap (λ (xs : List ℕ). if is_parent_of n d.parent then k ∷ xs else xs) rest ∙ if_one (is_parent_of n d.parent) k (children_from n (suc k) cs) (if_parent n c.parent (k + suc (length cs)))

pub children_of-push : (cs : List Container) (c : Container) (n : ℕ) → children_of (cs ++ c ∷ []) n ≡ children_of cs n ++ if_parent n c.parent (length cs)
children_of-push cs c n = let at : 0 + length cs ≡ length cs = omega arith in children_from-push n 0 cs c ∙ ap (λ (j : ℕ). children_of cs n ++ if_parent n c.parent j) at

not_parent : (n : ℕ) (o : Option ℕ) → ((p : ℕ) → o ≡ Some p → p < n) → is_parent_of n o ≡ false
not_parent n None below = refl
not_parent n (Some p) below = elim (cases_Bool (p == n)) [
  | inl is ↦ let same = eqb-true p n is in let less = below p refl in absurd (omega arith)
  | inr isnt ↦ isnt
]

-- containers whose parents stand before a number are no children of the one with the number
childless : (n k : ℕ) (cs : List Container) → ((j p : ℕ) → parent_of (slice_get cs j) ≡ Some p → p < n) → children_from n k cs ≡ []
childless n k [] below = refl
childless n k (c ∷ cs) below = rw (not_parent n c.parent (λ p e. below 0 p e), childless n (suc k) cs (λ j p e. below (suc j) p e)) refl

slice_get-take : {X : Type 0} (xs : List X) (i j : ℕ) (x : X) → slice_get (take i xs) j ≡ Some x → (slice_get xs j ≡ Some x) × (j < i)
slice_get-take xs zero j x is = cc
slice_get-take [] (suc i) j x is = cc
slice_get-take (y ∷ xs) (suc i) zero x is = (is, omega arith)
slice_get-take (y ∷ xs) (suc i) (suc j) x is = let r = slice_get-take xs i j x is in (r.0, omega (arith, r.1))

taken_at : (cs : List Container) (i : ℕ) (o : Option Container) (j p : ℕ) → AreEarlier cs → slice_get (take i cs) j ≡ o → parent_of o ≡ Some p → p < i
taken_at cs i None j p earlier is e = cc
taken_at cs i (Some c) j p earlier is e =
    let r = slice_get-take cs i j c is in
    let less = earlier j p (slice_get_within cs j c r.0) (ap parent_of r.0 ∙ e) in
    let before = r.1 in
    omega arith

-- the parent of a container has a list already
pub has_list : (cs : List Container) (i : ℕ) (c : Container) (old more : List (List ℕ)) (p : ℕ) → AreEarlier cs → slice_get cs i ≡ Some c → AreChildren (take i cs) old → more ≡ old ++ [] ∷ [] → c.parent ≡ Some p → p < length more
has_list cs i c old more p earlier is a grown e =
    let within = slice_get_within cs i c is in
    let less = earlier i p within (ap parent_of is ∙ e) in
    let len : length (take i cs) ≡ i = length-take-le i cs (omega arith) in
    let longer = ap length grown ∙ length-push old [] in
    omega (arith, a.count)

list_there : (cs : List Container) (i n : ℕ) (old more : List (List ℕ)) → AreEarlier cs → length (take i cs) ≡ i → AreChildren (take i cs) old → more ≡ old ++ [] ∷ [] → n < suc i → slice_get more n ≡ Some (children_of (take i cs) n)
list_there cs i n old more earlier len a grown lt = elim (cases_lt n i) [
  | inl less ↦ ap (λ (xs : List (List ℕ)). slice_get xs n) grown ∙ slice_get-left old ([] ∷ []) n (omega (arith, a.count)) ∙ a.each n (omega arith)
  | inr not_less ↦
      let same : n ≡ i = omega arith in
      let last : n ≡ length old = omega (arith, a.count) in
      let none : children_of (take i cs) n ≡ [] = childless n 0 (take i cs) (λ j p e. let less = taken_at cs i (slice_get (take i cs) j) j p earlier refl e in omega arith) in
      ap (λ (xs : List (List ℕ)). slice_get xs n) grown ∙ ap (slice_get (old ++ [] ∷ [])) last ∙ slice_get-end old [] [] ∙ ap (λ (xs : List ℕ). Some xs) (sym none)
]

-- the lists with one more container
pub one_more : (cs : List Container) (i : ℕ) (c : Container) (old more new : List (List ℕ)) → AreEarlier cs → slice_get cs i ≡ Some c → AreChildren (take i cs) old → more ≡ old ++ [] ∷ [] → length new ≡ length more
    → ((n : ℕ) (xs : List ℕ) → slice_get more n ≡ Some xs → slice_get new n ≡ Some (xs ++ if_parent n c.parent i)) → AreChildren (take (i + 1) cs) new
one_more cs i c old more new earlier is a grown same each =
    let front = take i cs in
    let within = slice_get_within cs i c is in
    let len : length front ≡ i = length-take-le i cs (omega arith) in
    let whole = length-push front c in
    subst (λ (xs : List Container). AreChildren xs new) (sym (take-next cs i c is)) (record {
      count = let longer = ap length grown ∙ length-push old [] in omega (arith, a.count);
      each = λ n lt.
          each n (children_of front n) (list_there cs i n old more earlier len a grown (omega arith))
          ∙ ap (λ (xs : List ℕ). Some xs) (ap (λ (j : ℕ). children_of front n ++ if_parent n c.parent j) (sym len) ∙ sym (children_of-push front c n));
    })

-- before the first container there is no list
pub none_yet : (cs : List Container) → AreChildren (take 0 cs) []
none_yet cs = record { count = refl; each = λ n lt. absurd (omega arith) }

-- after the last each has its list
pub all_there : (cs : List Container) (n : ℕ) (lists : List (List ℕ)) → n ≡ length cs → AreChildren (take n cs) lists → AreChildren cs lists
all_there cs n lists is a = subst (λ (xs : List Container). AreChildren xs lists) (take_all n cs (omega arith)) a

-- the list of a container
pub list_of : (cs : List Container) (lists : List (List ℕ)) (n : ℕ) (xs : List ℕ) → AreChildren cs lists → n < length cs → slice_get lists n ≡ Some xs → xs ≡ children_of cs n
list_of cs lists n xs a lt is = let found : Path (Option (List ℕ)) (Some xs) (Some (children_of cs n)) = sym is ∙ a.each n lt in cc
