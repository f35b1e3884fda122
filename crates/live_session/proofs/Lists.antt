-- Lists that grow at their ends, and their members.
use Rattle.std.proofs.Common.{◌≡◌, ℕ, zero, suc, ◌<◌, ◌≤◌, List, [], ◌∷◌, ◌++◌, length, map, filter, Bool, true, false, cond, Contains, Some, Result, Ok, Err, IfOk, IfErr, refl, sym, ap, ◌∙◌, subst, arith, append_assoc, append-nil, length-append}
use Rattle.std.specs.Prelude.{slice_get}
use Rattle.std.specs.List.{AllByRecursion}
use mathlib.Core.List.{IsPrefix}

pub map_push : {A B : Type 0} (f : A → B) (xs : List A) (x : A) → map f (xs ++ x ∷ []) ≡ map f xs ++ f x ∷ []
map_push f [] x = refl
map_push {B = B} f (y ∷ xs) x = ap (λ (l : List B). f y ∷ l) (map_push f xs x)

-- of a list to which one was pushed
pub pushed_map : {A B : Type 0} (f : A → B) (xs xs' : List A) (x : A) (y : B) → xs' ≡ xs ++ x ∷ [] → f x ≡ y → map f xs' ≡ map f xs ++ y ∷ []
pushed_map {B = B} f xs xs' x y is same = ap (map f) is ∙ (map_push f xs x ∙ ap (λ (z : B). map f xs ++ z ∷ []) same)

pub pushed_length : {A : Type 0} (xs xs' : List A) (x : A) → xs' ≡ xs ++ x ∷ [] → suc (length xs) ≡ length xs'
pushed_length xs xs' x is = let l = length-append xs (x ∷ []) in let n = ap length is in omega (arith, l, n)

-- what was made of those so far, and those that are left
pub left_more : {A B : Type 0} (f : A → B) (xs xs' : List A) (x : A) (y : B) (rest rest' all : List B) → xs' ≡ xs ++ x ∷ [] → f x ≡ y → rest ≡ y ∷ rest' → map f xs ++ rest ≡ all → map f xs' ++ rest' ≡ all
left_more {B = B} f xs xs' x y rest rest' all is same step before =
    ap (λ (l : List B). l ++ rest') (pushed_map f xs xs' x y is same)
    ∙ (append_assoc (map f xs) (y ∷ []) rest'
    ∙ (ap (λ (l : List B). map f xs ++ l) (sym step) ∙ before))

pub all_map : {A B : Type 0} (P : B → Type 0) (f : A → B) (xs : List A) → AllByRecursion P (map f xs) → AllByRecursion (λ x. P (f x)) xs
all_map P f [] all = tt
all_map P f (x ∷ xs) all = (all.0, all_map P f xs all.1)

pub all_of : {A : Type 0} (P : A → Type 0) (xs : List A) → ((x : A) → Contains xs x → P x) → AllByRecursion P xs
all_of P [] each = tt
all_of P (x ∷ xs) each = (each x (0, omega arith, refl), all_of P xs (λ y c. each y (suc c.0, (let low = c.1 in omega (arith, low)), c.2)))

pub one_of : {A : Type 0} (P : A → Type 0) (xs : List A) (x : A) → AllByRecursion P xs → Contains xs x → P x
one_of P [] x all (k, low, e) = absurd (omega (arith, low))
one_of P (y ∷ xs) x all (zero, low, e) = subst P e all.0
one_of P (y ∷ xs) x all (suc k, low, e) = one_of P xs x all.1 (k, omega (arith, low), e)

pub later_contains : {A : Type 0} (y : A) (xs : List A) (x : A) → Contains xs x → Contains (y ∷ xs) x
later_contains y xs x (k, low, e) = (suc k, omega (arith, low), e)

-- one of what a function gives is given of one
pub contains_map : {A B : Type 0} (f : A → B) (xs : List A) (y : B) → Contains (map f xs) y → (x : A) × Contains xs x × (f x ≡ y)
contains_map f [] y (k, low, e) = absurd (omega (arith, low))
contains_map f (x ∷ xs) y (zero, low, e) = (x, (0, omega arith, refl), e)
contains_map f (x ∷ xs) y (suc k, low, e) = let c = contains_map f xs y (k, omega (arith, low), e) in (c.0, later_contains x xs c.0 c.1, c.2)

pub mapped_contains : {A B : Type 0} (f : A → B) (xs : List A) (x : A) → Contains xs x → Contains (map f xs) (f x)
mapped_contains f [] x (k, low, e) = absurd (omega (arith, low))
mapped_contains f (y ∷ xs) x (zero, low, e) = (0, omega arith, ap f e)
mapped_contains f (y ∷ xs) x (suc k, low, e) = later_contains (f y) (map f xs) (f x) (mapped_contains f xs x (k, omega (arith, low), e))

-- a beginning that is as long is the whole
pub whole_prefix : {A : Type 0} (xs ys : List A) → IsPrefix xs ys → length ys ≡ length xs → ys ≡ xs
whole_prefix {A = A} xs ys (more, is) same = go more is
  where
    go : (more : List A) → xs ++ more ≡ ys → ys ≡ xs
    go [] is = sym is ∙ append-nil xs
    go (x ∷ more) is = let l = length-append xs (x ∷ more) in let n = ap length is in absurd (omega (arith, l, n, same))

-- of an empty list
pub none_left : {A B : Type 0} (f : A → B) (xs : List A) (rest all : List B) → xs ≡ [] → rest ≡ all → map f xs ++ rest ≡ all
none_left {A = A} f xs rest all none is = subst (λ (l : List A). map f l ++ rest ≡ all) (sym none) is

pub all_none : {A : Type 0} (P : A → Type 0) (xs : List A) → xs ≡ [] → AllByRecursion P xs
all_none P xs none = subst (AllByRecursion P) (sym none) tt

-- none is left
pub all_made : {A B : Type 0} (f : A → B) (xs : List A) (rest all : List B) → rest ≡ [] → map f xs ++ rest ≡ all → map f xs ≡ all
all_made {B = B} f xs rest all none left = sym (append-nil (map f xs)) ∙ (ap (λ (l : List B). map f xs ++ l) (sym none) ∙ left)

pub no_items : {A : Type 0} (xs : List A) → length xs ≡ 0 → xs ≡ []
no_items [] none = refl
no_items (x ∷ xs) none = absurd (omega (arith, none))

-- what was taken off of each of those so far, behind what was there, and of those that are left
pub taken_none : {A B : Type 0} (f : A → B) (old : List B) (rest all : List A) → rest ≡ all → old ++ map f rest ≡ old ++ map f all
taken_none {A = A} f old rest all is = ap (λ (l : List A). old ++ map f l) is

pub taken_more : {A B : Type 0} (f : A → B) (now now' : List B) (x : A) (y : B) (rest rest' : List A) (whole : List B) → now' ≡ now ++ y ∷ [] → f x ≡ y → rest ≡ x ∷ rest' → now ++ map f rest ≡ whole → now' ++ map f rest' ≡ whole
taken_more {A = A} {B = B} f now now' x y rest rest' whole is same step before =
    ap (λ (l : List B). l ++ map f rest') is
    ∙ (append_assoc now (y ∷ []) (map f rest')
    ∙ (ap (λ (z : B). now ++ z ∷ map f rest') (sym same)
    ∙ (ap (λ (l : List A). now ++ map f l) (sym step) ∙ before)))

pub taken_all : {A B : Type 0} (f : A → B) (now : List B) (rest : List A) (whole : List B) → rest ≡ [] → now ++ map f rest ≡ whole → now ≡ whole
taken_all {A = A} f now rest whole none before = sym (append-nil now) ∙ (ap (λ (l : List A). now ++ map f l) (sym none) ∙ before)

-- what follows of either answer
pub either_way : {X E : Type 0} (result : Result X E) (P : X → Type 0) (Q : E → Type 0) (A : Type 0) → ((x : X) → P x → A) → ((e : E) → Q e → A) → IfOk result P → IfErr result Q → A
either_way (Ok x) P Q A f g p q = f x p
either_way (Err e) P Q A f g p q = g e q

-- ---- places

-- an item that stands in a list stands in each that goes on from it
pub stands_on : {X : Type 0} (xs ys : List X) (place : ℕ) (x : X) → IsPrefix xs ys → slice_get xs place ≡ Some x → slice_get ys place ≡ Some x
stands_on {X = X} xs ys place x (more, is) at = subst (λ (l : List X). slice_get l place ≡ Some x) is (longer xs place at)
  where
    longer : (xs : List X) (place : ℕ) → slice_get xs place ≡ Some x → slice_get (xs ++ more) place ≡ Some x
    longer [] place at = absurd cc
    longer (y ∷ xs) zero at = at
    longer (y ∷ xs) (suc place) at = longer xs place at

pub below : {X : Type 0} (xs : List X) (place : ℕ) (x : X) → slice_get xs place ≡ Some x → place < length xs
below [] place x at = absurd cc
below (y ∷ xs) zero x at = omega arith
below (y ∷ xs) (suc place) x at = let deep = below xs place x at in omega (arith, deep)

-- what stands in a list at a place where nothing of its beginning is stands behind that
pub at_prefix : {X : Type 0} (xs ys : List X) (place : ℕ) (x : X) → IsPrefix xs ys → slice_get ys place ≡ Some x → (slice_get xs place ≡ Some x → ⊥) → length xs ≤ place
at_prefix {X = X} xs ys place x (more, is) at not = go xs place (subst (λ (l : List X). slice_get l place ≡ Some x) (sym is) at) not
  where
    go : (xs : List X) (place : ℕ) → slice_get (xs ++ more) place ≡ Some x → (slice_get xs place ≡ Some x → ⊥) → length xs ≤ place
    go [] place at not = omega arith
    go (y ∷ xs) zero at not = absurd (not at)
    go (y ∷ xs) (suc place) at not = let deep = go xs place at not in omega (arith, deep)

pub same_at : {X : Type 0} (xs : List X) (place : ℕ) (a b : X) → slice_get xs place ≡ Some a → slice_get xs place ≡ Some b → b ≡ a
same_at xs place a b here there = cc (here, there)

-- one of a list stands at its place
pub contains_at : {X : Type 0} (xs : List X) (x : X) → Contains xs x → (place : ℕ) × (slice_get xs place ≡ Some x)
contains_at [] x (k, low, e) = absurd (omega (arith, low))
contains_at (y ∷ xs) x (zero, low, e) = (0, ap Some e)
contains_at (y ∷ xs) x (suc k, low, e) = let at = contains_at xs x (k, omega (arith, low), e) in (suc at.0, at.1)

pub all_at : {X : Type 0} (P : X → Type 0) (xs : List X) (place : ℕ) (x : X) → AllByRecursion P xs → slice_get xs place ≡ Some x → P x
all_at P [] place x all at = absurd cc
all_at P (y ∷ xs) zero x all at = let same : y ≡ x = cc at in subst P same all.0
all_at P (y ∷ xs) (suc place) x all at = all_at P xs place x all.1 at

-- ---- parts

pub all_append : {X : Type 0} (P : X → Type 0) (xs ys : List X) → AllByRecursion P xs → AllByRecursion P ys → AllByRecursion P (xs ++ ys)
all_append P [] ys a b = b
all_append P (x ∷ xs) ys a b = (a.0, all_append P xs ys a.1 b)

-- all pass
pub filter_all : {X : Type 0} (p : X → Bool) (xs : List X) → AllByRecursion (λ x. p x ≡ true) xs → filter p xs ≡ xs
filter_all p [] all = refl
filter_all {X = X} p (x ∷ xs) all = go (p x) all.0 (filter_all p xs all.1)
  where
    go : (b : Bool) → b ≡ true → filter p xs ≡ xs → cond b (x ∷ filter p xs) (filter p xs) ≡ x ∷ xs
    go true e rest = ap (λ (l : List X). x ∷ l) rest
    go false e rest = absurd (cc e)
