-- The first child among those that ask for a number and the others.
use Rattle.std.proofs.Common.{◌≡◌, ◌∙◌, ◌≤◌, ◌<◌, ℕ, zero, suc, List, [], ◌∷◌, length, get_or, Option, Some, None, Bool, true, false, cond, inl, inr, refl, ap, sym, subst, arith}
use Rattle.std.specs.Prelude.{◌==◌, ◌&&◌, ℤ, nat_le, nat_lt, map, slice_get, if◌then◌else◌}
use Rattle.std.specs.List.{filter, find, list_all}
use Rattle.std.specs.Ordering.{int_eq}
use Rattle.std.proofs.lemmas.Bool.{cases_Bool, eqb-true, le-leb, lt-leb}
use Rattle.std.proofs.lemmas.Cmp.{int_eq_equiv}
use Rattle.std.proofs.lemmas.Option.{same_Some}
use Rattle.mdb_items.specs.declared.container.Comparison.{Comparison}
use Rattle.mdb_items.specs.declared.container.Container.{Container}
use Rattle.mdb_items.specs.declared.container.Operator.{Operator}
use Rattle.mdb_items.specs.declared.container.Operator.TheVariants.{Equal, NotEqual, Less, LessOrEqual, Greater, GreaterOrEqual}
use Rattle.mdb_items.specs.Paths.{ContainerPath, paths_of}
use Rattle.mdb_lookups.specs.declared.numbered_children.NumberedChildren.{NumberedChildren}
use Rattle.mdb_lookups.specs.Children.{children_from, children_of, is_parent_of}
use Rattle.mdb_lookups.specs.NumberedChildren.{AreByNumber, asks_one, conditions_of, is_number, is_other, number_asked, number_at}
use Rattle.mdb_lookups.specs.PlacedConditions.{placed_below, placed_condition, placed_of}
use Rattle.container_extract.specs.declared.values.RawValue.{RawValue}
use Rattle.container_extract.specs.Step.{children_asking, first_unless, holds_at, holds_by_places, is_behind, is_met_at}
use Rattle.container_extract.specs.Values.{compares, is_met}

-- ---- numbers that rise

-- from a number on, each above the one before it
abbrev Rises : ℕ → List ℕ → Type 0
Rises k [] = Unit {0}
Rises k (m ∷ ms) = (k ≤ m) × Rises (suc m) ms

lower : (j k : ℕ) (ns : List ℕ) → j ≤ k → Rises k ns → Rises j ns
lower j k [] le r = tt
lower j k (m ∷ ms) le r = let least = r.0 in (omega arith, r.1)

filter_rises : (p : ℕ → Bool) (k : ℕ) (ns : List ℕ) → Rises k ns → Rises k (filter p ns)
filter_rises p k [] r = tt
filter_rises p k (m ∷ ms) r =
    let rest = filter_rises p (suc m) ms r.1 in
    let least = r.0 in
    elim (cases_Bool (p m)) [
      | inl is ↦ subst (Rises k) (sym (ap (λ b. cond b (m ∷ filter p ms) (filter p ms)) is)) (r.0, rest)
      | inr isnt ↦ subst (Rises k) (sym (ap (λ b. cond b (m ∷ filter p ms) (filter p ms)) isnt)) (lower k (suc m) (filter p ms) (omega arith) rest)
    ]

found_from : (p : ℕ → Bool) (k : ℕ) (ns : List ℕ) (x : ℕ) → Rises k ns → find p ns ≡ Some x → k ≤ x
found_from p k [] x r e = cc
found_from p k (m ∷ ms) x r e = elim (cases_Bool (p m)) [
  | inl is ↦ subst (λ (y : ℕ). k ≤ y) (same_Some m x (ap (λ b. cond b (Some m) (find p ms)) (sym is) ∙ e)) r.0
  | inr isnt ↦
      let later = found_from p (suc m) ms x r.1 (ap (λ b. cond b (Some m) (find p ms)) (sym isnt) ∙ e) in
      let least = r.0 in
      omega arith
]

children_rise : (n k : ℕ) (cs : List Container) → Rises k (children_from n k cs)
children_rise n k [] = tt
children_rise n k (c ∷ cs) =
    let rest = children_rise n (suc k) cs in
    elim (cases_Bool (is_parent_of n c.parent)) [
      | inl is ↦ subst (Rises k) (sym (ap (λ b. if b then k ∷ children_from n (suc k) cs else children_from n (suc k) cs) is)) (omega arith, rest)
      | inr isnt ↦ subst (Rises k) (sym (ap (λ b. if b then k ∷ children_from n (suc k) cs else children_from n (suc k) cs) isnt)) (lower k (suc k) (children_from n (suc k) cs) (omega arith) rest)
    ]

-- ---- the first of two parts

at_most : (a b : ℕ) → a ≤ b → nat_le a b ≡ true
at_most a b le = le-leb a b le

above : (a b : ℕ) → b < a → nat_le a b ≡ false
above a b lt = lt-leb a b lt

all_behind : (test : ℕ → Bool) (m : ℕ) (ys : List ℕ) → Rises m ys → first_unless test (Some m) ys ≡ Some m
all_behind test m [] r = refl
all_behind test m (y ∷ ys) r = let le = at_most m y r.0 in rw le (rw le refl)

not_behind : (o : Option ℕ) (m : ℕ) → ((x : ℕ) → o ≡ Some x → suc m ≤ x) → is_behind o m ≡ false
not_behind None m later = refl
not_behind (Some x) m later = let less = later x refl in above x m (omega arith)

module _ (test chosen other : ℕ → Bool) (apart : (m : ℕ) → chosen m ≡ true → other m ≡ false) (unmet : (m : ℕ) → chosen m ≡ false → other m ≡ false → test m ≡ false) where
  -- what is found among those chosen, or earlier among the others, is what is found among all
  first_of_parts : (k : ℕ) (ns : List ℕ) → Rises k ns → first_unless test (find test (filter chosen ns)) (filter other ns) ≡ find test ns
  first_of_parts k [] r = refl
  first_of_parts k (m ∷ ms) r =
      let rest = first_of_parts (suc m) ms r.1 in
      let found = find test (filter chosen ms) in
      let others = filter other ms in
      elim (cases_Bool (chosen m)) [
        | inl is ↦
            let apart_is = apart m is in
            elim (cases_Bool (test m)) [
              | inl met ↦ rw (is, apart_is, met) (all_behind test m others (lower m (suc m) others (omega arith) (filter_rises other (suc m) ms r.1)))
              | inr unmatched ↦ rw (is, apart_is, unmatched) rest
            ]
        | inr isnt ↦ elim (cases_Bool (other m)) [
          | inl is ↦
              let before = not_behind found m (λ x e. found_from test (suc m) (filter chosen ms) x (filter_rises chosen (suc m) ms r.1) e) in
              elim (cases_Bool (test m)) [
                | inl met ↦ rw (isnt, is, met) (rw before (rw before refl))
                | inr unmatched ↦ rw (isnt, is, unmatched) (rw before rest)
              ]
          | inr numbered ↦ let fails = unmet m isnt numbered in rw (isnt, numbered, fails) rest
        ]
      ]

-- ---- those that ask for a number

-- a number is asked for, and it's the value's
abbrev is_asked : Option RawValue → Option ℤ → Bool
is_asked None o = false
is_asked (Some v) o = is_number v.raw o

asked_apart : (v : Option RawValue) (o : Option ℤ) → is_asked v o ≡ true → is_other o ≡ false
asked_apart None o e = cc
asked_apart (Some v) None e = cc
asked_apart (Some v) (Some number) e = refl

compares_not : (operator : Operator) (raw number : ℤ) → asks_one operator ≡ true → int_eq number raw ≡ false → compares operator raw number ≡ false
compares_not Equal raw number one other = int_eq_equiv.symm raw number ∙ other
compares_not NotEqual raw number one other = cc
compares_not Less raw number one other = cc
compares_not LessOrEqual raw number one other = cc
compares_not Greater raw number one other = cc
compares_not GreaterOrEqual raw number one other = cc

met_not : (x : Comparison) (v : Option RawValue) → asks_one x.operator ≡ true → is_asked v (Some x.number) ≡ false → is_met x v ≡ false
met_not x None one other = refl
met_not x (Some v) one other = compares_not x.operator v.raw x.number one other

both_true : (a b : Bool) → (a && b) ≡ true → (a ≡ true) × (b ≡ true)
both_true true b e = (refl, e)
both_true false b e = cc

-- a condition that begins by asking for another number doesn't hold
holds_not : (values : List RawValue) (place : ℕ) (xs : List (Comparison × ℕ)) → is_asked (slice_get values place) (number_asked place (slice_get xs 0)) ≡ false → is_other (number_asked place (slice_get xs 0)) ≡ false
    → holds_by_places values xs ≡ false
holds_not values place [] asked some = cc
holds_not values place (x ∷ xs) asked some =
    let begins = asks_one x.0.operator && (x.1 == place) in
    elim (cases_Bool begins) [
      | inl is ↦
          let both = both_true (asks_one x.0.operator) (x.1 == place) is in
          let at : x.1 ≡ place = eqb-true x.1 place both.1 in
          let number : is_asked (slice_get values place) (Some x.0.number) ≡ false = ap (λ b. is_asked (slice_get values place) (if b then Some x.0.number else None)) (sym is) ∙ asked in
          let here : is_met x.0 (slice_get values x.1) ≡ false = ap (λ (p : ℕ). is_met x.0 (slice_get values p)) at ∙ met_not x.0 (slice_get values place) both.0 number in
          ap (λ b. b && list_all (is_met_at values) xs) here
      | inr isnt ↦ let bad : is_other None ≡ false = ap (λ b. is_other (if b then Some x.0.number else None)) (sym isnt) ∙ some in cc
    ]

condition_of : (paths : List ContainerPath) (cs : List Container) (n : ℕ) → get_or (map (placed_below paths) cs) n [] ≡ placed_of paths (slice_get cs n)
condition_of paths [] n = refl
condition_of paths (c ∷ cs) zero = refl
condition_of paths (c ∷ cs) (suc n) = condition_of paths cs n

if_never : (b c : Bool) → c ≡ false → (if b then c else false) ≡ false
if_never true c e = e
if_never false c e = refl

filter_none : (ns : List ℕ) → filter (λ _. false) ns ≡ []
filter_none [] = refl
filter_none (m ∷ ms) = filter_none ms

asking_are : (conditions : List (List (Comparison × ℕ))) (ns : List ℕ) (c : NumberedChildren) (v : Option RawValue) → AreByNumber conditions ns c → children_asking c v ≡ filter (λ m. is_asked v (number_at conditions c.place m)) ns
asking_are conditions ns c None by = sym (filter_none ns)
asking_are conditions ns c (Some v) by = by.by_number v.raw

-- the first child that holds, by its number or before that among the others
pub first_by_number : (cs : List Container) (n : ℕ) (values : List RawValue) (c : NumberedChildren) → AreByNumber (conditions_of cs) (children_of cs n) c
    → first_unless (holds_at cs values) (find (holds_at cs values) (children_asking c (slice_get values c.place))) c.others.items ≡ find (holds_at cs values) (children_of cs n)
first_by_number cs n values c by =
    let ns = children_of cs n in
    let v = slice_get values c.place in
    let test = holds_at cs values in
    let asked : ℕ → Option ℤ = number_at (conditions_of cs) c.place in
    let unmet : (m : ℕ) → is_asked v (asked m) ≡ false → is_other (asked m) ≡ false → test m ≡ false = λ m number some.
    let own = condition_of (paths_of cs) cs m in
    if_never (nat_lt m (length cs)) (holds_by_places values (placed_condition cs m))
    (holds_not values c.place (placed_condition cs m) (ap (λ (xs : List (Comparison × ℕ)). is_asked v (number_asked c.place (slice_get xs 0))) (sym own) ∙ number)
    (ap (λ (xs : List (Comparison × ℕ)). is_other (number_asked c.place (slice_get xs 0))) (sym own) ∙ some)) in
    ap (λ (ms : List ℕ). first_unless test (find test ms) c.others.items) (asking_are (conditions_of cs) ns c v by)
    ∙ ap (λ (ms : List ℕ). first_unless test (find test (filter (λ m. is_asked v (asked m)) ns)) ms) by.others
    ∙ first_of_parts test (λ m. is_asked v (asked m)) (λ m. is_other (asked m)) (λ m e. asked_apart v (asked m) e) unmet 0 ns (children_rise n 0 cs)
