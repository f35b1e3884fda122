-- Parameters compared with those of values, one after the other.
use Rattle.std.proofs.Common.{◌≡◌, ◌∙◌, ℕ, suc, ◌+◌, ◌<◌, ◌≤◌, Bool, true, false, List, [], ◌∷◌, length, map, drop, drop-cons, get_or, add-one, refl, sym, ap}
use Rattle.std.specs.Prelude.{◌&&◌, nat_eq}
use lib.Pointwise.{pointwise, pointwise_long}
use Rattle.std.proofs.lemmas.List.{drop_all, length-map}
use Rattle.container_extract.specs.declared.values.RawValue.{RawValue}

abbrev compared : List RawValue → List ℕ → Bool
compared vs ps = pointwise nat_eq (map (λ v. v.parameter) vs) ps

bool_not : (b : Bool) → (b ≡ true → ⊥) → b ≡ false
bool_not true never = absurd (never refl)
bool_not false never = refl

-- lists of other lengths differ
pub other_length : (vs : List RawValue) (ps : List ℕ) → (length ps ≡ length vs → ⊥) → compared vs ps ≡ false
other_length vs ps differ = bool_not (compared vs ps) (λ is. differ (sym (pointwise_long nat_eq (map (λ v. v.parameter) vs) ps is) ∙ length-map vs (λ v. v.parameter)))

opened : (vs : List RawValue) (ps : List ℕ) (i : ℕ) (dv : RawValue) → i < length vs → i < length ps → compared (drop i vs) (drop i ps) ≡ (nat_eq (get_or vs i dv).parameter (get_or ps i 0) && compared (drop (i + 1) vs) (drop (i + 1) ps))
opened vs ps i dv lv lp =
    ap (λ (xs : List RawValue). compared xs (drop i ps)) (drop-cons vs i dv lv) ∙ ap (λ (qs : List ℕ). compared (get_or vs i dv ∷ drop (suc i) vs) qs) (drop-cons ps i 0 lp)
    ∙ ap (λ (k : ℕ). nat_eq (get_or vs i dv).parameter (get_or ps i 0) && compared (drop k vs) (drop k ps)) (sym (add-one i))

-- a parameter that is the same is passed
pub same_parameter : (vs : List RawValue) (ps : List ℕ) (i : ℕ) (dv : RawValue) (total : Bool) → i < length vs → i < length ps → nat_eq (get_or vs i dv).parameter (get_or ps i 0) ≡ true → compared (drop i vs) (drop i ps) ≡ total → compared (drop (i + 1) vs) (drop (i + 1) ps) ≡ total
same_parameter vs ps i dv total lv lp same so_far = ap (λ (b : Bool). b && compared (drop (i + 1) vs) (drop (i + 1) ps)) (sym same) ∙ sym (opened vs ps i dv lv lp) ∙ so_far

-- one that isn't tells them apart
pub other_parameter : (vs : List RawValue) (ps : List ℕ) (i : ℕ) (dv : RawValue) (total : Bool) → i < length vs → i < length ps → nat_eq (get_or vs i dv).parameter (get_or ps i 0) ≡ false → compared (drop i vs) (drop i ps) ≡ total → false ≡ total
other_parameter vs ps i dv total lv lp other so_far = ap (λ (b : Bool). b && compared (drop (i + 1) vs) (drop (i + 1) ps)) (sym other) ∙ sym (opened vs ps i dv lv lp) ∙ so_far

-- where all were passed they are the same
pub all_same : (vs : List RawValue) (ps : List ℕ) (i : ℕ) (total : Bool) → length vs ≤ i → length ps ≤ i → compared (drop i vs) (drop i ps) ≡ total → true ≡ total
all_same vs ps i total lv lp so_far = ap (λ (xs : List RawValue). compared xs []) (sym (drop_all i vs lv)) ∙ ap (compared (drop i vs)) (sym (drop_all i ps lp)) ∙ so_far
