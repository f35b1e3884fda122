-- Rows up to a limit.
use Rattle.std.proofs.Common.{◌≡◌, ◌∙◌, ◌<◌, ◌≤◌, ℕ, suc, zero, List, [], ◌∷◌, ◌++◌, length, take, true, false, Option, Some, None, ap, sym, refl, arith, append-nil, append_assoc, length-append}
use Rattle.std.proofs.lemmas.Bool.Decides.{nat_tests}
use Rattle.std.proofs.lemmas.List.{take-append-le, take_all}
use Rattle.arch_types.specs.declared.row.Row.{Row}
use Rattle.arch_types.specs.Directions.{truncated}
use Rattle.ssql_select.specs.Selection.{is_enough}

take_front : (n : ℕ) (xs ys : List Row) → take n (take n xs ++ ys) ≡ take n (xs ++ ys)
take_front zero xs ys = refl
take_front (suc n) [] ys = refl
take_front (suc n) (x ∷ xs) ys = ap (λ (l : List Row). x ∷ l) (take_front n xs ys)

-- what lies beyond the limit of a front is beyond the limit of the whole
pub front : (limit : Option ℕ) (xs ys : List Row) → truncated limit (truncated limit xs ++ ys) ≡ truncated limit (xs ++ ys)
front None xs ys = refl
front (Some n) xs ys = take_front n xs ys

pub twice : (limit : Option ℕ) (xs : List Row) → truncated limit (truncated limit xs) ≡ truncated limit xs
twice limit xs =
    ap (truncated limit) (sym (append-nil (truncated limit xs))) ∙ front limit xs [] ∙ ap (truncated limit) (append-nil xs)

pub none_yet : (limit : Option ℕ) → truncated {X = Row} limit [] ≡ []
none_yet None = refl
none_yet (Some zero) = refl
none_yet (Some (suc n)) = refl

enough_is : (n : ℕ) (xs : List Row) → is_enough (Some n) xs ≡ true → n ≤ length xs
enough_is n xs h = grind (arith, nat_tests)

room_is : (n : ℕ) (xs : List Row) → is_enough (Some n) xs ≡ false → length xs < n
room_is n xs h = grind (arith, nat_tests)

-- where there are as many as may be, no more are taken
pub enough : (limit : Option ℕ) (xs ys : List Row) → is_enough limit xs ≡ true → truncated limit xs ≡ xs → truncated limit (xs ++ ys) ≡ xs
enough None xs ys h within = absurd (cc (h))
enough (Some n) xs ys h within = let few = enough_is n xs h in take-append-le n xs ys few ∙ within

-- where there are fewer, there's room for one
pub room : (limit : Option ℕ) (xs ys : List Row) → is_enough limit xs ≡ false → length ys ≤ 1 → truncated limit (xs ++ ys) ≡ xs ++ ys
room None xs ys h few = refl
room (Some n) xs ys h few = take_all n (xs ++ ys) (omega (arith, room_is n xs h, length-append xs ys, few))

-- nothing more comes
pub all_taken : (limit : Option ℕ) (xs all : List Row) → truncated limit xs ≡ xs → truncated limit (xs ++ []) ≡ all → xs ≡ all
all_taken limit xs all within h = sym within ∙ ap (truncated limit) (sym (append-nil xs)) ∙ h

-- some rows that were added up to the limit, and then others
pub next_rows : (limit : Option ℕ) (xs new ys zs all : List Row) → new ≡ truncated limit (xs ++ ys) → truncated limit (xs ++ (ys ++ zs)) ≡ all → truncated limit (new ++ zs) ≡ all
next_rows limit xs new ys zs all e h =
    ap (λ (l : List Row). truncated limit (l ++ zs)) e ∙ front limit (xs ++ ys) zs ∙ ap (truncated limit) (append_assoc xs ys zs) ∙ h

pub still_within : (limit : Option ℕ) (xs new ys : List Row) → new ≡ truncated limit (xs ++ ys) → truncated limit new ≡ new
still_within limit xs new ys e = ap (truncated limit) e ∙ twice limit (xs ++ ys) ∙ sym e
