-- Members of lists, by recursion.
use Rattle.std.proofs.Common.{◌≡◌, ◌⊎◌, inl, inr, ℕ, zero, suc, ◌<◌, List, [], ◌∷◌, ◌++◌, length, Contains, Some, refl, sym, subst, ◌∙◌, arith}
use Rattle.std.specs.Prelude.{slice_get}
use Rattle.std.specs.List.{AllByRecursion}
use Rattle.arch_types.specs.declared.row.Row.{Row}
use Rattle.history_items.specs.declared.items.Item.{Item}
use Rattle.history_items.specs.Items.{items_of, row_item}
use Rattle.shared_history.specs.Turns.{StandAt}

-- x is in the list
abbrev pub IsIn : {X : Type 0} → X → List X → Type 0
IsIn x [] = ⊥
IsIn x (y ∷ ys) = (y ≡ x) ⊎ IsIn x ys

pub in_from : {X : Type 0} (x : X) (xs : List X) → Contains xs x → IsIn x xs
in_from x [] (k, low, e) = absurd (omega (arith, low))
in_from x (y ∷ xs) (zero, low, e) = inl e
in_from x (y ∷ xs) (suc k, low, e) = inr (in_from x xs (k, omega (arith, low), e))

pub contains_from : {X : Type 0} (x : X) (xs : List X) → IsIn x xs → Contains xs x
contains_from x [] i = absurd i
contains_from x (y ∷ xs) (inl e) = (0, omega arith, e)
contains_from x (y ∷ xs) (inr i) = let c = contains_from x xs i in let low = c.1 in (suc c.0, omega (arith, low), c.2)

pub all_in : {X : Type 0} (P : X → Type 0) (xs : List X) (x : X) → AllByRecursion P xs → IsIn x xs → P x
all_in P [] x all i = absurd i
all_in P (y ∷ xs) x all (inl e) = subst P e all.0
all_in P (y ∷ xs) x all (inr i) = all_in P xs x all.1 i

pub all_append : {X : Type 0} (P : X → Type 0) (xs ys : List X) → AllByRecursion P xs → AllByRecursion P ys → AllByRecursion P (xs ++ ys)
all_append P [] ys a b = b
all_append P (x ∷ xs) ys a b = (a.0, all_append P xs ys a.1 b)

pub below_length : {X : Type 0} (xs : List X) (i : ℕ) (x : X) → slice_get xs i ≡ Some x → i < length xs
below_length [] i x e = absurd cc
below_length (y ∷ xs) zero x e = omega arith
below_length (y ∷ xs) (suc i) x e = omega (arith, below_length xs i x e)

-- what stands at one of the places is one of the items
pub stands_in : {X : Type 0} (whole : List X) (ps : List ℕ) (xs : List X) (p : ℕ) (x : X) → StandAt whole ps xs → IsIn p ps → slice_get whole p ≡ Some x → IsIn x xs
stands_in whole [] xs p x s i e = absurd i
stands_in whole (q ∷ ps) [] p x s i e = absurd s
stands_in {X = X} whole (q ∷ ps) (y ∷ xs) p x s (inl same) e =
    let here : slice_get whole p ≡ Some y = subst (λ (n : ℕ). slice_get whole n ≡ Some y) same s.0 in
    let both : Some y ≡ Some x = sym here ∙ e in
    inl cc
stands_in whole (q ∷ ps) (y ∷ xs) p x s (inr i) e = inr (stands_in whole ps xs p x s.1 i e)

-- an item of rows is one of them
pub row_in_items : (rows : List Row) (item : Item) → IsIn item (items_of rows) → (row : Row) × (item ≡ row_item row) × IsIn row rows
row_in_items [] item i = absurd i
row_in_items (row ∷ rows) item (inl e) = (row, sym e, inl refl)
row_in_items (row ∷ rows) item (inr i) = let r = row_in_items rows item i in (r.0, r.1, inr r.2)
