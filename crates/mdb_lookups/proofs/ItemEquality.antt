-- Lists that agree at each place are equal.
use Rattle.std.proofs.Common.{◌≡◌, ◌∙◌, ◌<◌, ◌≤◌, ℕ, zero, suc, List, [], ◌∷◌, length, refl, ap, arith}
use Rattle.std.specs.Prelude.{slice_get}
use Rattle.std.proofs.lemmas.Option.{same_Some}

-- two lists have the same items at the first so many places
abbrev pub AgreeTo : {X : Type 0} → ℕ → List X → List X → Type 0
AgreeTo k xs ys = (j : ℕ) → j < k → slice_get xs j ≡ slice_get ys j

pub same_each : {X : Type 0} (k : ℕ) (xs ys : List X) → length xs ≡ length ys → length xs ≤ k → AgreeTo k xs ys → xs ≡ ys
same_each k [] [] e most each = refl
same_each k [] (y ∷ ys) e most each = absurd (omega arith)
same_each k (x ∷ xs) [] e most each = absurd (omega arith)
same_each zero (x ∷ xs) (y ∷ ys) e most each = absurd (omega arith)
same_each (suc k) (x ∷ xs) (y ∷ ys) e most each =
    let here : x ≡ y = same_Some x y (each 0 (omega arith)) in
    let rest = same_each k xs ys (omega arith) (omega arith) (λ j lt. each (suc j) (omega (arith, lt))) in
    ap (λ zs. x ∷ zs) rest ∙ ap (λ z. z ∷ ys) here
