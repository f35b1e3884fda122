-- Items at their places in lists that grow.
use Rattle.std.proofs.Common.{◌≡◌, ℕ, zero, suc, ◌+◌, List, [], ◌∷◌, ◌++◌, length, Some, ap, ◌∙◌, subst, arith}
use Rattle.std.specs.Prelude.{slice_get}
use mathlib.Core.List.{IsPrefix}

-- what stands behind a list
pub at_behind : {X : Type 0} (xs ys : List X) (i : ℕ) → slice_get (xs ++ ys) (length xs + i) ≡ slice_get ys i
at_behind [] ys i = let e : 0 + i ≡ i = omega arith in ap (slice_get ys) e
at_behind (x ∷ xs) ys i = let e : length (x ∷ xs) + i ≡ suc (length xs + i) = omega arith in ap (slice_get (x ∷ (xs ++ ys))) e ∙ at_behind xs ys i

at_longer : {X : Type 0} (xs more : List X) (i : ℕ) (x : X) → slice_get xs i ≡ Some x → slice_get (xs ++ more) i ≡ Some x
at_longer [] more i x e = absurd cc
at_longer (y ∷ xs) more zero x e = e
at_longer (y ∷ xs) more (suc i) x e = at_longer xs more i x e

-- an item keeps its place
pub at_later : {X : Type 0} (xs ys : List X) (i : ℕ) (x : X) → IsPrefix xs ys → slice_get xs i ≡ Some x → slice_get ys i ≡ Some x
at_later xs ys i x p e = subst (λ l. slice_get l i ≡ Some x) p.1 (at_longer xs p.0 i x e)
