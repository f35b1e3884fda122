-- Lengths of counted lists.
use Rattle.std.proofs.Common.{◌≡◌, ℕ, ◌+◌, ◌*◌, ◌≤◌, List, [], ◌∷◌, ◌++◌, length, length-append, ap, ◌∙◌, arith}
use Rattle.std.specs.Prelude.{sum_by}
use Rattle.std.specs.Int.{w8, w16, w32}
use Rattle.std.specs.List.{AllByRecursion, flat_map}
use Rattle.std.proofs.Math.Nat.{mul-add, mul-suc}
use Rattle.std.proofs.lemmas.List.Sums.{sum_by-cons}
use Rattle.octet_fields.specs.Spelling.{counted, number}

module _ {X : Type 0} (spell : X → List ℕ) where
  pub counted_8 : (items : List X) → length (counted w8 spell items) ≡ 1 + length (flat_map spell items)
  unfolding counted number
  counted_8 items = omega arith

  pub counted_16 : (items : List X) → length (counted w16 spell items) ≡ 2 + length (flat_map spell items)
  unfolding counted number
  counted_16 items = omega arith

  pub counted_32 : (items : List X) → length (counted w32 spell items) ≡ 4 + length (flat_map spell items)
  unfolding counted number
  counted_32 items = omega arith

  -- each is spelled in at most so many octets
  pub each_most : (most : ℕ) (Fits : X → Type 0) → ((x : X) → Fits x → length (spell x) ≤ most) → (items : List X) → AllByRecursion Fits items → length (flat_map spell items) ≤ most * length items
  each_most most Fits le [] all = omega arith
  each_most most Fits le (x ∷ items) all =
      let more : most * length (x ∷ items) ≡ most * length items + most = mul-suc most (length items) in
      omega (arith, more, le x all.0, each_most most Fits le items all.1, length-append (spell x) (flat_map spell items))

  -- and in so many more for each of what it has
  pub each_most_and : (most each : ℕ) (count : X → ℕ) (Fits : X → Type 0) → ((x : X) → Fits x → length (spell x) ≤ most + each * count x) → (items : List X) → AllByRecursion Fits items →
      length (flat_map spell items) ≤ most * length items + each * sum_by count items
  each_most_and most each count Fits le [] all = omega arith
  each_most_and most each count Fits le (x ∷ items) all =
      let more : most * length (x ∷ items) ≡ most * length items + most = mul-suc most (length items) in
      let sum : each * sum_by count (x ∷ items) ≡ each * count x + each * sum_by count items = ap (λ (n : ℕ). each * n) (sum_by-cons count x items) ∙ mul-add each (count x) (sum_by count items) in
      omega (arith, more, sum, le x all.0, each_most_and most each count Fits le items all.1, length-append (spell x) (flat_map spell items))
