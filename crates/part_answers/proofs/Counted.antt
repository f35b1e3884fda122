-- One step at most for a row whose time lies in the range.
use Rattle.std.proofs.Common.{◌≡◌, ◌∙◌, ◌+◌, ◌≤◌, ℕ, List, [], ◌∷◌, ◌++◌, Bool, length, ap, arith, append-nil, length-append}
use Rattle.std.specs.Prelude.{filter}
use Rattle.std.proofs.lemmas.Grind.{flat_map-append}
use Rattle.std.proofs.lemmas.List.Elements.{filter-append}
use Rattle.arch_types.specs.declared.row.Row.{Row}
use Rattle.param_segments.specs.declared.plan.Part.{Part}
use Rattle.param_segments.specs.Plans.{rows_of_part, rows_of_parts}

module _ (test : Row → Bool) where
  -- as many of both lists as of one and of the other
  both_pass : (all first behind : List Row) → all ≡ first ++ behind → length (filter test all) ≡ length (filter test first) + length (filter test behind)
  both_pass all first behind is = ap (λ (rows : List Row). length (filter test rows)) is ∙ ap length (filter-append test first behind) ∙ length-append (filter test first) (filter test behind)

  -- the step for the first row, if it lies in the range
  pub first_in_range : (rows rest : List Row) (row : Row) (before now most : ℕ) → rows ≡ row ∷ rest → before + length (filter test rows) ≤ most → now ≤ before + length (filter test (row ∷ [])) → now + length (filter test rest) ≤ most
  first_in_range rows rest row before now most is left step =
      let whole = both_pass rows (row ∷ []) rest is in
      omega (arith, whole, left, step)

  -- the step for the last row, if it does
  pub last_in_range : (rows rest : List Row) (row : Row) (before now most : ℕ) → rows ≡ rest ++ row ∷ [] → before + length (filter test rows) ≤ most → now ≤ before + length (filter test (row ∷ [])) → now + length (filter test rest) ≤ most
  last_in_range rows rest row before now most is left step =
      let whole = both_pass rows rest (row ∷ []) is in
      omega (arith, whole, left, step)

  -- the steps for the rows of the first part
  pub first_part : (parts rest : List Part) (part : Part) (before now most : ℕ) → parts ≡ part ∷ rest → before + length (filter test (rows_of_parts parts)) ≤ most → now ≤ before + length (filter test (rows_of_part part)) →
      now + length (filter test (rows_of_parts rest)) ≤ most
  first_part parts rest part before now most is left step =
      let whole = both_pass (rows_of_parts parts) (rows_of_part part) (rows_of_parts rest) (ap rows_of_parts is) in
      omega (arith, whole, left, step)

  -- the steps for the rows of the last part
  pub last_part : (parts rest : List Part) (part : Part) (before now most : ℕ) → parts ≡ rest ++ part ∷ [] → before + length (filter test (rows_of_parts parts)) ≤ most → now ≤ before + length (filter test (rows_of_part part)) →
      now + length (filter test (rows_of_parts rest)) ≤ most
  last_part parts rest part before now most is left step =
      let rows : rows_of_parts (rest ++ part ∷ []) ≡ rows_of_parts rest ++ rows_of_part part = flat_map-append rows_of_part rest (part ∷ []) ∙ ap (λ (rs : List Row). rows_of_parts rest ++ rs) (append-nil (rows_of_part part)) in
      let whole = both_pass (rows_of_parts parts) (rows_of_parts rest) (rows_of_part part) (ap rows_of_parts is ∙ rows) in
      omega (arith, whole, left, step)
