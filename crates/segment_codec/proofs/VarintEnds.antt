-- Passing over varints by the octets that end them.
use Rattle.std.proofs.Common.{◌≡◌, ◌∙◌, ◌+◌, ◌-◌, ◌<◌, ℕ, zero, suc, Bool, true, false, List, [], ◌∷◌, ◌++◌, length, drop, get_or, Some, inl, inr, refl, ap, sym, arith}
use Rattle.std.specs.Prelude.{nat_lt, if◌then◌else◌}
use Rattle.std.specs.List.{position}
use Rattle.std.proofs.lemmas.Bool.{cases_Bool}
use Rattle.std.proofs.lemmas.List.Quantifiers.{position-Some}
use Rattle.segment_codec.specs.RangeColumn.{AreKeysUpTo}
use Rattle.segment_codec.specs.VarintEnds.{behind_ends, ends_in}
use Rattle.segment_codec.proofs.RangeSteps.{gap_passed, no_gap}
use Rattle.varints.proofs.Varints.{varint_ends}

-- the octet ends a varint
abbrev ends : ℕ → Bool
ends octet = nat_lt octet 128

-- a piece that ends fewer than so many is passed over
pub piece_passed : (piece rest : List ℕ) (n : ℕ) → ends_in piece < n → behind_ends rest (n - ends_in piece) ≡ behind_ends (piece ++ rest) n
piece_passed [] rest n few = let same : n - ends_in [] ≡ n = omega arith in ap (behind_ends rest) same
piece_passed (octet ∷ piece) rest zero few = absurd (omega arith)
piece_passed (octet ∷ piece) rest (suc n) few = elim (cases_Bool (ends octet)) [
  | inl is ↦
      let all : ends_in (octet ∷ piece) ≡ suc (ends_in piece) = rw is refl in
      let fewer : ends_in piece < n = omega (arith, few, all) in
      let less : suc n - ends_in (octet ∷ piece) ≡ n - ends_in piece = omega (arith, all) in
      ap (behind_ends rest) less ∙ piece_passed piece rest n fewer ∙ ap (λ b. behind_ends (piece ++ rest) (if b then n else suc n)) (sym is)
  | inr isnt ↦
      let all : ends_in (octet ∷ piece) ≡ ends_in piece = rw isnt refl in
      let fewer : ends_in piece < suc n = omega (arith, few, all) in
      ap (λ (k : ℕ). behind_ends rest (suc n - k)) all ∙ piece_passed piece rest (suc n) fewer ∙ ap (λ b. behind_ends (piece ++ rest) (if b then n else suc n)) (sym isnt)
]

-- behind the first octet that ends one, one fewer is left
end_first : (octets : List ℕ) (k n : ℕ) → k < length octets → ends (get_or octets k 0) ≡ true → ((j : ℕ) → j < k → ends (get_or octets j 0) ≡ false) → behind_ends octets (suc n) ≡ behind_ends (drop (suc k) octets) n
end_first [] k n inside here before = absurd (omega arith)
end_first (octet ∷ octets) zero n inside here before = ap (λ b. behind_ends octets (if b then n else suc n)) here
end_first (octet ∷ octets) (suc k) n inside here before =
    ap (λ b. behind_ends octets (if b then n else suc n)) (before 0 (omega arith)) ∙ end_first octets k n (omega (arith, inside)) here (λ j less. before (suc j) (omega (arith, less)))

pub end_at : (octets : List ℕ) (k n : ℕ) → position ends octets ≡ Some k → behind_ends octets (suc n) ≡ behind_ends (drop (k + 1) octets) n
end_at octets k n at =
    let p = position-Some ends octets k 0 at in
    let one : suc k ≡ k + 1 = omega arith in
    end_first octets k n p.0 p.1 p.2 ∙ ap (λ (m : ℕ). behind_ends (drop m octets) n) one

-- behind so many keys so many varints end
pub keys_end : (count : ℕ) (octets after : List ℕ) → AreKeysUpTo count octets after → behind_ends octets count ≡ Some after
keys_end zero octets after are = ap (λ (xs : List ℕ). Some xs) (no_gap octets after are)
keys_end (suc count) octets after are =
    let p = gap_passed count octets after are in
    let end = varint_ends octets p.0 p.1 p.2 in
    end_at octets end.0 count end.2 ∙ ap (λ (xs : List ℕ). behind_ends xs count) end.3 ∙ keys_end count p.1 after p.3
