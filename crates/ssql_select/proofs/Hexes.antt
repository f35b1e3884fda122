-- Octets in hex, one behind the other.
use Rattle.std.proofs.Common.{◌≡◌, ℕ, suc, ◌+◌, ◌/◌, ◌%◌, ◌<◌, List, [], ◌∷◌, ◌++◌, length, get_or, take, refl, sym, ap, ◌∙◌, append-nil, append_assoc, arith}
use Rattle.std.specs.Prelude.{slice_index}
use Rattle.std.proofs.Math.Seq.{take-suc}
use Rattle.hex.specs.Hex.{encode_with, encode_lower, lower_digits}

encode_both : (digits xs ys : List ℕ) → encode_with digits (xs ++ ys) ≡ encode_with digits xs ++ encode_with digits ys
unfolding encode_with
encode_both digits [] ys = refl
encode_both digits (x ∷ xs) ys = ap (λ (l : List ℕ). slice_index digits (x / 16) ∷ slice_index digits (x % 16) ∷ l) (encode_both digits xs ys)

pub hex_none : (line : List ℕ) → line ≡ line ++ encode_lower []
unfolding encode_with
hex_none line = sym (append-nil line)

pub hex_next : (line xs : List ℕ) (i b : ℕ) (old new : List ℕ) → i < length xs → b ≡ get_or xs i b → old ≡ line ++ encode_lower (take i xs) → new ≡ old ++ encode_lower (b ∷ []) → new ≡ line ++ encode_lower (take (i + 1) xs)
hex_next line xs i b old new within is so_far added =
    let next : i + 1 ≡ suc i = omega arith in
    added ∙ ap (λ (l : List ℕ). l ++ encode_lower (b ∷ [])) so_far ∙ append_assoc line (encode_lower (take i xs)) (encode_lower (b ∷ []))
    ∙ ap (λ (l : List ℕ). line ++ l) (sym (encode_both lower_digits (take i xs) (b ∷ [])) ∙ ap (λ (y : ℕ). encode_lower (take i xs ++ y ∷ [])) is ∙ ap encode_lower (sym (take-suc xs i b within)) ∙ ap (λ (n : ℕ). encode_lower (take n xs)) (sym next))
