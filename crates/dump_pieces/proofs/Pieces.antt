-- A dump that is read piece by piece.
use Rattle.std.proofs.Common.{◌≡◌, ℕ, ◌<◌, List, [], ◌∷◌, ◌++◌, length, take, drop, Option, Some, None, refl, sym, ap, ◌∙◌, arith, append_assoc, length-append}
use Rattle.std.specs.Prelude.{IfSome}
use Rattle.std.proofs.lemmas.List.{take-append-drop}
use Rattle.outer_traits.specs.Outside.{Reads}
use Rattle.outer_traits.specs.Whole.{IsTaken}

-- ---- one read

-- the octets that it moved were taken
pub piece_taken : (left new : Option (List ℕ)) (into : List ℕ) (n : ℕ) → Reads left new n into → IsTaken left (take n into) new
piece_taken None new into n r = r
piece_taken (Some octets) new into n r =
    (drop n octets, sym (take-append-drop n octets) ∙ ap (λ (l : List ℕ). l ++ drop n octets) (sym r.1), r.2)

-- where it moved some, there were some
pub some_left : (left new : Option (List ℕ)) (into : List ℕ) (n : ℕ) → Reads left new n into → 0 < n → IfSome left (λ octets. 0 < length octets)
some_left None new into n r some = tt
some_left (Some octets) new into n r some = let most = r.0 in omega (arith, some, most)

pub no_octets : (piece : List ℕ) → length piece ≡ 0 → piece ≡ []
no_octets [] none = refl
no_octets (octet ∷ more) none = absurd (omega (arith, none))

-- ---- all of them

-- a piece more was taken
pub taken_then : (first now new : Option (List ℕ)) (read piece : List ℕ) → IsTaken first read now → IsTaken now piece new → IsTaken first (read ++ piece) new
taken_then None now new read piece had t = rw had at t
taken_then (Some octets) now new read piece had t =
    let more = rw had.2 at t in
    (more.0, had.1 ∙ ap (λ (l : List ℕ). read ++ l) more.1 ∙ sym (append_assoc read piece more.0), more.2)

-- where octets are left, there are more
pub read_fewer : (first now : Option (List ℕ)) (read : List ℕ) → IsTaken first read now → IfSome now (λ octets. 0 < length octets) → IfSome first (λ octets. length read < length octets)
read_fewer None now read had left = tt
read_fewer (Some octets) now read had left =
    let more = rw had.2 at left in
    let whole = ap length had.1 in
    let parts = length-append read had.0 in
    omega (arith, more, whole, parts)
