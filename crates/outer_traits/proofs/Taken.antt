-- Inputs that are read piece by piece.
use Rattle.std.proofs.Common.{◌≡◌, ℕ, ◌+◌, ◌<◌, List, [], ◌++◌, length, take, drop, Option, Some, None, append_assoc, append-nil, length-append, ◌∙◌, ap, refl, arith}
use Rattle.std.specs.Prelude.{IfSome}
use Rattle.std.proofs.lemmas.List.{take-append-drop}
use Rattle.outer_traits.specs.Outside.{Reads}
use Rattle.outer_traits.specs.Whole.{IsTaken}

pub taken_none : (first : Option (List ℕ)) → IsTaken first [] first
taken_none None = refl
taken_none (Some octets) = (octets, refl, refl)

pub taken_more : (first now new : Option (List ℕ)) (all into : List ℕ) (n : ℕ) → IsTaken first all now → Reads now new n into → IsTaken first (all ++ take n into) new
taken_more None now new all into n h r = rw h at r
taken_more (Some octets) now new all into n h r =
    let r' = rw h.2 at r in
    (drop n h.0, rw (append_assoc, r'.1, take-append-drop n h.0) h.1, r'.2)

pub taken_end : (first now : Option (List ℕ)) (all : List ℕ) → IsTaken first all now → IfSome now (λ left. left ≡ []) → IfSome first (λ octets. octets ≡ all)
taken_end None now all h e = tt
taken_end (Some octets) now all h e =
    let e' = rw h.2 at e in
    h.1 ∙ ap (λ (l : List ℕ). all ++ l) e' ∙ append-nil all

pub taken_long : (first now new : Option (List ℕ)) (all into : List ℕ) (n m : ℕ) → IsTaken first all now → Reads now new n into → m < length all + n →
    IfSome first (λ octets. m < length octets)
taken_long None now new all into n m h r more = tt
taken_long (Some octets) now new all into n m h r more =
    let r' = rw h.2 at r in
    let count = r'.0 in
    rw (h.1, length-append all h.0) (omega arith)
