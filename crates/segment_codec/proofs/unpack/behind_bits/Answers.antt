use Rattle.std.proofs.Common.{◌≡◌, ◌∙◌, ◌+◌, ◌-◌, ◌*◌, ◌/◌, ◌%◌, ◌^◌, ◌++◌, ◌∷◌, ℕ, List, sym, ap, subst, arith, take, drop, drop-cons, get_or}
use Rattle.std.proofs.lemmas.List.{take-append-drop}
use Rattle.octet_fields.specs.Exact.{IsOctets}
use Rattle.segment_codec.specs.Bits.{number_from_digits}
use Rattle.segment_codec.proofs.Leaves.{IsOctets-drop}
use Rattle.segment_codec.proofs.Numbers.{masked}
use Rattle.segment_codec.proofs.PackedRows.{octets_behind_bits}
use Rattle.segment_codec.proofs.unpack.behind_bits.Goals as goal

pub returns-clause-pending : goal.returns-clause-pending
returns-clause-pending c =
    let m = masked c.from.result (8 - c.args.bits % 8) (omega arith) in
    record { few = omega arith; bits = rw m.0 m.1 }

pub returns-clause-same : goal.returns-clause-same
returns-clause-same c =
    let octets = c.args.octets.now in
    let k = c.args.bits / 8 in
    let s = 8 - c.args.bits % 8 in
    let octet = c.from.result in
    let rest = c.split_at.result.1.now in
    let after = c.split_at-2.result.1.now in
    let m = masked octet s (omega arith) in
    let first : rest ≡ get_or rest 0 0 ∷ drop 1 rest = drop-cons rest 0 0 (omega (arith, c.split_at.ensures.back_len)) in
    let here : rest ≡ octet ∷ after = first ∙ ap (λ (n : ℕ). n ∷ drop 1 rest) (sym c.from.ensures) ∙ ap (λ (xs : List ℕ). octet ∷ xs) (sym c.split_at-2.ensures.back) in
    let whole : take k octets ++ (octet ∷ after) ≡ octets = ap (λ (xs : List ℕ). take k octets ++ xs) (sym here ∙ c.split_at.ensures.back) ∙ take-append-drop k octets in
    (number_from_digits 8 (take k octets) * 2 ^ (8 - s) + octet / 2 ^ s, rw m.0 (octets_behind_bits (take k octets) after octet s (omega arith) ∙ ap (number_from_digits 8) whole))

pub returns-clause-octets : goal.returns-clause-octets
returns-clause-octets c =
    let rest : IsOctets c.split_at.result.1.now = subst IsOctets (sym c.split_at.ensures.back) (IsOctets-drop _ c.args.octets.now (λ i. omega (arith, c.type_inv.octets i))) in
    subst IsOctets (sym c.split_at-2.ensures.back) (IsOctets-drop 1 c.split_at.result.1.now rest)
