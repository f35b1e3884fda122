-- Segments at places of octets.
use Rattle.std.proofs.Common.{◌≡◌, ℕ, ◌+◌, ◌-◌, ◌≤◌, List, [], length, drop, Option, Some, None, inl, inr, refl, sym, ap, ◌∙◌, arith}
use Rattle.std.specs.Int.{w16}
use Rattle.std.proofs.lemmas.Bool.{cases_lt}
use Rattle.std.proofs.lemmas.List.{drop_all, get_or-drop, length-append, length-drop}
use Rattle.octet_fields.specs.declared.fault.DecodeError.{DecodeError}
use Rattle.octet_fields.specs.declared.fault.DecodeError.TheVariants as errors
use Rattle.octet_fields.specs.Answers.{Fails}
use Rattle.octet_fields.specs.Exact.{IsOctets}
use Rattle.octet_fields.specs.Reading.{counted_at, number_at}
use Rattle.octet_fields.proofs.Exact.{some_is}
use Rattle.segment_codec.specs.declared.segment.Segment.{Segment}
use Rattle.segment_codec.specs.OneColumn.{column_in, column_of}
use Rattle.segment_codec.specs.Segment.{HasSegmentAt, segment_at, segment_octets}
use Rattle.segment_codec.proofs.Segments.{none_at_end, segment_exact}
use Rattle.segment_codec.proofs.Skipped.{column_of_segment, parameters_of_segment}

-- what stands at a place is read there
pub read_at : (octets front : List ℕ) (at : ℕ) (s : Segment) (has : HasSegmentAt octets at s) → front ≡ drop at octets → segment_at front ≡ Some (s, has.1)
read_at octets front at s has is = ap segment_at (is ∙ has.2) ∙ segment_exact.again s has.1 tt has.0

-- no segment stands at a place past the end
pub at_within : (octets : List ℕ) (at : ℕ) (s : Segment) → HasSegmentAt octets at s → at ≤ length octets
at_within octets at s has =
    elim (cases_lt (length octets) at) [
      | inl lt ↦ absurd (
          let none : drop at octets ≡ [] = drop_all at octets (omega arith) in
          let bad : ◌≡◌ {A = Option (Segment × List ℕ)} None (Some (s, has.1)) = sym none_at_end ∙ read_at octets [] at s has (sym none) in
          cc)
      | inr le ↦ le
    ]

octets_behind : (at : ℕ) (octets : List ℕ) → IsOctets octets → IsOctets (drop at octets)
octets_behind at octets are i = rw (get_or-drop at octets i 0) (are (at + i))

-- what was read stands there, and ends where the rest begins
pub stands_at : (octets front : List ℕ) (at : ℕ) (s : Segment) (rest : List ℕ) → at ≤ length octets → IsOctets octets → front ≡ drop at octets → segment_at front ≡ Some (s, rest) →
    HasSegmentAt octets at s × (length octets - length rest ≡ at + length (segment_octets s)) × (length rest ≤ length octets)
stands_at octets front at s rest le are is read =
    let t = segment_exact.takes (drop at octets) (s, rest) (octets_behind at octets are) (ap segment_at (sym is) ∙ read) in
    let sum : length octets - at ≡ length (segment_octets s) + length rest = sym (length-drop at octets) ∙ ap length t.0 ∙ length-append (segment_octets s) rest in
    ((t.1, rest, t.0), omega arith, omega arith)

-- what was read is what stands there
pub is_that : (octets front : List ℕ) (at : ℕ) (s : Segment) (rest : List ℕ) (that : Segment) → HasSegmentAt octets at that → front ≡ drop at octets → segment_at front ≡ Some (s, rest) → s ≡ that
is_that octets front at s rest that has is read = ap (λ (x : Segment × List ℕ). x.0) (some_is (s, rest) (that, has.1) (sym read ∙ read_at octets front at that has is))

-- where a segment stands, only memory can have been wanting
pub is_memory : (octets front : List ℕ) (at : ℕ) (s : Segment) (fault : DecodeError) → HasSegmentAt octets at s → front ≡ drop at octets → Fails fault (segment_at front) → fault ≡ errors.OutOfMemory
is_memory octets front at s errors.OutOfMemory has is fails = refl
is_memory octets front at s errors.Malformed has is fails =
    absurd (let bad : ◌≡◌ {A = Option (Segment × List ℕ)} None (Some (s, has.1)) = sym fails ∙ read_at octets front at s has is in cc)

-- the column of a segment that stands at a place
pub column_at : (octets front : List ℕ) (at parameter : ℕ) (s : Segment) → HasSegmentAt octets at s → front ≡ drop at octets → column_of parameter front ≡ Some (column_in parameter s)
column_at octets front at parameter s has is = ap (column_of parameter) (is ∙ has.2) ∙ column_of_segment parameter s has.1 has.0

-- the parameters of a segment that stands at a place are read there
pub parameters_there : (octets front : List ℕ) (at : ℕ) (s : Segment) (has : HasSegmentAt octets at s) → front ≡ drop at octets → counted_at w16 (number_at w16) front ≡ Some (s.parameters, (parameters_of_segment s has.1 has.0).0)
parameters_there octets front at s has is = ap (counted_at w16 (number_at w16)) (is ∙ has.2) ∙ (parameters_of_segment s has.1 has.0).1

-- what was read are its parameters
pub are_those : (octets front : List ℕ) (at : ℕ) (s : Segment) (read : List ℕ × List ℕ) → HasSegmentAt octets at s → front ≡ drop at octets → counted_at w16 (number_at w16) front ≡ Some read → read.0 ≡ s.parameters
are_those octets front at s read has is given =
    ap (λ (x : List ℕ × List ℕ). x.0) (some_is read (s.parameters, (parameters_of_segment s has.1 has.0).0) (sym given ∙ parameters_there octets front at s has is))

-- where a segment stands, only memory can have been wanting for its parameters
pub parameters_memory : (octets front : List ℕ) (at : ℕ) (s : Segment) (fault : DecodeError) → HasSegmentAt octets at s → front ≡ drop at octets → Fails fault (counted_at w16 (number_at w16) front) → fault ≡ errors.OutOfMemory
parameters_memory octets front at s errors.OutOfMemory has is fails = refl
parameters_memory octets front at s errors.Malformed has is fails =
    absurd (let bad : ◌≡◌ {A = Option (List ℕ × List ℕ)} None (Some (s.parameters, (parameters_of_segment s has.1 has.0).0)) = sym fails ∙ parameters_there octets front at s has is in cc)
