-- The head of a segment is read from its front.
use Rattle.std.proofs.Common.{◌≡◌, ◌∙◌, ℕ, List, [], ◌∷◌, ◌++◌, length, drop, append_assoc, Some, refl, sym, ap, subst, arith}
use Rattle.std.specs.Prelude.{flat_map}
use Rattle.std.specs.Int.{w16}
use Rattle.std.specs.List.{AllByRecursion}
use Rattle.octet_fields.specs.Spelling.{counted, number}
use Rattle.octet_fields.proofs.Exact.{some_is}
use Rattle.octet_fields.proofs.Numbers.{exact16, exact_counted16}
use Rattle.arch_types.specs.declared.key.Key.{Key}
use Rattle.segment_codec.specs.KeyColumn.{IsKey, first_key, key_column, key_gaps}
use Rattle.segment_codec.specs.RawColumn.{raw_column}
use Rattle.segment_codec.specs.Segment.{HasSegmentAt, IsSegment, segment_octets}
use Rattle.segment_codec.specs.SegmentHead.{IsHeadOf, head_in, head_of}
use Rattle.segment_codec.specs.declared.segment.Segment.{Segment}
use Rattle.segment_codec.specs.declared.segment_head.SegmentHead.{SegmentHead}
use Rattle.segment_codec.proofs.Segments.{first_exact, row_count_exact, true_rows}

-- where a first key is given
heads : (s : Segment) (k : Key) (ks : List Key) (rest : List ℕ) → s.keys ≡ k ∷ ks → IsSegment s → head_of (segment_octets s ++ rest) ≡ Some (head_in s.parameters k)
unfolding head_of segment_octets
heads s k ks rest same is =
    let ps = s.parameters in
    let n = length s.keys in
    let few = is.few_rows in
    let columns = flat_map raw_column s.columns in
    let tail = key_column s.keys ++ columns in
    let gaps = key_gaps k ks ++ (columns ++ rest) in
    let a2 : tail ++ rest ≡ first_key k ++ gaps =
    append_assoc (key_column s.keys) columns rest ∙ ap (λ (keys : List Key). key_column keys ++ (columns ++ rest)) same ∙ append_assoc (first_key k) (key_gaps k ks) (columns ++ rest) in
    let a1 = append_assoc (number w16 n) tail rest in
    let a0 = append_assoc (counted w16 (number w16) ps) (number w16 n ++ tail) rest in
    let parameters = (exact_counted16 exact16).again ps ((number w16 n ++ tail) ++ rest) tt (is.few_parameters, is.parameters) in
    let rows = row_count_exact.again n (tail ++ rest) tt (omega arith, true_rows n is.some_rows is.few_rows) in
    let fields = subst (AllByRecursion IsKey) same is.key_fields in
    let first = first_exact.again k gaps tt fields.0 in
    rw (a0, parameters, a1, rows, a2, first) refl

head_cases : (s : Segment) (keys : List Key) (rest : List ℕ) → s.keys ≡ keys → IsSegment s → (h : SegmentHead) × (head_of (segment_octets s ++ rest) ≡ Some h) × IsHeadOf s h
head_cases s [] rest same is = absurd (let some = is.some_rows in let none = ap length same in omega arith)
head_cases s (k ∷ ks) rest same is = (head_in s.parameters k, heads s k ks rest same is, record { parameters = refl; first = (ks, same) })

-- the head of a segment that stands at a place is read there
pub head_there : (octets front : List ℕ) (at : ℕ) (s : Segment) (read : SegmentHead) → HasSegmentAt octets at s → front ≡ drop at octets → head_of front ≡ Some read → IsHeadOf s read
head_there octets front at s read has is given =
    let h = head_cases s s.keys has.1 refl has.0 in
    subst (IsHeadOf s) (some_is h.0 read (sym h.1 ∙ ap head_of (sym (is ∙ has.2)) ∙ given)) h.2
