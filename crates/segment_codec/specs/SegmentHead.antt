-- What stands before the values of a segment.
use Rattle.std.specs.Prelude.{◌≡◌, ◌∷◌, ℕ, List, Option, Some}
use Rattle.std.specs.Int.{w16}
use Rattle.octet_fields.specs.Reading.{◌>>=◌, counted_at, number_at}
use Rattle.arch_types.specs.declared.key.Key.{Key}
use Rattle.segment_codec.specs.KeyColumn.{first_key_at}
use Rattle.segment_codec.specs.Segment.{row_count_at}
use Rattle.segment_codec.specs.declared.segment.Segment.{Segment}
use Rattle.segment_codec.specs.declared.segment_head.SegmentHead.{SegmentHead}

-- the parameters and the first key of a segment
pub record IsHeadOf (s : Segment) (head : SegmentHead) : Type 0 where
  pub parameters : head.parameters ≡ s.parameters
  pub first : (others : List Key) × (s.keys ≡ head.first ∷ others)

-- ---- reading

-- parameters, and a first key
abbrev pub head_in : List ℕ → Key → SegmentHead
head_in parameters first = record { parameters = parameters; first = first }

-- the head of the segment that stands at the front
unfoldable pub head_of : List ℕ → Option SegmentHead
head_of octets =
    counted_at w16 (number_at w16) octets >>= λ parameters.
    row_count_at parameters.1 >>= λ rows.
    first_key_at rows.1 >>= λ key. Some (head_in parameters.0 key.0)
