-- What holds of the spellings of segments.
use Rattle.std.specs.Prelude.{◌≡◌, ℕ, ◌^◌, ◌<◌, ◌≤◌, List, ◌++◌}
use Rattle.segment_codec.specs.RawColumn.{bit_len}
use Rattle.segment_codec.specs.Segment.{IsSegment, segment_octets}
use Rattle.segment_codec.specs.declared.segment.Segment.{Segment}

-- octets begin with the spelling of one segment at most: no two have one spelling, and no spelling begins another
abbrev pub SegmentsAreApart : Type 0
SegmentsAreApart = (a b : Segment) (x y : List ℕ) → IsSegment a → IsSegment b → segment_octets a ++ x ≡ segment_octets b ++ y → (a ≡ b) × (x ≡ y)

-- a number fits in its width
abbrev pub WidthsAreEnough : Type 0
WidthsAreEnough = (n : ℕ) → n < 2 ^ 128 → n < 2 ^ bit_len n

-- a number fits in no lesser width
abbrev pub WidthsAreLeast : Type 0
WidthsAreLeast = (n width : ℕ) → n < 2 ^ 128 → n < 2 ^ width → bit_len n ≤ width
