-- A segment set as octets.
use Rattle.std.specs.Prelude.{◌≡◌, ℕ, ◌+◌, ◌<◌, ◌^◌, List, [], ◌∷◌, length, slice_index_or, unwrap_or}
use Rattle.std.specs.Int.{w32}
use Rattle.octet_fields.specs.Reading.{counted_at, whole}
use Rattle.octet_fields.specs.Spelling.{counted}
use Rattle.segment_codec.specs.Segment.{segment_at, segment_octets}
use Rattle.segment_codec.specs.declared.segment.Segment.{Segment}
use Rattle.param_segments.specs.Rows.{SetRow, AreSetRows}
use Rattle.param_segments.specs.Groups.{segment_of, set_of}
use Rattle.param_segments.specs.Segments.{rows_of_segment, rows_of_segments}

-- the one spelling of rows: u32 count of the segments, and then each
unfoldable pub set_octets : List SetRow → List ℕ
set_octets rows = counted w32 segment_octets (set_of rows)

-- the rows that octets of a set stand for
unfoldable pub rows_in_octets : List ℕ → List SetRow
rows_in_octets octets = rows_of_segments (unwrap_or (whole (counted_at w32 segment_at) octets) [])

-- the rows of the segment with a number
abbrev pub rows_of_numbered_segment : List SetRow → ℕ → List SetRow
rows_of_numbered_segment rows number = rows_of_segment (slice_index_or (set_of rows) number (segment_of [] []))

-- the place where each segment begins, the first at a place
abbrev pub starts_from : ℕ → List Segment → List ℕ
starts_from at [] = []
starts_from at (s ∷ segments) = at ∷ starts_from (at + length (segment_octets s)) segments

-- octets spell rows of a set, whose segments begin at these places
pub record IsSpelledSet (octets : List ℕ) (starts : List ℕ) : Type 0 where
  pub rows : AreSetRows (rows_in_octets octets)
  pub spelled : octets ≡ set_octets (rows_in_octets octets)
  pub places : starts ≡ starts_from 4 (set_of (rows_in_octets octets))
  pub few : length (set_of (rows_in_octets octets)) < 2 ^ 32
