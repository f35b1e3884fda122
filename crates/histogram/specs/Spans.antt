-- The records of a histogram.
use Rattle.std.specs.Prelude.{◌+◌, Bool, List, [], ◌∷◌, length, map, nat_le, ℤ, pos, ◌-ℤ◌, unsigned_abs, if◌then◌else◌}
use Rattle.arch_types.specs.declared.spans.Span.{Span}

-- neighbours that differ by at most 60,000 ms
abbrev pub is_near : ℤ → ℤ → Bool
is_near earlier later = nat_le (unsigned_abs (later -ℤ earlier)) 60_000

-- a time before the pieces of the later times: in the first piece, where it is near it, or in a piece of its own
abbrev pub with_first : ℤ → List (List ℤ) → List (List ℤ)
with_first time [] = (time ∷ []) ∷ []
with_first time ([] ∷ pieces) = (time ∷ []) ∷ pieces
with_first time ((next ∷ piece) ∷ pieces) =
    if is_near time next then (time ∷ next ∷ piece) ∷ pieces else ((time ∷ []) ∷ (next ∷ piece) ∷ pieces)

-- sorted times, cut between neighbours that aren't near
abbrev pub pieces_of : List ℤ → List (List ℤ)
pieces_of [] = []
pieces_of (time ∷ times) = with_first time (pieces_of times)

-- the last of a time and those after it
abbrev pub last_time : ℤ → List ℤ → ℤ
last_time time [] = time
last_time time (next ∷ times) = last_time next times

-- the first and the last time of a piece, and how many there are
abbrev pub span_of : List ℤ → Span
span_of [] = record { first = pos 0; last = pos 0; count = 0 }
span_of (time ∷ times) = record { first = time; last = last_time time times; count = length times + 1 }

-- the histogram of sorted times: each piece as its first and last time and their number
abbrev pub histogram_of : List ℤ → List Span
histogram_of times = map span_of (pieces_of times)
