-- More times among the records of a packet name.
use Rattle.std.specs.Prelude.{◌+◌, Bool, List, [], ◌∷◌, ℤ, pos, ◌+ℤ◌, int_lt, if◌then◌else◌}
use Rattle.std.specs.Int.{int_min, int_max}
use Rattle.arch_types.specs.declared.spans.Span.{Span}

-- a time more than 60,000 ms after another
abbrev pub is_apart : ℤ → ℤ → Bool
is_apart earlier later = int_lt (earlier +ℤ pos 60_000) later

-- the record of one time
abbrev pub span_of_time : ℤ → Span
span_of_time time = record { first = time; last = time; count = 1 }

-- two records as one
abbrev pub joined : Span → Span → Span
joined a b = record { first = int_min a.first b.first; last = int_max a.last b.last; count = a.count + b.count }

-- a record, joined with each at the head of others that begins no more than 60,000 ms after a time
abbrev pub joined_near : ℤ → Span → List Span → List Span
joined_near time span [] = span ∷ []
joined_near time span (next ∷ spans) =
    if is_apart time next.first then span ∷ next ∷ spans else joined_near time (joined span next) spans

-- records, with one that holds times put in: past those that end more than 60,000 ms before the times begin, joined with those near
-- them
abbrev pub with_span : Span → Span → List Span → List Span
with_span at span [] = span ∷ []
with_span at span (next ∷ spans) =
    if is_apart next.last at.first then next ∷ with_span at span spans else joined_near at.last span (next ∷ spans)
