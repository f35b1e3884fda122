-- The records of packet names, as an index has them.
use Rattle.std.specs.Prelude.{◌≡◌, ℕ, ◌+◌, ◌^◌, ◌≤◌, ◌==◌, ◌≢◌, List, [], ◌∷◌, Option, Some, None, true, pos, neg_ℤ, ◌≤ℤ◌, ◌-ℤ◌, if◌then◌else◌}
use Rattle.std.specs.List.{AllByRecursion}
use Rattle.std.specs.Int.{int_max}
use Rattle.std.specs.Ordering.{is_le}
use Rattle.std.specs.declared.cmp.Ordering.TheVariants.{Less}
use Rattle.arch_types.specs.declared.spans.Span.{Span}
use Rattle.block_map.specs.Index.{Listing}
use Rattle.block_map.specs.Rising.{IsRising}
use Rattle.histogram.specs.declared.histogram.NamedTime.{NamedTime}
use Rattle.histogram.specs.declared.near.SpanStart.{SpanStart}
use Rattle.histogram.specs.Times.{named_time_cmp}
use Rattle.histogram.specs.Near.{is_apart, with_span}

-- an entry as a record
abbrev pub span_at : NamedTime × SpanStart → Span
span_at e = record { first = e.1.first; last = e.0.time; count = e.1.count }

-- the same, beside its packet name
abbrev pub named_span : NamedTime × SpanStart → ℕ × Span
named_span e = (e.0.pname, span_at e)

-- the records of one packet name among entries
abbrev pub spans_in : ℕ → List (NamedTime × SpanStart) → List Span
spans_in pname [] = []
spans_in pname (e ∷ entries) = if e.0.pname == pname then span_at e ∷ spans_in pname entries else spans_in pname entries

-- how many times all records have
abbrev pub total : List (NamedTime × SpanStart) → ℕ
total [] = 0
total (e ∷ entries) = e.1.count + total entries

-- a record ends no earlier than it begins, and not below the least of an `i64`
abbrev pub IsSpanEntry : NamedTime × SpanStart → Type 0
IsSpanEntry e = (neg_ℤ (pos (2 ^ 63)) ≤ℤ e.0.time) × (e.1.first ≤ℤ e.0.time)

-- the least place of a record of a packet name that ends no more than 60,000 ms before times begin
abbrev pub earliest_key : ℕ → Span → NamedTime
earliest_key pname at = record { pname = pname; time = int_max (at.first -ℤ pos 60_000) (neg_ℤ (pos (2 ^ 63))) }

-- the record at the head, where it is of this packet name and begins no more than 60,000 ms after times end
abbrev pub near_span : ℕ → Span → List (NamedTime × SpanStart) → Option Span
near_span pname at [] = None
near_span pname at (e ∷ entries) =
    if e.0.pname == pname then (if is_apart at.last e.1.first then None else (Some (span_at e))) else None

-- the place of a record
abbrev pub last_key : ℕ → Span → NamedTime
last_key pname span = record { pname = pname; time = span.last }

-- an entry that isn't near times comes before them, or after a record that holds them
abbrev pub IsClear : ℕ → Span → Span → NamedTime × SpanStart → Type 0
IsClear pname at span e =
    is_le (named_time_cmp (earliest_key pname at) e.0) ≡ true → near_span pname at (e ∷ []) ≡ None → named_time_cmp (last_key pname span) e.0 ≡ Less

-- the record of times with records that were taken out, which put in gives what the times put in gave before
pub record HasTakenNear (pname : ℕ) (at : Span) (old new : Listing NamedTime SpanStart) (span : Span) : Type 0 where
  pub own : with_span at span (spans_in pname new.entries) ≡ with_span at at (spans_in pname old.entries)
  pub others : (other : ℕ) → other ≢ pname → spans_in other new.entries ≡ spans_in other old.entries
  pub rising : IsRising named_time_cmp new.entries
  pub whole : AllByRecursion IsSpanEntry new.entries
  pub clear : AllByRecursion (IsClear pname at span) new.entries
  pub ordered : span.first ≤ℤ span.last
  pub holds : at.last ≤ℤ span.last
  pub counted : total new.entries + span.count ≡ total old.entries + at.count
  pub room : old.room ≤ new.room

-- the records of a packet name have these times too, and those of others are as before
pub record HasPut (pname : ℕ) (at : Span) (old new : Listing NamedTime SpanStart) : Type 0 where
  pub own : spans_in pname new.entries ≡ with_span at at (spans_in pname old.entries)
  pub others : (other : ℕ) → other ≢ pname → spans_in other new.entries ≡ spans_in other old.entries
  pub rising : IsRising named_time_cmp new.entries
  pub whole : AllByRecursion IsSpanEntry new.entries
  pub counted : total new.entries ≡ total old.entries + at.count
  pub room : old.room ≤ new.room + 1
