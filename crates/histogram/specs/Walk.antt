-- The records of a packet name, one after the other.
use Rattle.std.specs.Prelude.{◌≡◌, ℕ, ◌<◌, ◌≤◌, List, ◌∷◌, length}
use Rattle.std.specs.List.{AllByRecursion}
use Rattle.block_map.specs.Rising.{IsRising}
use Rattle.arch_types.specs.declared.spans.Span.{Span}
use Rattle.histogram.specs.declared.histogram.NamedTime.{NamedTime}
use Rattle.histogram.specs.declared.near.SpanStart.{SpanStart}
use Rattle.histogram.specs.Times.{named_time_cmp}
use Rattle.histogram.specs.SpanEntries.{spans_in}

-- entries in their order, none of a packet name below this one
pub record AreAhead (pname : ℕ) (entries : List (NamedTime × SpanStart)) : Type 0 where
  pub rising : IsRising named_time_cmp entries
  pub names : AllByRecursion (λ e. pname ≤ e.0.pname) entries

-- the next record of a name, before those of the entries that are left
pub record IsNext (pname : ℕ) (old new : List (NamedTime × SpanStart)) (span : Span) : Type 0 where
  pub spans : spans_in pname old ≡ span ∷ spans_in pname new
  pub shorter : length new < length old
