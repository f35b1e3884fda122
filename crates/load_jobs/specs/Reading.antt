-- How far a dump was read.
use Rattle.std.specs.Prelude.{◌≡◌, ◌⊎◌, ℕ, ◌<◌, Bool, true, false, List, length, Option, IfSome}
use mathlib.Core.List.{IsPrefix}
use Rattle.refusals.specs.declared.refusal.Which.TheVariants.{DumpOctets}
use Rattle.refusals.specs.Limits.{limit_of}
use Rattle.outer_traits.specs.Outside.{HasRisen, Stays}
use Rattle.outer_traits.specs.Whole.{IsTaken}
use Rattle.space_packet.specs.declared.dump.Why.{Why}
use Rattle.space_packet.specs.declared.dump.Why.TheVariants as why
use Rattle.space_packet.specs.Rest.{why_of}
use Rattle.load_jobs.specs.declared.reading.ReadingEnd.{ReadingEnd}
use Rattle.load_jobs.specs.declared.reading.ReadingEnd.TheVariants.{NoMore, Failed, TooLong}

-- the octets that wait begin with another packet version number than 000
abbrev pub is_version : Why → Bool
is_version why.Version = true
is_version other = false

-- Why no more is read of a dump of which these octets were, so that those are left, and what waits of them: it ended
-- here, or another packet version number than 000 waits; or none does, and it goes on behind the limit; or a read
-- failed, and these octets are all that were taken.
abbrev pub IsReadingEnd : Option (List ℕ) → Option (List ℕ) → List ℕ → List ℕ → ReadingEnd → Type 0
IsReadingEnd left left' read waits NoMore = IfSome left (λ octets. octets ≡ read) ⊎ (why_of waits ≡ why.Version)
IsReadingEnd left left' read waits TooLong =
    (length read ≡ limit_of DumpOctets) × (why_of waits ≡ why.Version → ⊥)
    × IfSome left (λ octets. length read < length octets)
IsReadingEnd left left' read waits Failed = IsTaken left read left'

-- the count of a source's faults has risen where a read failed, and else is as before
abbrev pub IsReadingCounted : ReadingEnd → ℕ → ℕ → Type 0
IsReadingCounted Failed before now = HasRisen before now
IsReadingCounted other before now = Stays before now

-- these octets are the first of those that were left, where they are known
abbrev pub IsReadOf : Option (List ℕ) → List ℕ → Type 0
IsReadOf left read = IfSome left (IsPrefix read)
