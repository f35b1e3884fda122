-- A dump that is read piece by piece.
use Rattle.std.proofs.Common.{◌≡◌, true, false, ℕ, ◌<◌, List, [], ◌++◌, length, take, drop, Option, Some, None, refl, sym, ap, ◌∙◌, append-nil}
use Rattle.std.specs.Prelude.{IfSome}
use Rattle.std.proofs.Math.Seq.{take-append_seam}
use Rattle.std.proofs.lemmas.List.{take-append-drop}
use Rattle.refusals.specs.declared.refusal.Which.TheVariants.{DumpOctets}
use Rattle.refusals.specs.Limits.{limit_of}
use Rattle.space_packet.specs.declared.dump.Why.{Why}
use Rattle.space_packet.specs.declared.dump.Why.TheVariants as why
use Rattle.outer_traits.specs.Whole.{IsTaken}
use Rattle.refusals.specs.declared.refusal.BadKind.TheVariants as bad
use Rattle.load_jobs.specs.declared.ending.LinkEnd.{LinkEnd}
use Rattle.load_jobs.specs.declared.ending.LinkEnd.TheVariants.{Whole, Rest, Unread, TooLong, Refused}
use Rattle.load_jobs.specs.Ends.{IsReadTo}
use Rattle.load_jobs.specs.Reading.{IsReadOf, is_version}

-- what is a version is that rest
pub at_version : (rest : Why) → is_version rest ≡ true → rest ≡ why.Version
at_version why.Version is = refl
at_version why.End is = absurd (cc is)
at_version why.Truncated is = absurd (cc is)

pub no_version_at : (rest : Why) → is_version rest ≡ false → rest ≡ why.Version → ⊥
no_version_at why.Version not is = cc not
no_version_at why.End not is = cc is
no_version_at why.Truncated not is = cc is

-- what was taken are the first octets
pub read_of : (first now : Option (List ℕ)) (read : List ℕ) → IsTaken first read now → IsReadOf first read
read_of None now read had = tt
read_of (Some octets) now read had = (had.0, sym had.1)

-- the first octets of more than the limit are those up to it
pub read_to_limit : (first : Option (List ℕ)) (read : List ℕ) → length read ≡ limit_of DumpOctets → IsReadOf first read → IfSome first (λ octets. length read < length octets)
    → IfSome first (λ octets. (limit_of DumpOctets < length octets) × (read ≡ take (limit_of DumpOctets) octets))
read_to_limit None read full of longer = tt
read_to_limit (Some octets) read full of longer = (
  rw full at longer,
  sym (take-append_seam read of.0) ∙ (ap (take (length read)) of.1 ∙ ap (λ (n : ℕ). take n octets) full),
)

-- those of a dump of which all were read
pub read_whole_of : (first : Option (List ℕ)) (read : List ℕ) → IfSome first (λ octets. octets ≡ read) → IsReadOf first read
read_whole_of None read all = tt
read_whole_of (Some octets) read all = ([], append-nil read ∙ sym all)

-- no octets are the first of any
pub nothing_read : (first : Option (List ℕ)) → IsReadOf first []
nothing_read None = tt
nothing_read (Some octets) = (octets, refl)

limit_of_longer : (left : Option (List ℕ)) (read : List ℕ) → IfSome left (λ octets. (limit_of DumpOctets < length octets) × (read ≡ take (limit_of DumpOctets) octets)) → IsReadOf left read
limit_of_longer None read to = tt
limit_of_longer (Some octets) read to = (drop (limit_of DumpOctets) octets, ap (λ (l : List ℕ). l ++ drop (limit_of DumpOctets) octets) to.1 ∙ take-append-drop (limit_of DumpOctets) octets)

-- however its link ended, what was read of a dump are its first octets
pub read_of_end : (left : Option (List ℕ)) (read : List ℕ) (end : LinkEnd) → IsReadTo left read end → IsReadOf left read
read_of_end left read (Whole summary) to = read_whole_of left read to
read_of_end left read (Rest at bad.Truncated) to = read_whole_of left read to
read_of_end left read (Rest at bad.Version) to = to
read_of_end left read (Unread refusal) to = to
read_of_end left read TooLong to = limit_of_longer left read to
read_of_end left read (Refused refusal) to = to
