-- Fills are read exactly, to the end of the octets.
use Rattle.std.proofs.Common.{◌≡◌, ℕ, ◌+◌, List, ◌++◌, length, arith}
use Rattle.std.specs.Int.{w8}
use Rattle.octet_fields.specs.Exact.{IsExactAtEnd}
use Rattle.octet_fields.specs.Spelling.{number, signed}
use Rattle.octet_fields.proofs.Exact.{IsExact-both, IsExact-rest}
use Rattle.octet_fields.proofs.Numbers.{exact64, exact_i64}
use Rattle.intervals.specs.declared.interval.Interval.{Interval}
use Rattle.field_codec.specs.Entries.{IsFill}
use Rattle.field_codec.specs.Reading.{fill_at}
use Rattle.field_codec.specs.Spelling.{fill_fields_octets, fill_octets}

pub fill_exact : IsExactAtEnd IsFill fill_fields_octets fill_at
unfolding fill_at
fill_exact = IsExact-both exact_i64 (λ i fits. IsExact-both exact64 (λ base small. IsExact-rest))

pub fill_size : (interval : Interval) (base : ℕ) (set : List ℕ) → length (number w8 3 ++ fill_octets interval base set) ≡ 17 + length set
unfolding number signed
fill_size interval base set = omega arith
