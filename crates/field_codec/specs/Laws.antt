-- What holds of the spellings of entries.
use Rattle.std.specs.Prelude.{◌≡◌, ℕ, ◌+◌, ◌<◌, ◌^◌, List, length}
use Rattle.std.specs.List.{AllByRecursion}
use Rattle.octet_fields.specs.Exact.{IsOctets}
use Rattle.field_codec.specs.declared.entry.Entry.{Entry}
use Rattle.field_codec.specs.declared.entry.Entry.TheVariants.{Head, Rows, Fill, Seal, LogHead}
use Rattle.field_codec.specs.Entries.{IsArchiveEntry}
use Rattle.field_codec.specs.Spelling.{entry_octets}

-- no two entries have one spelling
abbrev pub SpellingsAreOne : Type 0
SpellingsAreOne = (a b : Entry) → IsArchiveEntry a → IsArchiveEntry b → entry_octets a ≡ entry_octets b → a ≡ b

-- its packets are octets, as those of each value of the type are
abbrev pub HasOctets : Entry → Type 0
HasOctets (Head tables mdb) = Unit {0}
HasOctets (Rows rows) = AllByRecursion (λ row. IsOctets row.packet) rows
HasOctets (Fill interval base set) = IsOctets set
HasOctets (Seal seal) = Unit {0}
HasOctets (LogHead rows) = Unit {0}

-- the set of a fill is short enough for a record
abbrev pub HasShortSet : Entry → Type 0
HasShortSet (Head tables mdb) = Unit {0}
HasShortSet (Rows rows) = Unit {0}
HasShortSet (Fill interval base set) = 17 + length set < 2 ^ 30
HasShortSet (Seal seal) = Unit {0}
HasShortSet (LogHead rows) = Unit {0}

-- a spelling is short enough for a record of the journal
abbrev pub SpellingsAreShort : Type 0
SpellingsAreShort = (entry : Entry) → IsArchiveEntry entry → HasOctets entry → HasShortSet entry →
    length (entry_octets entry) < 2 ^ 30
