-- What holds of the octets of a journal file.
use Rattle.std.specs.Prelude.{◌≡◌, ℕ, List}
use Rattle.disk_journal.specs.Format.{HasRecords}

-- a file has one list of records
abbrev pub RecordsAreOne : Type 0
RecordsAreOne = (file : List ℕ) (a b : List (List ℕ)) → HasRecords file a → HasRecords file b → a ≡ b
