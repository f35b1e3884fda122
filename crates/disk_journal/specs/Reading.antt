-- A reading of a journal's file, record after record.
use Rattle.std.specs.Prelude.{◌≡◌, ℕ, ◌+◌, ◌<◌, ◌≤◌, ◌^◌, List, ◌∷◌, ◌++◌, length, get_or, take, drop, None}
use Rattle.std.specs.Int.{w32, to_be_bytes, from_be_bytes}
use Rattle.disk_journal.specs.Format.{written, HasUpTo}
use Rattle.disk_journal.specs.PieceReader.{IsPieceOf}
use Rattle.disk_journal.specs.State.{extents_from, unhealed_fault}
use Rattle.disk_journal.specs.declared.journal.Extent.{Extent}
use Rattle.disk_journal.specs.declared.journal.Journal.{Journal}
use Rattle.disk_journal.specs.declared.opening.Opening.{Opening}

-- the octet at which the next record's gate stands
abbrev pub gate_of : Opening → ℕ
gate_of opening = opening.at

-- the file that is being opened
abbrev pub file_read : Opening → ℕ
file_read opening = opening.reader.file

-- so far these bodies were read; where there are none yet, the gate is known to be open
pub record IsAt (opening : Opening) (content : List ℕ) (bodies : List (List ℕ)) : Type 0 where
  pub extents : opening.extents.items ≡ extents_from 0 bodies
  pub up_to : HasUpTo content opening.at bodies
  pub len : opening.reader.len ≡ length content
  pub inside : opening.at < opening.reader.len
  pub piece : IsPieceOf opening.reader content
  pub begins_open : opening.at ≡ 0 → get_or content opening.at 0 ≡ 1

-- a whole record with an open gate stands at this octet, and its body there
pub record IsWholeAt (content : List ℕ) (at : ℕ) (extent : Extent) : Type 0 where
  pub gate : get_or content at 0 ≡ 1
  pub body_at : extent.at ≡ at + 5
  pub number : to_be_bytes w32 extent.len ≡ take 4 (drop (at + 1) content)
  pub small : extent.len < 2 ^ 32
  pub fits : at + 5 + extent.len < length content

-- behind these records an open one, with the gate octet after it, passes the end
pub record IsCutShortAt (content : List ℕ) (bodies : List (List ℕ)) : Type 0 where
  pub rest : List ℕ
  pub file_is : content ≡ written bodies ++ 1 ∷ rest
  pub short : length rest ≤ 4 + from_be_bytes w32 (take 4 rest)

-- the journal of the records that were read
pub record IsReadJournal (opening : Opening) (journal : Journal) : Type 0 where
  pub file : journal.file ≡ opening.reader.file
  pub extents : journal.extents.items ≡ opening.extents.items
  pub end : journal.end ≡ opening.at
  pub no_pending_fault : unhealed_fault journal ≡ None
