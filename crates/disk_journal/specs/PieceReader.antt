-- A file that is read in pieces.
use Rattle.std.specs.Prelude.{◌≡◌, ℕ, ◌-◌, List, [], length, take, drop, nat_lt, if◌then◌else◌, Option, Some, None}
use Rattle.disk_journal.specs.declared.piece_reader.PieceReader.{PieceReader}

-- the octets of the piece that is kept; none where nothing was read
abbrev pub piece_octets : Option (List ℕ) → List ℕ
piece_octets None = []
piece_octets (Some octets) = octets

-- the octets of the piece from this place of the file on; none where the piece begins behind it
abbrev pub held_from : PieceReader → ℕ → List ℕ
held_from reader at = if nat_lt at reader.at then [] else drop (at - reader.at) (piece_octets reader.piece)

-- the piece is what a file of this content has at its place
abbrev pub IsPieceOf : PieceReader → List ℕ → Type 0
IsPieceOf reader content =
    piece_octets reader.piece ≡ take (length (piece_octets reader.piece)) (drop reader.at content)

-- the file has this content, as far as the reader tells
abbrev pub IsReading : PieceReader → List ℕ → Type 0
IsReading reader content = (reader.len ≡ length content) × IsPieceOf reader content
