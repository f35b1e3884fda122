-- How much text the line buffer holds.
use Rattle.std.specs.Prelude.{ℕ, ◌+◌, ◌<◌, ◌≤◌, List, length}

-- the octets from which on the text makes a piece, which is written
abbrev pub piece_length : ℕ
piece_length = 65536

-- the octets that the longest line may take
abbrev pub longest_line : ℕ
longest_line = 512

-- the octets that the longest number may take, with its sign
abbrev pub longest_number : ℕ
longest_number = 40

-- all octets for which there is room
abbrev pub buffer_length : ℕ
buffer_length = piece_length + longest_line

-- the text makes no piece, so that there is room for any line behind it
abbrev pub HasLineRoom : List ℕ → Type 0
HasLineRoom text = length text < piece_length

-- there is room for so many octets behind the text
abbrev pub HasRoomFor : ℕ → List ℕ → Type 0
HasRoomFor octets text = length text + octets ≤ buffer_length
