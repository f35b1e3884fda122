-- Cells in octets, each by its differences to the one before.
use Rattle.std.specs.Prelude.{ℕ, zero, suc, ℤ, pos, negsuc, ◌+ℤ◌, ◌-ℤ◌, ◌+◌, ◌*◌, ◌/◌, ◌%◌, ◌^◌, neg_ℤ, nat_abs, Bool, ◌&&◌, List, [], ◌∷◌, ◌++◌, Option, Some, None, int_le, int_lt, nat_lt, ◌==◌, if◌then◌else◌}
use Rattle.std.specs.Int.{w8, w128}
use Rattle.arch_types.specs.declared.cell.Cell.{Cell}
use Rattle.arch_types.specs.declared.cell.Eng.{Eng}
use Rattle.arch_types.specs.declared.cell.Eng.TheVariants.{Fixed, Label, Undef, Whole}
use Rattle.octet_fields.specs.Reading.{Reader, both_at, kind_at, mapped_at, signed_at, tested_at}
use Rattle.octet_fields.specs.Spelling.{number, signed}
use Rattle.varints.specs.Varint.{short_varint_at, varint}
use Rattle.packed_cells.specs.declared.reading.Before.{Before}

-- ---- numbers

-- a whole number as a natural one: 0, -1, 1, -2, ..
abbrev pub zigzag : ℤ → ℕ
zigzag (pos n) = 2 * n
zigzag (negsuc n) = 2 * n + 1

-- back
abbrev pub unzigzag : ℕ → ℤ
unzigzag n = if n % 2 == 0 then pos (n / 2) else negsuc (n / 2)

-- a number of 64 bits, with a sign
abbrev pub is_of_64 : ℤ → Bool
is_of_64 x = int_le (neg_ℤ (pos (2 ^ 63))) x && int_lt x (pos (2 ^ 63))

-- one of 128
abbrev pub is_of_128 : ℤ → Bool
is_of_128 x = int_le (neg_ℤ (pos (2 ^ 127))) x && int_lt x (pos (2 ^ 127))

-- one of 32, without
abbrev pub is_of_32 : ℤ → Bool
is_of_32 x = int_le (pos 0) x && int_lt x (pos (2 ^ 32))

-- ---- what stands before a cell

-- before any
abbrev pub origin : Before
origin = record { time = pos 0; seq = 0; raw = pos 0; fixed = pos 0 }

-- the millionths of an engineering value that has some, or those before
abbrev pub fixed_after : ℤ → Eng → ℤ
fixed_after before (Fixed millionths) = millionths
fixed_after before other = before

-- before the next
abbrev pub packed_after : Before → Cell → Before
packed_after before cell = record {
  time = cell.key.time;
  seq = cell.key.seq;
  raw = cell.raw;
  fixed = fixed_after before.fixed cell.eng;
}

-- ---- the spelling

-- a number by its difference to one before
abbrev pub step : ℤ → ℤ → List ℕ
step before x = varint (zigzag (x -ℤ before))

-- whether a number is so small that a difference of two such is a varint of at most 14 octets
abbrev pub is_small : ℤ → Bool
is_small x = int_le (neg_ℤ (pos (2 ^ 96))) x && int_lt x (pos (2 ^ 96))

-- whether a raw number is spelled by its difference to the one before
abbrev pub is_raw_near : ℤ → ℤ → Bool
is_raw_near before raw = is_small before && is_small raw

-- a raw number, by its difference to the one before, or whole
abbrev pub raw_octets : ℤ → ℤ → List ℕ
raw_octets before raw = if is_raw_near before raw then step before raw else signed w128 raw

-- the kind of an engineering value
abbrev pub eng_kind : Eng → ℕ
eng_kind Whole = 0
eng_kind Undef = 1
eng_kind (Fixed millionths) = 2
eng_kind (Label row) = 3

-- what is spelled of it
abbrev pub eng_octets : ℤ → Eng → List ℕ
eng_octets before Whole = []
eng_octets before Undef = []
eng_octets before (Fixed millionths) = step before millionths
eng_octets before (Label row) = varint row

-- the kind of a cell: that of its engineering value, and whether its raw number is whole
abbrev pub packed_kind_of : Before → Cell → ℕ
packed_kind_of before cell = eng_kind cell.eng + (if is_raw_near before.raw cell.raw then 0 else 4)

-- the kind and the key of a cell, behind what stands before it
abbrev pub key_octets : Before → Cell → List ℕ
key_octets before cell =
    number w8 (packed_kind_of before cell) ++ (step before.time cell.key.time ++ step (pos before.seq) (pos cell.key.seq))

-- its values
abbrev pub value_octets : Before → Cell → List ℕ
value_octets before cell = raw_octets before.raw cell.raw ++ eng_octets before.fixed cell.eng

-- the cell
unfoldable pub cell_octets : Before → Cell → List ℕ
cell_octets before cell = key_octets before cell ++ value_octets before cell

-- cells, one after the other
abbrev pub cells_octets : Before → List Cell → List ℕ
cells_octets before [] = []
cells_octets before (cell ∷ cells) = cell_octets before cell ++ cells_octets (packed_after before cell) cells

-- what stands before the next of them
abbrev pub packed_behind : Before → List Cell → Before
packed_behind before [] = before
packed_behind before (cell ∷ cells) = packed_behind (packed_after before cell) cells

-- ---- the reader

-- reads a number by its difference to one before
abbrev pub sum_at : ℤ → Reader ℤ
sum_at before = mapped_at (λ n. before +ℤ unzigzag n) short_varint_at

-- the same of a number that passes a test
abbrev pub step_at : (ℤ → Bool) → ℤ → Reader ℤ
step_at fits before = tested_at fits (sum_at before)

-- reads a raw number
abbrev pub packed_raw_at : ℤ → ℕ → Reader ℤ
packed_raw_at before kind = if nat_lt kind 4 then step_at is_of_128 before else signed_at w128

-- reads an engineering value
abbrev pub eng_of_kind : ℤ → ℕ → Reader Eng
eng_of_kind before zero octets = Some (Whole, octets)
eng_of_kind before (suc zero) octets = Some (Undef, octets)
eng_of_kind before (suc (suc zero)) octets = mapped_at Fixed (step_at is_of_64 before) octets
eng_of_kind before (suc (suc (suc n))) octets =
    mapped_at Label (tested_at (λ row. nat_lt row (2 ^ 16)) short_varint_at) octets

-- reads a key: its time and its number
abbrev pub key_at : Before → Reader (ℤ × ℤ)
key_at before = both_at (step_at is_of_64 before.time) (λ _. step_at is_of_32 (pos before.seq))

-- reads the values of a cell of a kind
abbrev pub value_at : Before → ℕ → Reader (ℤ × Eng)
value_at before kind = both_at (packed_raw_at before.raw kind) (λ _. eng_of_kind before.fixed (kind % 4))

-- the cell of a key and values
abbrev pub packed_cell_of : (ℤ × ℤ) × (ℤ × Eng) → Cell
packed_cell_of p = record { key = record { time = p.0.0; seq = nat_abs p.0.1 }; raw = p.1.0; eng = p.1.1 }

-- reads what stands behind the kind of a cell
abbrev pub packed_fields_at : Before → ℕ → Reader Cell
packed_fields_at before kind = mapped_at packed_cell_of (both_at (key_at before) (λ _. value_at before kind))

-- reads a cell
unfoldable pub packed_cell_at : Before → Reader Cell
packed_cell_at before = kind_at (packed_fields_at before)

-- what was read, with what reads the others
abbrev pub read_on : (Before → List ℕ → List Cell) → Before → Option (Cell × List ℕ) → List Cell
read_on more before None = []
read_on more before (Some x) = x.0 ∷ more (packed_after before x.0) x.1

-- so many cells, or those up to where none is read
abbrev pub cells_in : ℕ → Before → List ℕ → List Cell
cells_in zero before octets = []
cells_in (suc count) before octets = read_on (cells_in count) before (packed_cell_at before octets)
