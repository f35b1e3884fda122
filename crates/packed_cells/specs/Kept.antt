-- Cells that are kept.
use Rattle.std.specs.Prelude.{◌≡◌, ℕ, ◌+◌, ◌<◌, ◌≤◌, ◌^◌, ◌++◌, List, length, take, vec_capacity}
use Rattle.std.specs.Global.{Vec}
use Rattle.std.specs.List.{AllByRecursion}
use Rattle.std.specs.Int.{w64, w128}
use Rattle.std.specs.Int.RustNames.{FitsSigned}
use Rattle.arch_types.specs.declared.cell.Cell.{Cell}
use Rattle.arch_types.specs.declared.cell.Eng.{Eng}
use Rattle.arch_types.specs.declared.cell.Eng.TheVariants.{Fixed, Label}
use Rattle.packed_cells.specs.declared.reading.Before.{Before}
use Rattle.packed_cells.specs.Packed.{packed_behind, cells_octets, origin}

-- an engineering value of its widths
abbrev pub IsSizedEng : Eng → Type 0
IsSizedEng (Fixed millionths) = FitsSigned w64 millionths
IsSizedEng (Label row) = row < 2 ^ 16
IsSizedEng other = Unit {0}

-- a cell whose numbers are of their widths
pub record IsSizedCell (cell : Cell) : Type 0 where
  pub time : FitsSigned w64 cell.key.time
  pub seq : cell.key.seq < 2 ^ 32
  pub raw : FitsSigned w128 cell.raw
  pub eng : IsSizedEng cell.eng

-- so many cells are spelled by these octets, and this stands before the next
pub record AreKept (count : ℕ) (octets : List ℕ) (last : Before) : Type 0 where
  pub cells : List Cell
  pub all : length cells ≡ count
  pub sized : AllByRecursion IsSizedCell cells
  pub spelled : octets ≡ cells_octets origin cells
  pub next : last ≡ packed_behind origin cells

-- a buffer has room for octets behind its own
abbrev pub HasRoomFor : List ℕ → Vec ℕ → Type 0
HasRoomFor octets out = length out.items + length octets ≤ vec_capacity out

-- behind what was there stand the first of the cells that were to be added, and no others
pub record IsPartAdded (old cells new : List Cell) : Type 0 where
  pub added : ℕ
  pub some : added ≤ length cells
  pub kept : new ≡ old ++ take added cells
