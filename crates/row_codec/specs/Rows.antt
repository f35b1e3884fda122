-- Which rows may be stored, whatever stands beside them.
use Rattle.std.specs.Prelude.{◌≡◌, ◌<◌, ◌≤◌, ◌^◌, false}
use Rattle.arch_types.specs.declared.row.Row.{Row}
use Rattle.arch_types.specs.GenerationTime.{key_of}
use Rattle.text_forms.specs.ClockTime.{IsClockTime}
use Rattle.arch_types.specs.Packet.{IsPacket, is_idle}

-- a whole packet that isn't idle, received within the clock's range by a link from 1 to 255, with the key that it gives then
pub record IsStored (row : Row) : Type 0 where
  pub table : row.table < 2 ^ 8
  pub rectime : IsClockTime row.rectime
  pub link : (1 ≤ row.link) × (row.link < 2 ^ 8)
  pub pname : row.pname < 2 ^ 16
  pub packet : IsPacket row.packet
  pub kept : is_idle row.packet ≡ false
  pub key : row.key ≡ key_of row.packet row.rectime
