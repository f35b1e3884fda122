-- Room for what a packet says.
use Rattle.std.specs.Prelude.{◌≤◌, vec_capacity}
use Rattle.container_extract.specs.declared.raw_extraction.RawExtracted.{RawExtracted}

-- room for the values and the containers of any packet, as many as a path may have
pub record HasPacketRoom (x : RawExtracted) : Type 0 where
  pub values : 256 ≤ vec_capacity x.values
  pub containers : 32 ≤ vec_capacity x.chain
