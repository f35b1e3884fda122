use denote.Param.Send.{sendable}
use Rattle.live_archive.proofs.Sending.{held_send}
use Rattle.live_archive.proofs.laws.held_stores_are_sendable.Goals as goal

pub is_sendable-requires-send-T : goal.is_sendable-requires-send-T
is_sendable-requires-send-T g c κs within = let sent = c.type_bounds.send-D in search (held_send, sendable) depth 20
