use denote.Param.Send.{sendable}
use Rattle.glance_board.proofs.Sending.{reader_send}
use Rattle.glance_board.proofs.laws.readers_are_sendable.Goals as goal

pub is_sendable-requires-send-T : goal.is_sendable-requires-send-T
is_sendable-requires-send-T g c κs within = search (reader_send, sendable) depth 20
