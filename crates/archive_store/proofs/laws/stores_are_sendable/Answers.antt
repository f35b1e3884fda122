use denote.Param.Send.{sendable}
use Rattle.archive_store.proofs.Sending.{store_send}
use Rattle.archive_store.proofs.laws.stores_are_sendable.Goals as goal

pub is_sendable-requires-send-T : goal.is_sendable-requires-send-T
is_sendable-requires-send-T g c κs within = let sent = c.type_bounds.send-D in search (store_send, sendable) depth 20
