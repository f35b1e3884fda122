-- That a pass or a glance may go to another thread, and an archive be shared, where the store may go to one.
use denote.RattleType.{RattleType}
use denote.Param.Send.{IsSend, sendable}
use Rattle.std.proofs.Crossing.{crosses}
use Rattle.glance_board.specs.declared.archived.Archived as archived
use Rattle.glance.specs.contracts.reader.Glance as Glance
use Rattle.glance.proofs.reader.Glance.TheSendSync as glance
use Rattle.turn_cell.proofs.cell.Pass.TheSendSync as pass
use Rattle.live_archive.proofs.live.LiveOver.TheSendSync as live
use Rattle.live_archive.proofs.Sending.{held_send}

pub glance_send : (X : RattleType) (stays : archived.Ghosts X.Denot) → IsSend (Glance.the_row X stays)
glance_send X stays = search (glance.the_send, crosses, sendable) depth 60

pub ruleset goes = (held_send, glance_send, pass.the_send, live.the_sync, crosses, sendable)
