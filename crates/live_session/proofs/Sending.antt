-- That the parts of a job may go to another thread, or be shared.
use denote.RattleType.{RattleType}
use denote.Param.Send.{IsSend, IsSync, sendable}
use Rattle.std.proofs.Crossing.{crosses}
use Rattle.refusals.specs.contracts.refusal.Refusal as Refusal
use Rattle.archive_images.specs.contracts.head.Head as Head
use Rattle.archive_store.proofs.Sending.{mdb_send, mdb_sync}
use Rattle.retrieval.specs.contracts.found_asks.FoundAsk as FoundAsk
use Rattle.stream_graph.specs.contracts.graph.Graph as Graph
use Rattle.load_jobs.specs.contracts.ending.LinkEnd as LinkEnd
use Rattle.load_jobs.proofs.ending.LinkEnd.TheSendSync as link_end
use Rattle.glance_board.specs.declared.archived.Archived as archived
use Rattle.glance.specs.contracts.reader.Glance as Glance
use Rattle.glance.proofs.reader.Glance.TheSendSync as glance
use Rattle.live_asks.specs.contracts.answered.AskAnswer as AskAnswer
use Rattle.live_session.proofs.job.SessionJob.TheSendSync as job
use Rattle.live_session.proofs.job.SessionJobDone.TheSendSync as job_done
use Rattle.live_session.proofs.order.JobEnd.TheSendSync as job_end
use Rattle.live_session.proofs.order.Order.TheSendSync as order
use Rattle.live_session.proofs.order.Setting.TheSendSync as setting
use Rattle.live_archive.proofs.Sending.{held_send}
use Rattle.live_archive.proofs.live.LiveOver.TheSendSync as live
use Rattle.turn_cell.proofs.cell.Pass.TheSendSync as pass

pub refusal_send : IsSend Refusal.the_row
refusal_send = search (crosses, sendable) depth 60 fits 100000

pub end_send : IsSend LinkEnd.the_row
end_send = link_end.the_send

pub answer_send : IsSend AskAnswer.the_row
answer_send = search (crosses, sendable) depth 60 fits 10000

pub head_sync : IsSync Head.the_row
head_sync = search (crosses, mdb_sync, sendable) depth 60

pub graph_sync : IsSync Graph.the_row
graph_sync = search (crosses, sendable) depth 60 fits 10000

pub ask_sync : IsSync FoundAsk.the_row
ask_sync = search (crosses, mdb_send, mdb_sync, sendable) depth 60 fits 10000

pub glance_send : (X : RattleType) (stays : archived.Ghosts X.Denot) → IsSend (Glance.the_row X stays)
glance_send X stays = search (glance.the_send, crosses, sendable) depth 60

pub ruleset goes = (job.the_send, glance_send, job_done.the_send, job_end.the_send, order.the_send, setting.the_sync, held_send, pass.the_send, live.the_sync, refusal_send, end_send, answer_send, head_sync, graph_sync, ask_sync, mdb_send, mdb_sync, crosses, sendable)
