-- That a store may go to another thread, by its parts, since one search through all of them runs out of steps.
use denote.RattleType.{RattleType}
use denote.Param.Send.{IsSend, IsSync, sendable}
use Rattle.std.proofs.Crossing.{crosses}
use Rattle.std.proofs.MapsCrossing as maps
use Rattle.arch_disk.specs.declared.disk.Disk as disk
use Rattle.arch_types.specs.contracts.row.Row as Row
use Rattle.fill_tracker.specs.contracts.tracker.FillTracker as FillTracker
use Rattle.history_items.specs.contracts.fills.Fill as Fill
use Rattle.archive_history.proofs.Sending.{history_send}
use Rattle.archive_store.specs.contracts.store.Store as Store
use Rattle.late_marks.specs.contracts.marks.LateMarks as LateMarks
use Rattle.mdb_items.specs.contracts.calibration.Calibration as Calibration
use Rattle.mdb_items.specs.contracts.container.Container as Container
use Rattle.mdb_lookups.specs.contracts.numbered_children.NumberedChildren as NumberedChildren
use Rattle.mdb_model.specs.contracts.mdb.Inner as Inner
use Rattle.mdb_model.specs.contracts.mdb.Mdb as Mdb
use Rattle.mdb_items.specs.contracts.name.MdbName as MdbName
use Rattle.mdb_items.specs.contracts.parameter.Parameter as Parameter
use Rattle.param_segments.specs.contracts.set.SegSet as SegSet
use Rattle.store_fills.specs.contracts.last_fills.LastFills as FilledSets
use Rattle.store_fills.specs.contracts.last_fills.LastFill as OneFill

-- ---- the mission database, which plans share
name_send : IsSend MdbName.the_row
name_send = search (crosses, sendable) depth 60

name_sync : IsSync MdbName.the_row
name_sync = search (crosses, sendable) depth 60

parameter_send : IsSend Parameter.the_row
parameter_send = search (crosses, name_send, sendable) depth 60

parameter_sync : IsSync Parameter.the_row
parameter_sync = search (crosses, name_sync, sendable) depth 60

calibration_send : IsSend Calibration.the_row
calibration_send = search (crosses, name_send, sendable) depth 60

calibration_sync : IsSync Calibration.the_row
calibration_sync = search (crosses, name_sync, sendable) depth 60

container_send : IsSend Container.the_row
container_send = search (crosses, name_send, sendable) depth 60

container_sync : IsSync Container.the_row
container_sync = search (crosses, name_sync, sendable) depth 60

numbered_send : IsSend NumberedChildren.the_row
numbered_send = search (maps.crosses, crosses, sendable) depth 60

numbered_sync : IsSync NumberedChildren.the_row
numbered_sync = search (maps.crosses, crosses, sendable) depth 60

inner_send : IsSend Inner.the_row
inner_send = search (crosses, parameter_send, calibration_send, container_send, numbered_send, sendable) depth 60

inner_sync : IsSync Inner.the_row
inner_sync = search (crosses, parameter_sync, calibration_sync, container_sync, numbered_sync, sendable) depth 60

pub mdb_send : IsSend Mdb.the_row
mdb_send = search (crosses, inner_send, inner_sync, sendable) depth 60

pub mdb_sync : IsSync Mdb.the_row
mdb_sync = search (crosses, inner_send, inner_sync, sendable) depth 60

-- ---- the history
row_send : IsSend Row.the_row
row_send = search (crosses, sendable) depth 60

fill_send : IsSend Fill.the_row
fill_send = search (crosses, row_send, sendable) depth 60 fits 10000

marks_send : IsSend LateMarks.the_row
marks_send = search (crosses, sendable) depth 60 fits 10000

tracker_send : IsSend FillTracker.the_row
tracker_send = search (crosses, fill_send, marks_send, sendable) depth 60

-- ---- the fills
pub set_send : IsSend SegSet.the_row
set_send = search (crosses, sendable) depth 60

pub set_sync : IsSync SegSet.the_row
set_sync = search (crosses, sendable) depth 60

last_send : IsSend OneFill.the_row
last_send = search (crosses, set_send, set_sync, sendable) depth 60

sets_send : IsSend FilledSets.the_row
sets_send = search (crosses, last_send, sendable) depth 60

-- ---- the store: it may go where its disk may
pub store_send : (D : RattleType) (device : disk.Ghosts D.Denot) → IsSend D → IsSend (Store.the_row D device)
store_send D device sent = search (crosses, mdb_send, mdb_sync, history_send, tracker_send, sets_send, sendable) depth 60
