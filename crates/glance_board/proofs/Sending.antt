-- That a reader may go to another thread, by its parts, since one search through all of them runs out of steps.
use denote.RattleType.{RattleType}
use denote.Param.Send.{IsSend, IsSync, sendable}
use Rattle.std.proofs.Crossing.{crosses}
use Rattle.std.proofs.MapsCrossing as maps
use Rattle.glance_log.proofs.sight.Sight.TheSendSync as sight
use Rattle.left_right.proofs.reader.Factory.TheSendSync as factory
use Rattle.left_right.proofs.reader.Reader.TheSendSync as seat
use Rattle.shared_items.proofs.items.SharedItems.TheSendSync as shared
use Rattle.glance_board.proofs.listing.Listing.TheSendSync as listing
use Rattle.glance_board.proofs.reader.BoardReader.TheSendSync as board_reader
use Rattle.mdb_items.specs.contracts.calibration.Calibration as Calibration
use Rattle.mdb_items.specs.contracts.container.Container as Container
use Rattle.mdb_items.specs.contracts.name.MdbName as MdbName
use Rattle.mdb_items.specs.contracts.parameter.Parameter as Parameter
use Rattle.mdb_lookups.specs.contracts.numbered_children.NumberedChildren as NumberedChildren
use Rattle.mdb_model.specs.contracts.mdb.Inner as Inner
use Rattle.mdb_model.specs.contracts.mdb.Mdb as Mdb
use Rattle.param_segments.specs.contracts.set.SegSet as SegSet
use Rattle.shared_items.specs.contracts.items.SharedItems as SharedItems
use Rattle.glance_board.specs.declared.archived.Archived as archived
use Rattle.glance_board.specs.contracts.contents.Contents as Contents
use Rattle.glance_board.specs.contracts.contents.PublishedMark as PublishedMark
use Rattle.glance_board.specs.contracts.contents.PublishedMarkNumbered.TheImpl.{ghosts}
use Rattle.glance_board.specs.contracts.listing.Listing as Listing
use Rattle.glance_board.specs.contracts.reader.BoardReader as BoardReader

-- ---- the mission database
name_send : IsSend MdbName.the_row
name_send = search (crosses, sendable) depth 60

name_sync : IsSync MdbName.the_row
name_sync = search (crosses, sendable) depth 60

parameter_send : IsSend Parameter.the_row
parameter_send = search (crosses, name_send, sendable) depth 60

parameter_sync : IsSync Parameter.the_row
parameter_sync = search (crosses, name_sync, sendable) depth 60

calibration_send : IsSend Calibration.the_row
calibration_send = search (crosses, name_send, sendable) depth 60

calibration_sync : IsSync Calibration.the_row
calibration_sync = search (crosses, name_sync, sendable) depth 60

container_send : IsSend Container.the_row
container_send = search (crosses, name_send, sendable) depth 60

container_sync : IsSync Container.the_row
container_sync = search (crosses, name_sync, sendable) depth 60

numbered_send : IsSend NumberedChildren.the_row
numbered_send = search (maps.crosses, crosses, sendable) depth 60

numbered_sync : IsSync NumberedChildren.the_row
numbered_sync = search (maps.crosses, crosses, sendable) depth 60

inner_send : IsSend Inner.the_row
inner_send = search (crosses, parameter_send, calibration_send, container_send, numbered_send, sendable) depth 60

inner_sync : IsSync Inner.the_row
inner_sync = search (crosses, parameter_sync, calibration_sync, container_sync, numbered_sync, sendable) depth 60

mdb_send : IsSend Mdb.the_row
mdb_send = search (crosses, inner_send, inner_sync, sendable) depth 60

mdb_sync : IsSync Mdb.the_row
mdb_sync = search (crosses, inner_send, inner_sync, sendable) depth 60

-- ---- what a listing has
set_send : IsSend SegSet.the_row
set_send = search (crosses, sendable) depth 60

set_sync : IsSync SegSet.the_row
set_sync = search (crosses, sendable) depth 60

mark_send : IsSend PublishedMark.the_row
mark_send = search (crosses, set_send, set_sync, sendable) depth 60

mark_sync : IsSync PublishedMark.the_row
mark_sync = search (crosses, set_send, set_sync, sendable) depth 60

marks_send : IsSend (SharedItems.the_row PublishedMark.the_row ghosts)
marks_send = search (shared.the_send, crosses, mark_send, mark_sync, sendable) depth 60

marks_sync : IsSync (SharedItems.the_row PublishedMark.the_row ghosts)
marks_sync = search (shared.the_sync, crosses, mark_send, mark_sync, sendable) depth 60

contents_send : IsSend Contents.the_row
contents_send = search (crosses, mdb_send, mdb_sync, marks_send, sendable) depth 60

contents_sync : IsSync Contents.the_row
contents_sync = search (crosses, mdb_send, mdb_sync, marks_sync, sendable) depth 60

-- ---- listings, and who looks at them: whatever the archive is
pub listing_send : (X : RattleType) (stays : archived.Ghosts X.Denot) → IsSend (Listing.the_row X stays)
listing_send X stays = search (listing.the_send, sight.the_send, sight.the_sync, crosses, contents_send, contents_sync, sendable) depth 60

pub listing_sync : (X : RattleType) (stays : archived.Ghosts X.Denot) → IsSync (Listing.the_row X stays)
listing_sync X stays = search (listing.the_sync, sight.the_send, sight.the_sync, crosses, contents_send, contents_sync, sendable) depth 60

pub reader_send : (X : RattleType) (stays : archived.Ghosts X.Denot) → IsSend (BoardReader.the_row X stays)
reader_send X stays = search (board_reader.the_send, seat.the_send, factory.the_send, sight.the_send, crosses, listing_send, listing_sync, sendable) depth 60
