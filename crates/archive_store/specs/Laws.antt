-- What holds of replays, of stores, and of limits.
use Rattle.std.specs.Prelude.{◌≡◌, ◌≤◌, List, length, None}
use mathlib.Core.List.{IsPrefix}
use Rattle.arch_disk.specs.Image.{Image}
use Rattle.history_items.specs.declared.items.Item.{Item}
use Rattle.history_items.specs.declared.fills.Fill.{Fill}
use Rattle.history_items.specs.Fills.{pending_fault_of, unacknowledged_in}
use Rattle.replay_merge.specs.Cursor.{CursorView, rest_of}
use Rattle.archive_history.specs.RowLimits.{row_limit}
use Rattle.archive_history.specs.declared.row_limit.RowLimit.{RowLimit}
use Rattle.refusals.specs.Limits.{limit_of}
use Rattle.archive_store.specs.Limits.{limit_of_history}
use Rattle.archive_images.specs.Entries.{FilledArchive}
use Rattle.archive_store.specs.Replays.{rows_below}
use Rattle.archive_images.specs.Stands.{StandsFilled}
use Rattle.archive_store.specs.StoreView.{IsNow}

-- what is left of a replay is the same over a history that grew behind its front: it gives none of the rows that came
abbrev pub ReplaysKeepTheirFront : Type 0
ReplaysKeepTheirFront =
    (c : CursorView) (history later : List Item) → c.front ≤ length history → IsPrefix history later →
    rest_of c (rows_below later) ≡ rest_of c (rows_below history)

-- while no failed write is pending, a crash now leaves the archive with its fills, and nothing else
abbrev pub CalmStoresAreKept : Type 0
CalmStoresAreKept = (filled : FilledArchive) (fills : List Fill) (image : Image) →
    pending_fault_of fills ≡ None → IsNow filled (unacknowledged_in fills) image → StandsFilled image filled

-- the limits of a history are those of the archive
abbrev pub HistoryLimitsAgree : Type 0
HistoryLimitsAgree = (limit : RowLimit) → row_limit limit ≡ limit_of (limit_of_history limit)
