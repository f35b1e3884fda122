-- The limits of an archive.
use Rattle.std.proofs.Common.{◌≡◌, refl}
use Rattle.archive_history.specs.RowLimits.{row_limit}
use Rattle.archive_history.specs.declared.row_limit.RowLimit.{RowLimit}
use Rattle.archive_history.specs.declared.row_limit.RowLimit.TheVariants as limits
use Rattle.refusals.specs.Limits.{limit_of}
use Rattle.archive_store.specs.Limits.{limit_of_history}

-- the limits of a history are those of the archive
pub limits_agree : (limit : RowLimit) → row_limit limit ≡ limit_of (limit_of_history limit)
limits_agree limits.Rows = refl
limits_agree limits.HistoryOctets = refl
limits_agree limits.IntervalRows = refl
