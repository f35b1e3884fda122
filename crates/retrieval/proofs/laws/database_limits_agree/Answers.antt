use Rattle.std.proofs.Common.{◌≡◌, refl}
use Rattle.mdb_items.specs.declared.fault.MdbLimit.{MdbLimit}
use Rattle.mdb_items.specs.declared.fault.MdbLimit.TheVariants as limit
use Rattle.mdb_items.specs.Limits.{database_limit}
use Rattle.refusals.specs.Limits.{limit_of}
use Rattle.retrieval.specs.Parameter.{limit_of_database}
use Rattle.retrieval.proofs.laws.database_limits_agree.Goals as goal

agree : (quantity : MdbLimit) → database_limit quantity ≡ limit_of (limit_of_database quantity)
agree limit.Calibrations = refl
agree limit.CalibrationRows = refl
agree limit.Parameters = refl
agree limit.Containers = refl
agree limit.Entries = refl

pub returns : goal.returns
returns c = agree
