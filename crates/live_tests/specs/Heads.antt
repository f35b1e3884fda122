-- What the tests need of a head.
use Rattle.std.specs.Prelude.{◌<◌, length}
use Rattle.archive_store.specs.Head.{Head}

-- it has a table and a packet name
pub record HasNames (head : Head) : Type 0 where
  pub tables : 0 < length head.tables
  pub names : 0 < length head.mdb.containers
