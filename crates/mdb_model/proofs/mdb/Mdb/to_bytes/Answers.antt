use Rattle.mdb_model.specs.Inside.{database_inside}
use Rattle.mdb_model.proofs.DatabaseOctets.{database_fits}
use Rattle.mdb_model.proofs.mdb.Mdb.to_bytes.Goals as goal

pub spelling-requires : goal.spelling-requires
spelling-requires c = rw (c.as_slice.ensures.value, c.as_slice-2.ensures.value, c.as_slice-3.ensures.value) (database_fits (database_inside c.inner.inside) c.inner.invariant.kept)
