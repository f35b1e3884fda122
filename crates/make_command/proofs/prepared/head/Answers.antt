use Rattle.std.proofs.Common.{refl, sym, subst}
use Rattle.field_codec.specs.Entries.{AreTables}
use Rattle.make_command.specs.Made.{made_head}
use Rattle.make_command.proofs.MadeLoads.{made_tables}
use Rattle.make_command.proofs.prepared.head.Goals as goal

pub returns-clause-head : goal.returns-clause-head
unfolding made_head
returns-clause-head c = rw (c.in_ok-tables.ensures, c.in_ok-mdb.ensures.database) refl

pub returns-clause-fits : goal.returns-clause-fits
returns-clause-fits c = (subst AreTables (sym c.in_ok-tables.ensures) made_tables, c.in_ok-mdb.ensures.sound)
