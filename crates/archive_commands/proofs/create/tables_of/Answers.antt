use Rattle.std.proofs.Common.{rules}
use Rattle.archive_commands.proofs.NewTables.{new_tables_differ}
use Rattle.archive_commands.proofs.create.tables_of.Goals as goal

pub returns-clause-tables : goal.returns-clause-tables
returns-clause-tables c = record {
  names = c.in_ok-tables.ensures.names;
  few = search rules;
  first = search rules;
  distinct = new_tables_differ c.args.text.now c.in_ok-tables.tables (search rules);
}
