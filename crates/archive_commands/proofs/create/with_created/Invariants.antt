use Rattle.std.proofs.Common.{◌≡◌, ◌++◌, true, drop}
use Rattle.std.specs.List.{AllByRecursion}
use Rattle.text_forms.specs.Names.{is_name}
use Rattle.ssql_types.specs.CreatedTables.{created_tables}
use Rattle.archive_commands.proofs.create.with_created.Given as goal

abbrev pub invariant-loop-statement : goal.invariant-loop-statement
invariant-loop-statement l = record {
  all : l.all ++ created_tables (drop l.statement-index l.script) ≡ l.fn.tables ++ created_tables l.script;
  names : AllByRecursion (λ table. is_name table ≡ true) l.all;
}
