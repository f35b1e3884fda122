use Rattle.archive_commands.proofs.Created.{head_given, sheets_refused, tables_refused}
use Rattle.archive_commands.proofs.create.head_of.Goals as goal

pub returns-in-Err-clause-answer : goal.returns-in-Err-clause-answer
returns-in-Err-clause-answer c = rw c.refusal_of_sheets.ensures (sheets_refused c.args.sheets.now c.args.text.now c.in-Err.fault c.in-Err.ensures)

pub returns-in-Ok-tables_of-clause-answer : goal.returns-in-Ok-tables_of-clause-answer
returns-in-Ok-tables_of-clause-answer c =
    head_given c.args.sheets.now c.args.text.now c.in-Ok.mdb c.in-Ok.ensures c.in-Ok-tables_of.tables c.in-Ok-tables_of.ensures.answer

pub returns-in-Err-tables_of-clause-answer : goal.returns-in-Err-tables_of-clause-answer
returns-in-Err-tables_of-clause-answer c =
    tables_refused c.args.sheets.now c.args.text.now c.in-Ok.mdb c.in-Ok.ensures c.in-Err-tables_of.refusal c.in-Err-tables_of.ensures.answer
