use Rattle.std.proofs.Common.{length}
use Rattle.std.specs.Prelude.{codes, decimal}
use Rattle.archive_commands.proofs.Created.{four_put}
use Rattle.archive_commands.proofs.create.put_line.Goals as goal

pub returns : goal.returns
returns c =
    four_put c.put_number.new.self c.put_number-2.new.self c.put_number-3.new.self c.put.new.self (codes "created tables ") (decimal (length c.args.head.now.tables))
    (codes " parameters ") (decimal (length c.args.head.now.mdb.parameters)) (codes " containers ") (decimal (length c.args.head.now.mdb.containers)) (codes "\n")
    (rw (c.requires, c.len.ensures) at c.put_number.ensures.text) (rw c.parameters.ensures at c.put_number-2.ensures.text) (rw c.containers.ensures at c.put_number-3.ensures.text) c.put.ensures
