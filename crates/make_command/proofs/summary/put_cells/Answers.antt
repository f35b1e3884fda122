use Rattle.std.specs.Prelude.{codes, decimal}
use Rattle.archive_commands.proofs.Comparing.{four_behind}
use Rattle.make_command.proofs.summary.put_cells.Goals as goal

pub returns : goal.returns
returns c =
    four_behind c.args.line_buffer.now c.put_number.new.self c.put_number-2.new.self c.put_number-3.new.self c.put.new.self (codes "cells apid ") (decimal c.args.cells.apid)
    (codes "\ncells temp ") (decimal c.args.cells.temp) (codes "\ncells level ") (decimal c.args.cells.level) (codes "\n")
    c.put_number.ensures.text c.put_number-2.ensures.text c.put_number-3.ensures.text c.put.ensures
