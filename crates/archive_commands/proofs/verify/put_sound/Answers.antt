use Rattle.std.specs.Prelude.{codes, decimal}
use Rattle.archive_commands.proofs.Comparing.{four_behind}
use Rattle.archive_commands.proofs.verify.put_sound.Goals as goal

pub returns : goal.returns
returns c =
    four_behind c.args.line_buffer.now c.put_number.new.self c.put_number-2.new.self c.put_number-3.new.self c.put.new.self (codes "sound rows ") (decimal c.args.sound.rows)
    (codes " intervals ") (decimal c.args.sound.intervals) (codes " late ") (decimal c.args.sound.late) (codes "\n")
    c.put_number.ensures.text c.put_number-2.ensures.text c.put_number-3.ensures.text c.put.ensures
