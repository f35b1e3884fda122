use Rattle.std.specs.Prelude.{codes, decimal}
use Rattle.load_command.proofs.LoadReports.{six_put}
use Rattle.load_command.proofs.running.put_line.Goals as goal

pub returns : goal.returns
returns c =
    six_put c.args.line_buffer.now c.put_number.new.self c.put_number-2.new.self c.put_number-3.new.self c.put_number-4.new.self c.put_number-5.new.self c.put.new.self
    (codes "load packets ") (decimal c.args.counts.packets) (codes " new ") (decimal c.args.new) (codes " duplicates ") (decimal c.args.counts.duplicates)
    (codes " idle ") (decimal c.args.counts.idle) (codes " rows ") (decimal c.args.rows) (codes "\n") c.put_number.ensures.text c.put_number-2.ensures.text
    c.put_number-3.ensures.text c.put_number-4.ensures.text c.put_number-5.ensures.text c.put.ensures
