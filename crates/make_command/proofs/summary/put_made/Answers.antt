use Rattle.std.proofs.Common.{length, ap, arith, length-append}
use Rattle.std.specs.Prelude.{codes, decimal}
use Rattle.make_command.proofs.SummaryTexts.{seven_put}
use Rattle.make_command.proofs.summary.put_made.Goals as goal

pub returns-clause-made : goal.returns-clause-made
returns-clause-made c =
    seven_put c.args.line_buffer.now c.put_number.new.self c.put_number-2.new.self c.put_number-3.new.self c.put_number-4.new.self c.put_number-5.new.self c.put_number-6.new.self c.put.new.self
    (codes "make ") (decimal c.args.seed) (codes " packets ") (decimal c.args.counts.packets) (codes " rows ") (decimal c.args.sound.rows) (codes " duplicates ") (decimal c.args.counts.duplicates)
    (codes " intervals ") (decimal c.args.sound.intervals) (codes " late ") (decimal c.args.sound.late) (codes "\n") c.requires c.put_number.ensures.text c.put_number-2.ensures.text
    c.put_number-3.ensures.text c.put_number-4.ensures.text c.put_number-5.ensures.text c.put_number-6.ensures.text c.put.ensures

pub returns-clause-room : goal.returns-clause-room
returns-clause-room c =
    let none = ap length c.requires in
    let last = ap length c.put.ensures in
    let ends = length-append c.put_number-6.new.self (codes "\n") in
    omega (arith, none, last, ends, c.put_number.ensures.short, c.put_number-2.ensures.short, c.put_number-3.ensures.short, c.put_number-4.ensures.short, c.put_number-5.ensures.short, c.put_number-6.ensures.short)
