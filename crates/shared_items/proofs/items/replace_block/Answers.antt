use Rattle.std.specs.Arc.{arc_value}
use Rattle.shared_items.proofs.Putting.{one_for, two_for}
use Rattle.shared_items.proofs.items.replace_block.Goals as goal

pub returns-in_default-clause-replaced : goal.returns-in_default-clause-replaced
returns-in_default-clause-replaced g c =
    one_for arc_value c.args.blocks.now.items c.args.place c.in_ok-first.first c.args.first c.args.second c.requires c.in_ok-first.ensures.ok c.in_default.is

pub returns-clause-replaced : goal.returns-clause-replaced
returns-clause-replaced g c =
    two_for arc_value c.args.blocks.now.items c.insert.new.self.items c.args.place c.in_ok-first.first c.in_ok-second.second c.args.first c.in-Some.second c.args.second c.requires
    c.in_ok-insert.ensures.items c.in_ok-first.ensures.ok c.in_ok-second.ensures.ok c.in-Some.is
