use Rattle.archive_commands.proofs.CreatePlan.{no_script_read}
use Rattle.archive_commands.proofs.create.read_named_script.Goals as goal

pub returns-in-Some-clause-read : goal.returns-in-Some-clause-read
returns-in-Some-clause-read g c = rw c.in-Some.is c.read_limited.ensures.read

pub returns-in-Some-clause-unread : goal.returns-in-Some-clause-unread
returns-in-Some-clause-unread g c = rw c.in-Some.is c.read_limited.ensures.unread

pub returns-in-None-clause-read : goal.returns-in-None-clause-read
returns-in-None-clause-read g c = rw (c.in-None.is, c.new.ensures.items) (no_script_read (g.I.Inputs.state c.args.inputs.now).files (g.I.Inputs.state c.args.inputs.now))
