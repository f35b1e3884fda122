use Rattle.archive_core.proofs.SameReply.{alike_replies}
use Rattle.archive_core.proofs.laws.alike_states_reply_alike.Goals as goal

pub returns : goal.returns
returns c = alike_replies
