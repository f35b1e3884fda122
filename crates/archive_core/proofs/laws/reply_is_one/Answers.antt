use Rattle.archive_core.proofs.OneReply.{one}
use Rattle.archive_core.proofs.laws.reply_is_one.Goals as goal

pub returns : goal.returns
returns c = one
