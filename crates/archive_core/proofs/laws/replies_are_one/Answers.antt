use Rattle.archive_core.proofs.OneReply.{all_one}
use Rattle.archive_core.proofs.laws.replies_are_one.Goals as goal

pub returns : goal.returns
returns c = all_one
