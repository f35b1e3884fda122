use Rattle.std.proofs.Common.{sym, ◌∙◌}
use Rattle.archive_store.proofs.Outcomes.{none_at_key}
use Rattle.archive_store.proofs.classifying.fresh_place.Goals as goal

pub returns-then-is_above : goal.returns-then-is_above
returns-then-is_above c = none_at_key c.args.at c.args.classified.now.last c.args.classified.now.fresh c.requires (sym c.is_above.ensures ∙ c.if-is_above.true)
