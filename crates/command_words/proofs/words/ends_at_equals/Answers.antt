use Rattle.std.proofs.Common.{ap, ℕ, Option}
use Rattle.command_words.specs.Words.{is_last}
use Rattle.command_words.proofs.words.ends_at_equals.Goals as goal

pub returns-in-Some : goal.returns-in-Some
returns-in-Some c = ap (λ (o : Option ℕ). is_last o c.args.word.now) c.in-Some.ensures.value
