use Rattle.std.proofs.Common.{◌≡◌, map, drop}
use Rattle.std.specs.Prelude.{fold}
use Rattle.clap.specs.Words.{app_of}
use Rattle.clap.specs.Simple.{with_rule}
use Rattle.command_words.specs.Arguments.{argument_rule, command_app}
use Rattle.command_words.proofs.words.command_of.Given as goal

abbrev pub invariant-loop-argument : goal.invariant-loop-argument
invariant-loop-argument l =
    fold with_rule (app_of l.command) (map argument_rule (drop l.argument-index l.arguments)) ≡ command_app l.name (map argument_rule l.arguments)
