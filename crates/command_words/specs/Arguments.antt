-- The arguments that a command takes, as clap knows them.
use Rattle.std.specs.Prelude.{Bool, true, List, fold, Some}
use Rattle.clap.specs.Walk.{Rule, Text}
use Rattle.clap.specs.Simple.{App, new_rule, with_rule}
use Rattle.clap.specs.declared.builder.action.ArgAction.TheVariants.{Append, Set, SetTrue}
use Rattle.command_words.specs.declared.words.Argument.{Argument}
use Rattle.command_words.specs.declared.words.Argument.TheVariants as arguments
use Rattle.command_words.specs.Words.{plain_app}

-- a word that has to come
abbrev pub word_rule : Text → Rule
word_rule id = record (new_rule id) { action = Some Set; required = true }

-- a word that may come
abbrev pub optional_word_rule : Text → Rule
optional_word_rule id = record (new_rule id) { action = Some Set }

-- one word or more
abbrev pub repeated_rule : Text → Rule
repeated_rule id = record (new_rule id) { action = Some Append; required = true }

-- an option `--id value` or `--id=value`, which may have to come
abbrev pub option_rule : Text → Bool → Rule
option_rule id required = record (new_rule id) { action = Some Set; long = Some id; required = required }

-- an option `--id` without a value, which may come
abbrev pub flag_rule : Text → Rule
flag_rule id = record (new_rule id) { action = Some SetTrue; long = Some id }

-- an argument
abbrev pub argument_rule : Argument → Rule
argument_rule (arguments.Word id) = word_rule id.now
argument_rule (arguments.Optional id) = optional_word_rule id.now
argument_rule (arguments.Repeated id) = repeated_rule id.now
argument_rule (arguments.Option id required) = option_rule id.now required
argument_rule (arguments.Flag id) = flag_rule id.now

-- a command that takes these arguments
abbrev pub command_app : Text → List Rule → App
command_app name rules = fold with_rule (plain_app name) rules
