use Rattle.std.proofs.Common.{◌≡◌, true, refl, codes, [], ◌∷◌}
use Rattle.clap.specs.Simple.{App, is_simple}
use Rattle.clap.specs.Faults.{is_simple_and_free}
use Rattle.clap.proofs.OnLiterals.{clap_on_literals}
use Rattle.command_words.specs.Arguments.{command_app, flag_rule, optional_word_rule, word_rule}
use Rattle.base_tests.proofs.command_words_tests.script_of.Goals as goal

abbrev create_app : App
create_app = command_app (codes "create") (word_rule (codes "sheet") ∷ optional_word_rule (codes "script") ∷ flag_rule (codes "dry") ∷ [])

simple : is_simple create_app ≡ true
unfolding clap_on_literals
simple = refl

free : is_simple_and_free create_app ≡ true
unfolding clap_on_literals
free = refl

pub read_arguments-requires : goal.read_arguments-requires
read_arguments-requires c = record { simple = simple; free = free }
