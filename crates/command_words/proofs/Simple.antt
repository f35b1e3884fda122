-- The commands are such as clap's definitions are exact for.
use Rattle.std.proofs.Common.{◌≡◌, true, refl}
use Rattle.clap.specs.Words.{is_simple}
use Rattle.clap.specs.Faults.{is_simple_and_free}
use Rattle.clap.proofs.OnLiterals.{clap_on_literals}
use Rattle.command_words.specs.declared.job.CommandName.{CommandName}
use Rattle.command_words.specs.declared.job.CommandName.TheVariants.{Scan, Values, Create, Load, Query, Recover, Verify, Make}
use Rattle.command_words.specs.Job.{app_of_command}

-- clap's definitions are exact for each command
pub simple : (command : CommandName) → is_simple (app_of_command command) ≡ true
unfolding clap_on_literals
simple Scan = refl
simple Values = refl
simple Create = refl
simple Load = refl
simple Query = refl
simple Recover = refl
simple Verify = refl
simple Make = refl

pub free : (command : CommandName) → is_simple_and_free (app_of_command command) ≡ true
unfolding clap_on_literals
free Scan = refl
free Values = refl
free Create = refl
free Load = refl
free Query = refl
free Recover = refl
free Verify = refl
free Make = refl
