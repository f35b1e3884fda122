-- How a command ends that printed a text.
use Rattle.std.specs.Prelude.{List, ℕ, Option, Some, None}
use Rattle.refusals.specs.declared.refusal.Refusal.{Refusal}
use Rattle.refusals.specs.declared.refusal.Refusal.TheVariants.{WriteFault}
use Rattle.outer_traits.specs.States.{OutputState}
use Rattle.line_buffer.specs.Printed.{IsCutOff, IsWritten}

-- no refusal and all of the text, or WriteFault and a prefix
abbrev pub IsFinished : Option Refusal → OutputState → OutputState → List ℕ → Type 0
IsFinished None before after text = IsWritten before after text
IsFinished (Some WriteFault) before after text = IsCutOff before after text
IsFinished (Some other) before after text = ⊥
