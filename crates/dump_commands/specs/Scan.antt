-- The command `scan`.
use Rattle.std.specs.Prelude.{ℕ, ℤ, List, Option}
use Rattle.arch_types.specs.Dump.{IsDump}
use Rattle.refusals.specs.declared.refusal.Which.TheVariants.{DumpOctets}
use Rattle.outer_traits.specs.Outside.{Files}
use Rattle.command_plans.specs.Plan.{CommandPlan, Question, Choose, and_then, map_done}
use Rattle.command_plans.specs.Inputs.{input_plan}
use Rattle.dump_lines.specs.Text.{scan_text}
use Rattle.command_runs.specs.Moment.{IsMomentOf}
use Rattle.command_runs.specs.Command.{Progress, nothing_done, printing_then_plan}
use Rattle.command_runs.specs.DumpRest.{ending_of_rest}

-- reads the octets of a dump
abbrev pub dump_plan : Option Files → List ℕ → ℕ → CommandPlan ℕ (List ℕ)
dump_plan files name sources = input_plan files DumpOctets (λ octets. octets) name sources

-- prints the rows of a dump that was cut into packets and a rest, and the counts where nothing is left; it ends by
-- BadPacket where a rest is
abbrev pub rows_plan : List ℕ → ℤ → List (List ℕ) × List ℕ → CommandPlan Progress ⊥
rows_plan dump moment cut =
    printing_then_plan (nothing_done 1) (scan_text cut.0 cut.1 moment) (ending_of_rest dump cut.1)

-- cuts a dump that was received at a moment into its packets and its rest, and prints the rows
abbrev pub cutting_plan : List ℕ → ℤ → CommandPlan Progress ⊥
cutting_plan dump moment = Question (λ cut. IsDump dump cut.0 cut.1) (rows_plan dump moment)

-- receives a dump that was read, at the moment that the clock tells
abbrev pub receiving_plan : Option ℤ → List ℕ → CommandPlan Progress ⊥
receiving_plan next dump = Choose (IsMomentOf next) (cutting_plan dump)

-- reads the dump, receives it, and prints its rows
abbrev pub scan_plan : Option Files → Option ℤ → List ℕ → CommandPlan Progress ⊥
scan_plan files next name = and_then (map_done nothing_done (dump_plan files name 0)) (receiving_plan next)
