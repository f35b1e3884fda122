-- The command `values`.
use Rattle.std.specs.Prelude.{◌≡◌, ℕ, ◌+◌, ℤ, List, Option, Some, None}
use Rattle.arch_types.specs.Dump.{IsDump}
use Rattle.refusals.specs.declared.refusal.Refusal.{Refusal}
use Rattle.mdb_items.specs.declared.sheet.RawMdb.{RawMdb}
use Rattle.mdb_model.specs.Sheets.{sheets_database}
use Rattle.mdb_sheets.specs.Plans.{sheets_plan}
use Rattle.outer_traits.specs.Outside.{Files}
use Rattle.command_plans.specs.Plan.{OfMemory, CommandPlan, Return, Stop, May, Question, Choose, and_then, map_done}
use Rattle.command_words.specs.Job.{ValuesWords}
use Rattle.asks.specs.Names.{parameter_number}
use Rattle.retrieval.specs.Parameter.{parameter_refusal}
use Rattle.retrieval.specs.ValuesText.{values_text}
use Rattle.command_runs.specs.Moment.{IsMomentOf}
use Rattle.command_runs.specs.Command.{Progress, nothing_done, stepwise_printing_then_plan}
use Rattle.command_runs.specs.DumpRest.{ending_of_rest}
use Rattle.dump_commands.specs.Scan.{dump_plan}

-- gives the octets of a dump beside the records of the sheets
abbrev pub beside_sheets_plan : RawMdb → List ℕ → CommandPlan ℕ (RawMdb × List ℕ)
beside_sheets_plan raw dump = Return (raw, dump)

-- reads the dump behind the sheets
abbrev pub dump_behind_plan : Option Files → List ℕ → ℕ → RawMdb → CommandPlan ℕ (RawMdb × List ℕ)
dump_behind_plan files dump sources raw = and_then (dump_plan files dump sources) (beside_sheets_plan raw)

-- reads the three sheets, and then the dump
abbrev pub values_inputs_plan : Option Files → ValuesWords → ℕ → CommandPlan ℕ (RawMdb × List ℕ)
values_inputs_plan files words sources =
    and_then (sheets_plan files words.parameters words.calibrations words.containers sources)
    (dump_behind_plan files words.dump (sources + 3))

-- prints the cells of a parameter over a dump that was cut into packets and a rest, and how many where nothing is
-- left; BadPacket ends it where a rest is
abbrev pub cells_plan : RawMdb → ℕ → List ℕ → ℤ → List (List ℕ) × List ℕ → CommandPlan Progress ⊥
cells_plan raw number dump moment cut =
    stepwise_printing_then_plan (nothing_done 4) (values_text (sheets_database raw) number cut.0 cut.1 moment)
    (ending_of_rest dump cut.1)

-- cuts a dump that was received at a moment into its packets and its rest, and prints the cells of the parameter with
-- a number
abbrev pub cutting_cells_plan : RawMdb → List ℕ → ℤ → ℕ → CommandPlan Progress ⊥
cutting_cells_plan raw dump moment number =
    Question (λ cut. IsDump dump cut.0 cut.1) (cells_plan raw number dump moment)

-- what sheets and a name lead to that are refused, or that have a parameter
abbrev pub after_parameter_check : RawMdb → List ℕ → List ℕ → ℤ → Option Refusal → CommandPlan Progress ⊥
after_parameter_check raw name dump moment None =
    Question (λ number. parameter_number (sheets_database raw) name ≡ Some number) (cutting_cells_plan raw dump moment)
after_parameter_check raw name dump moment (Some refusal) = Stop (nothing_done 4) (Some refusal)

-- looks for a parameter: BadSheet, a limit of the database, or UnknownParameter
abbrev pub parameter_plan : RawMdb → List ℕ → List ℕ → ℤ → CommandPlan Progress ⊥
parameter_plan raw name dump moment =
    May OfMemory (nothing_done 4)
    (Question (λ found. found ≡ parameter_refusal raw name) (after_parameter_check raw name dump moment))

-- receives a dump that was read behind the sheets, at the moment that the clock tells
abbrev pub valuing_plan : Option ℤ → List ℕ → RawMdb × List ℕ → CommandPlan Progress ⊥
valuing_plan next name given = Choose (IsMomentOf next) (parameter_plan given.0 name given.1)

-- reads the sheets and the dump, receives it, looks for the parameter, and prints its cells
abbrev pub values_plan : Option Files → Option ℤ → ValuesWords → CommandPlan Progress ⊥
values_plan files next words =
    and_then (map_done nothing_done (values_inputs_plan files words 0)) (valuing_plan next words.name)
