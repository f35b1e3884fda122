-- The program: what the words of a command line lead to.
use Rattle.std.specs.Prelude.{◌≡◌, ℕ, ℤ, List, Option, Some, None}
use Rattle.arch_disk.specs.Disk.{Device}
use Rattle.refusals.specs.declared.refusal.Refusal.TheVariants.{Usage}
use Rattle.outer_traits.specs.Outside.{Files}
use Rattle.command_plans.specs.Plan.{OfMemory, CommandPlan, Stop, May, Question}
use Rattle.command_words.specs.Job.{Job, Scan, Values, Create, Load, Query, Sql, Recover, Verify, Make, job_of}
use Rattle.command_runs.specs.Command.{Progress, nothing_done}
use Rattle.archive_commands.specs.Create.{create_plan}
use Rattle.load_command.specs.Load.{load_plan}
use Rattle.make_command.specs.Make.{make_plan}
use Rattle.query_commands.specs.Query.{query_plan}
use Rattle.archive_commands.specs.Recover.{recover_plan}
use Rattle.dump_commands.specs.Scan.{scan_plan}
use Rattle.query_commands.specs.Sql.{sql_plan}
use Rattle.dump_commands.specs.Values.{values_plan}
use Rattle.archive_commands.specs.Verify.{verify_plan}

-- does a job over a disk, over inputs whose files may be known, and at a moment that may be known
abbrev pub job_plan : {D : Type 0} → Device D → D → Option Files → Option ℤ → Job → CommandPlan Progress ⊥
job_plan device disk files next (Scan name) = scan_plan files next name
job_plan device disk files next (Values words) = values_plan files next words
job_plan device disk files next (Create words) = create_plan device disk files words
job_plan device disk files next (Load words) = load_plan device disk files next words
job_plan device disk files next (Query name) = query_plan device disk files name
job_plan device disk files next (Sql name) = sql_plan device disk files name
job_plan device disk files next Recover = recover_plan device disk
job_plan device disk files next Verify = verify_plan device disk
job_plan device disk files next (Make seed) = make_plan device disk next seed

-- what words lead to, by the job that they are: Usage, where they are none
abbrev pub after_words : {D : Type 0} → Device D → D → Option Files → Option ℤ → Option Job → CommandPlan Progress ⊥
after_words device disk files next (Some job) = job_plan device disk files next job
after_words device disk files next None = Stop (nothing_done 0) (Some Usage)

-- reads the words of a command line, and does the job that they are
abbrev pub run_plan : {D : Type 0} → Device D → D → Option Files → Option ℤ → List (List ℕ) → CommandPlan Progress ⊥
run_plan device disk files next words =
    May OfMemory (nothing_done 0) (Question (λ job. job ≡ job_of words) (after_words device disk files next))
