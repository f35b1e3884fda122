-- The job that the program reads from its words.
use Rattle.std.specs.Prelude.{map, option_map}
use Rattle.command_words.specs.Job as spec
use Rattle.command_words.specs.declared.job.Job.{Job}
use Rattle.command_words.specs.declared.job.Job.TheVariants.{Scan, Values, Create, Load, Query, Sql, Recover, Verify, Make}
use Rattle.command_words.specs.declared.job.CreateWords.{CreateWords}
use Rattle.command_words.specs.declared.job.LoadWords.{LoadWords}
use Rattle.command_words.specs.declared.job.ValuesWords.{ValuesWords}

-- the words of `values`, as the program holds them
abbrev pub words_of : ValuesWords → spec.ValuesWords
words_of words = record {
  parameters = words.parameters.now;
  calibrations = words.calibrations.now;
  containers = words.containers.now;
  dump = words.dump.now;
  name = words.name.now;
}

-- those of `create`
abbrev pub create_words_of : CreateWords → spec.CreateWords
create_words_of words = record {
  parameters = words.parameters.now;
  calibrations = words.calibrations.now;
  containers = words.containers.now;
  script = option_map (λ name. name.now) words.script;
}

-- the words of `load`
abbrev pub load_words_of : LoadWords → spec.LoadWords
load_words_of words = record {
  dumps = map (λ name. name.now) words.dumps.items;
  link = words.link;
  fillers = words.fillers;
  asks = option_map (λ name. name.now) words.asks;
  route = option_map (λ name. name.now) words.route;
}

-- the job, with the words that it was given
abbrev pub job_view : Job → spec.Job
job_view (Scan dump) = spec.Scan dump.now
job_view (Values words) = spec.Values (words_of words)
job_view (Create words) = spec.Create (create_words_of words)
job_view (Load words) = spec.Load (load_words_of words)
job_view (Query name) = spec.Query name.now
job_view (Sql name) = spec.Sql name.now
job_view Recover = spec.Recover
job_view Verify = spec.Verify
job_view (Make seed) = spec.Make seed
