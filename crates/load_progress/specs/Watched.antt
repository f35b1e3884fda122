-- The jobs of a command that may be watched.
use Rattle.std.specs.Prelude.{Bool, true, false, length, Option, Some, None}
use Rattle.command_words.specs.Job.{Job, Load, Make}
use Rattle.load_progress.specs.declared.watched.WatchedJobs.{WatchedJobs}

-- a load without a sheet of asks answers none
abbrev pub asks_nothing : {X : Type 0} → Option X → Bool
asks_nothing None = true
asks_nothing (Some sheet) = false

-- a load has a link for each dump, and readers where it is given a sheet of asks; `make` has two links and no readers
abbrev pub jobs_watched : Job → WatchedJobs
jobs_watched (Load words) = record { links = length words.dumps; asks_nothing = asks_nothing words.asks }
jobs_watched (Make seed) = record { links = 2; asks_nothing = true }
jobs_watched other = record { links = 0; asks_nothing = false }
