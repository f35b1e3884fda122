-- What a terminal is shown of a load is counted as its jobs do it.
use Rattle.std.specs.Prelude.{◌≡◌, ℕ, length}
use Rattle.command_words.specs.Job.{Make}
use Rattle.load_progress.specs.Passes.{packets_behind}
use Rattle.load_progress.specs.Watched.{jobs_watched}
use Rattle.load_session.specs.declared.batches.TheConstants.{BATCH}
use Rattle.make_command.specs.Made.{dumps_of_seed}

-- `make` has a link for each dump that it makes, and a link's second turn is behind a batch
abbrev pub WatchedJobsAgree : Type 0
WatchedJobsAgree = (seed : ℕ) →
    (length (dumps_of_seed seed) ≡ (jobs_watched (Make seed)).links)
    × (packets_behind (jobs_watched (Make seed)) 1 2 ≡ BATCH)
