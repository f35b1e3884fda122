-- What a job that passes the gate of a load has done since its last pass.
use Rattle.std.specs.Prelude.{ℕ, ◌%◌, ◌&&◌, nat_le, nat_lt, if◌then◌else◌}
use Rattle.load_progress.specs.declared.watched.WatchedJobs.{WatchedJobs}

-- a link has sent a batch before each of its turns but the first
abbrev pub packets_behind : WatchedJobs → ℕ → ℕ → ℕ
packets_behind jobs job turn = if nat_le job jobs.links && nat_lt 1 turn then 64 else 0

-- a filler begins at its odd turns and installs at the others, so it has handed in a fill before each odd one but the
-- first; which jobs are fillers is known where there are no readers
abbrev pub fills_behind : WatchedJobs → ℕ → ℕ → ℕ
fills_behind jobs job turn =
    if jobs.asks_nothing && (nat_lt jobs.links job && nat_lt 1 turn) then turn % 2 else 0
