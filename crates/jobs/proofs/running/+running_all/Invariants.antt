use Rattle.std.proofs.Common.{◌+◌, ◌*◌, vec_len}
use Rattle.jobs.proofs.running.+running_all.Given as goal

abbrev pub decreases-run_beside-join_mut+arg3 : goal.decreases-run_beside-join_mut+arg3
decreases-run_beside-join_mut+arg3 g l = 3 * vec_len l.jobs.now + 1

abbrev pub decreases-run_all : goal.decreases-run_all
decreases-run_all g l = 3 * vec_len l.jobs.now

abbrev pub decreases-run_beside : goal.decreases-run_beside
decreases-run_beside g l = 3 * vec_len l.jobs.now + 2
