use Rattle.std.proofs.Common.{map, string_bytes}
use Rattle.std.proofs.lemmas.Result.{err_from_is_err_and}
use Rattle.command_words.specs.Job.{app_of_command, job_in}
use Rattle.command_words.specs.Words.{rows_of_words}
use Rattle.command_words.proofs.Jobs.{no_rows}
use Rattle.command_words.proofs.job.command_job.Goals as goal

pub returns-in_err-found : goal.returns-in_err-found
returns-in_err-found c =
    let rows = rows_of_words (app_of_command c.args.command) (map (λ w. string_bytes w) c.args.words.now) in
    let p = err_from_is_err_and c.from_residual.result c.from_residual.ensures.1 in
    rw (p.1, p.2) (record { job = tt; none = no_rows (job_in c.args.command) rows _ c.in_err-found.ensures.none })

pub returns : goal.returns
returns c = rw c.in_ok-found.ensures.found (record { job = c.job_in.ensures.job; none = c.job_in.ensures.none })
