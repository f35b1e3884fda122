use Rattle.std.proofs.Common.{ℕ, List, length, refl, ap}
use Rattle.command_laws.proofs.MadeDumps.{two}
use Rattle.command_laws.proofs.laws.watched_jobs_agree.Goals as goal

pub returns : goal.returns
returns c = λ seed. (ap (λ (dumps : List (List ℕ)). length dumps) (two seed 20000), refl)
