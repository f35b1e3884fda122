use Rattle.std.proofs.Common.{refl}
use Rattle.run_files.proofs.opening.RunOpening.begin_synced.Goals as goal

pub returns-in_default-clause-refused : goal.returns-in_default-clause-refused
returns-in_default-clause-refused g c =
    let end = c.in_ok-index.ensures in
    (refl, refl, λ transparent. end.none transparent c.in_default.is, end.told)
