use Rattle.std.proofs.Common.{◌∷◌, [], w64}
use Rattle.std.proofs.lemmas.Int.{to_z-of_z}
use Rattle.archive_history.proofs.Steps.{if_some}
use Rattle.histogram.specs.Times.{AreOneSpan}
use Rattle.history_tests.proofs.histogram_tests.span_of_pair.Goals as goal

pub returns : goal.returns
returns c =
    let first = to_z-of_z w64 c.args.first c.ranges.first in
    let second = to_z-of_z w64 c.args.second c.ranges.second in
    if_some c.grown.result _ (λ span. AreOneSpan span (c.args.first ∷ c.args.second ∷ [])) (λ span near. near (c.args.first ∷ []) (rw first at c.span_of_time.ensures.one)) (rw second at c.grown.ensures.near)
