use Rattle.std.proofs.Common.{◌≡◌, ◌++◌}
use Rattle.command_plans.specs.Sources.{TookSources}
use Rattle.command_plans.proofs.opening.close_all.Given as goal

-- some were taken back
abbrev pub invariant-loop-source : goal.invariant-loop-source
invariant-loop-source g l =
    (done : _) × (done ++ l.source-iterator.rest.items ≡ l.fn.sources.items) × TookSources g.I.Source.Source.state done (g.I.Inputs.state l.fn.inputs) (g.I.Inputs.state l.inputs)
