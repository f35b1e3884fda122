use Rattle.std.proofs.Common.{◌≡◌, [], ◌∷◌, ◌++◌, length, subst, arith}
use Rattle.command_plans.specs.Sources.{TookSources}
use Rattle.command_plans.proofs.Sources.{no_more, taken_front, took_more, took_none}
use Rattle.command_plans.proofs.opening.close_all.Goals as goal

pub loop-source-init : goal.loop-source-init
loop-source-init g c =
    let gives : c.into_iter-source-iterator.result.rest.items ≡ c.args.sources.items = let s = c.into_iter-source-iterator.ensures.into_iter_gives in cc in
    ([], gives, took_none g.I.Source.Source.state (g.I.Inputs.state c.args.inputs.now))

pub loop-source-preserved : goal.loop-source-preserved
loop-source-preserved g c =
    let step : c.loop-source.source-iterator.rest.items ≡ c.in-Some.source ∷ c.next.new.self.rest.items = let s = c.in-Some.ensures.steps in cc in
    let state = g.I.Inputs.state in
    let here = c.loop-source.invariant in
    let closed = c.close.ensures in (
      here.0 ++ c.in-Some.source ∷ [],
      taken_front here.0 c.in-Some.source _ _ _ step here.1,
      took_more g.I.Source.Source.state here.0 c.in-Some.source (state c.args.inputs.now) (state c.loop-source.inputs) (state c.close.new.self) here.2 closed.same closed.later closed.closed closed.kept closed.risen closed.reliable,
    )

pub returns : goal.returns
returns g c =
    let here = c.loop-source.invariant in
    let rest = c.loop-source.source-iterator.rest.items in
    let state = g.I.Inputs.state in
    let none : length rest ≡ 0 = omega (arith, c.in-None.ensures.steps.0, c.loop-source.source-iterator.rest.ok.0) in
    subst (λ l. TookSources g.I.Source.Source.state l (state c.args.inputs.now) (state c.loop-source.inputs)) (no_more here.0 rest c.args.sources.items none here.1) here.2
