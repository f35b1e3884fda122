use Rattle.std.proofs.Common.{◌≡◌, ◌≤◌, length, map, take, vec_len, vec_capacity}
use Rattle.command_plans.specs.Sources.{AreNewSources, GaveSources}
use Rattle.command_plans.proofs.opening.open_all.Given as goal

-- some were opened, and there's room for the others
abbrev pub invariant-loop-name : goal.invariant-loop-name
invariant-loop-name g l = record {
  gave : GaveSources (g.I.Inputs.state l.fn.inputs) (g.I.Inputs.state l.inputs) l.name-index;
  are_new : AreNewSources g.I.Source.Source.state (g.I.Inputs.state l.fn.inputs) (map (λ name. name.now) (take l.name-index l.names)) l.sources.items;
  count : vec_len l.sources ≡ l.name-index;
  room : length l.names ≤ vec_capacity l.sources;
}
