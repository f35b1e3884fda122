use Rattle.std.proofs.Common.{[], ◌∷◌, drop}
use Rattle.ssql_types.specs.Rules.{no_fault}
use Rattle.ssql_types.specs.Faults.{stream_fault}
use Rattle.ssql_types.specs.Typed.{route_source}
use Rattle.ssql_types.proofs.Lists.{IsListLeft}
use Rattle.ssql_types.proofs.sources.streams_at.Given as goal

abbrev pub invariant-loop-name : goal.invariant-loop-name
invariant-loop-name l = IsListLeft (λ name. stream_fault l.created name ∷ no_fault ∷ []) (route_source l.created) l.names l.fn.places l.streams (drop l.name-index l.names) l.rest
