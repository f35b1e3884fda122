use Rattle.std.proofs.Common.{[], ◌∷◌, drop}
use Rattle.ssql_types.specs.Rules.{no_fault}
use Rattle.ssql_types.specs.Faults.{table_fault}
use Rattle.ssql_types.specs.Typed.{known_number}
use Rattle.ssql_types.proofs.Lists.{IsListLeft}
use Rattle.ssql_types.proofs.sources.tables_at.Given as goal

abbrev pub invariant-loop-name : goal.invariant-loop-name
invariant-loop-name l = IsListLeft (λ name. table_fault l.tables name ∷ no_fault ∷ []) (known_number l.tables) l.names l.fn.places l.numbers (drop l.name-index l.names) l.rest
