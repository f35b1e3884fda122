use Rattle.std.proofs.Common.{[], ◌∷◌, drop}
use Rattle.ssql_types.specs.Rules.{no_fault}
use Rattle.ssql_types.proofs.Lists.{IsListLeft}
use Rattle.ssql_types.proofs.query.columns_at.Given as goal

abbrev pub invariant-loop-column : goal.invariant-loop-column
invariant-loop-column l = IsListLeft (λ column. no_fault ∷ no_fault ∷ []) (λ column. column) l.columns l.fn.places l.listed (drop l.column-index l.columns) l.rest
