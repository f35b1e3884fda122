use Rattle.std.proofs.Common.{[], ◌∷◌, drop}
use Rattle.ssql_types.specs.declared.columns.ColumnKind.TheVariants as k
use Rattle.ssql_types.specs.Rules.{no_fault}
use Rattle.ssql_types.specs.Faults.{literal_fault}
use Rattle.ssql_types.specs.Literals.{literal_name}
use Rattle.ssql_types.proofs.Lists.{IsListLeft}
use Rattle.ssql_types.proofs.predicate.names_at.Given as goal

abbrev pub invariant-loop-literal : goal.invariant-loop-literal
invariant-loop-literal l = IsListLeft (λ literal. literal_fault k.Pname literal ∷ no_fault ∷ []) (literal_name l.names) l.literals l.fn.places l.numbers (drop l.literal-index l.literals) l.rest
