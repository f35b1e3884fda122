use Rattle.std.proofs.Common.{◌≡◌, false, map, reverse, refl}
use Rattle.ssql_conditions.specs.declared.condition.TypedPiece.{TypedPiece}
use Rattle.ssql_conditions.specs.declared.condition.TypedPiece.TheVariants as p
use Rattle.ssql_conditions.specs.Formulas.{is_paren}
use Rattle.ssql_conditions.specs.Truth.{truth_group}
use Rattle.ssql_conditions.proofs.truth.behind.Goals as goal

no_paren : (piece : TypedPiece) → (piece ≡ p.Open → ⊥) → (piece ≡ p.Close → ⊥) → is_paren piece ≡ false
no_paren p.Open opens closes = absurd (opens refl)
no_paren p.Close opens closes = absurd (closes refl)
no_paren p.Not opens closes = refl
no_paren p.And opens closes = refl
no_paren p.Or opens closes = refl
no_paren (p.Predicate x) opens closes = refl

pub returns-in_default-clause-groups : goal.returns-in_default-clause-groups
returns-in_default-clause-groups c = c.inside.ensures.groups (no_paren c.args.piece.now c.in_default.not-Open c.in_default.not-Close) (map truth_group (reverse c.args.outer.now.items))
