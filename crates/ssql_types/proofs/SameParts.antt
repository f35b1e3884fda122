-- Queries whose parts are the same are the same.
use Rattle.std.proofs.Common.{◌≡◌, ℕ, List, Option, refl}
use Rattle.ssql_tokens.specs.declared.symbols.Column.{Column}
use Rattle.arch_types.specs.declared.direction.Direction.{Direction}
use Rattle.ssql_conditions.specs.Formulas.{Formula}
use Rattle.ssql_types.specs.declared.sources.RouteSource.{RouteSource}
use Rattle.ssql_types.specs.declared.query.TypedSelect.{TypedSelect}
use Rattle.ssql_types.specs.declared.query.TypedFlow.{TypedFlow}

abbrev pub select_of : List Column → List ℕ → Formula → Direction → Option ℕ → TypedSelect
select_of columns sources condition direction limit = record { columns = columns; sources = sources; condition = condition; direction = direction; limit = limit }

pub same_select : (a1 a2 : List Column) (b1 b2 : List ℕ) (c1 c2 : Formula) (d1 d2 : Direction) (e1 e2 : Option ℕ) → a1 ≡ a2 → b1 ≡ b2 → c1 ≡ c2 → d1 ≡ d2 → e1 ≡ e2 →
    select_of a1 b1 c1 d1 e1 ≡ select_of a2 b2 c2 d2 e2
same_select a1 a2 b1 b2 c1 c2 d1 d2 e1 e2 a b c d e = rw (a, b, c, d, e) refl

abbrev pub flow_of : List RouteSource → Formula → TypedFlow
flow_of sources condition = record { sources = sources; condition = condition }

pub same_flow : (a1 a2 : List RouteSource) (b1 b2 : Formula) → a1 ≡ a2 → b1 ≡ b2 → flow_of a1 b1 ≡ flow_of a2 b2
same_flow a1 a2 b1 b2 a b = rw (a, b) refl
