use Rattle.std.proofs.Common.{◌≡◌, ◌∙◌, ℕ, List, Bool, true, false, refl, sym}
use Rattle.std.specs.Prelude.{if◌then◌else◌}
use Rattle.stream_graph.specs.RouteTables.{flow_passes_on, has_passed, with_table}
use Rattle.stream_graph.proofs.passing.go_over.Goals as goal

pub returns-in_ok-push-in-Stream-clause-passed : goal.returns-in_ok-push-in-Stream-clause-passed
returns-in_ok-push-in-Stream-clause-passed c = rw (c.in-Stream.is, c.in_ok-push-in-Stream.ensures.items, c.passes_on-passes.ensures, c.as_slice.ensures.value) refl

left_as_they_are : (tables : List ℕ) (table : ℕ) (passes : Bool) → passes ≡ false → tables ≡ (if passes then with_table tables table else tables)
left_as_they_are tables table true e = absurd (cc (e))
left_as_they_are tables table false e = refl

pub returns-else-passes_on-clause-tables : goal.returns-else-passes_on-clause-tables
returns-else-passes_on-clause-tables c =
    let none : flow_passes_on (has_passed c.args.passed.now.items) c.args.row.now c.in-Insert.flow ≡ false = rw c.as_slice-in-Insert.ensures.value at (sym c.passes_on.ensures ∙ c.if-passes_on.false) in
    rw c.in-Insert.is (left_as_they_are c.args.tables.now c.in-Insert.table (flow_passes_on (has_passed c.args.passed.now.items) c.args.row.now c.in-Insert.flow) none)
