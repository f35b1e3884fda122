use Rattle.std.proofs.Common.{◌≡◌, ◌∙◌, ℕ, ap, sym, subst, List, length, arith}
use Rattle.std.specs.Prelude.{take}
use Rattle.std.proofs.Math.Seq.{take-append_seam}
use mathlib.Core.List.{IsPrefix}
use Rattle.arch_types.specs.declared.row.Row.{Row}
use Rattle.history_items.specs.declared.fills.Fill.{Fill}
use Rattle.history_items.specs.declared.items.Item.{Item}
use Rattle.history_items.specs.Items.{items_of}
use Rattle.interval_fills.specs.Invariant.{MachineInvariant}
use Rattle.interval_fills.specs.Steps.{state_of}
use Rattle.archive_core.specs.Core.{CoreView}
use Rattle.archive_core.proofs.OfRows.{taken_back}
use Rattle.archive_core.proofs.machine.Core.run.Goals.{After-truncate-in-Err}
use Rattle.archive_core.proofs.machine.Core.run.Goals as goal

-- cut to their lengths of before, rows and fills are those of before
module _ (c : After-truncate-in-Err) where
  rows_back : c.truncate.new.self.items ≡ c.self.inside.rows.items
  rows_back =
      let old : c.args.self.now.state.history ≡ items_of c.self.inside.rows.items = ap (λ (v : CoreView). v.state.history) (sym c.self.view_is) in
      let new : c.run_each.new.self.state.history ≡ items_of c.self-2.inside.rows.items = ap (λ (v : CoreView). v.state.history) (sym c.self-2.view_is) in
      let began : IsPrefix (items_of c.self.inside.rows.items) (items_of c.self-2.inside.rows.items) =
      subst (λ (l : List Item). IsPrefix l (items_of c.self-2.inside.rows.items)) old (subst (λ (l : List Item). IsPrefix c.args.self.now.state.history l) new c.run_each.ensures.history) in
      let count : c.len-rows.result ≡ length c.self.inside.rows.items = omega (arith, c.len-rows.ensures) in
      c.truncate.ensures.items ∙ ap (λ (n : ℕ). take n c.self-2.inside.rows.items) count ∙ taken_back c.self.inside.rows.items c.self-2.inside.rows.items began

  fills_back : c.truncate-in-Err.new.self.items ≡ c.self.inside.fills.items
  fills_back =
      let old : c.args.self.now.state.fills ≡ c.self.inside.fills.items = ap (λ (v : CoreView). v.state.fills) (sym c.self.view_is) in
      let new : c.run_each.new.self.state.fills ≡ c.self-2.inside.fills.items = ap (λ (v : CoreView). v.state.fills) (sym c.self-2.view_is) in
      let began : IsPrefix c.self.inside.fills.items c.self-2.inside.fills.items =
      subst (λ (l : List Fill). IsPrefix l c.self-2.inside.fills.items) old (subst (λ (l : List Fill). IsPrefix c.args.self.now.state.fills l) new c.run_each.ensures.fills) in
      let count : c.len-fills.result ≡ length c.self.inside.fills.items = omega (arith, c.len-fills.ensures) in
      c.truncate-in-Err.ensures.items ∙ ap (λ (n : ℕ). take n c.self-2.inside.fills.items) count
      ∙ ap (take (length c.self.inside.fills.items)) (sym began.1) ∙ take-append_seam c.self.inside.fills.items began.0

  exponent_back : c.self-2.inside.exponent ≡ c.self.inside.exponent
  exponent_back = ap (λ (v : CoreView). v.exponent) c.self-2.view_is ∙ c.run_each.ensures.archive.2 ∙ ap (λ (v : CoreView). v.exponent) (sym c.self.view_is)

  invariant_back : MachineInvariant c.self-2.inside.exponent (state_of (items_of c.truncate.new.self.items) c.truncate-in-Err.new.self.items)
  invariant_back =
      subst (λ (e : ℕ). MachineInvariant e (state_of (items_of c.truncate.new.self.items) c.truncate-in-Err.new.self.items)) (sym exponent_back)
      (subst (λ (l : List Row). MachineInvariant c.self.inside.exponent (state_of (items_of l) c.truncate-in-Err.new.self.items)) (sym rows_back)
      (subst (λ (l : List Fill). MachineInvariant c.self.inside.exponent (state_of (items_of c.self.inside.rows.items) l)) (sym fills_back) c.self.invariant))

pub invariant_of-self : goal.invariant_of-self
invariant_of-self c = invariant_back c

pub returns-in-Err-clause-invariant : goal.returns-in-Err-clause-invariant
returns-in-Err-clause-invariant c = invariant_back c

pub returns-in-Err-clause-refused : goal.returns-in-Err-clause-refused
returns-in-Err-clause-refused c =
    let rows = rows_back c in
    let fills = fills_back c in
    let exponent = exponent_back c in
    let mdb : c.self-2.inside.mdb ≡ c.self.inside.mdb = ap (λ (v : CoreView). v.mdb) c.self-2.view_is ∙ c.run_each.ensures.archive.1 ∙ ap (λ (v : CoreView). v.mdb) (sym c.self.view_is) in
    let tables = ap (λ (v : CoreView). v.tables) c.self-2.view_is ∙ c.run_each.ensures.archive.0 ∙ ap (λ (v : CoreView). v.tables) (sym c.self.view_is) in
    rw (tables, mdb, exponent, rows, fills) c.self.view_is
