use Rattle.std.proofs.Common.{◌≡◌, ◌⊎◌, inl, inr, ℕ, ◌+◌, ◌-◌, ◌<◌, List, [], length, false, true, sym, ap, ◌∙◌, subst, arith}
use Rattle.std.specs.Prelude.{◌&&◌, IfNone, Option, Some, None, slice_get}
use Rattle.std.specs.List.{list_any}
use Rattle.arch_types.specs.declared.row.Row.{Row}
use Rattle.arch_types.specs.History.{has_key, is_in_table}
use Rattle.archive_history.specs.Limits.{IsWithinOver}
use Rattle.history_items.specs.Items.{rows_in}
use Rattle.history_items.proofs.ItemLists.{any_row_with}
use Rattle.replay_merge.specs.RowSource.{has_row_at}
use Rattle.sealed_history.specs.SealedHistory.{IsRowAt, SealedHistoryView}
use Rattle.sealed_history.proofs.Alone.{key_there, row_there}
use Rattle.sealed_history.proofs.history.SealedHistory.position.Goals as goal

-- a fact serves where there is nothing
where_none : {X : Type 0} (o : Option X) (P : Type 0) → P → IfNone o P
where_none None P fact = fact
where_none (Some x) P fact = tt

-- the position of a row of the log fits
fits : (e base place : ℕ) (runs log : List Row) → (log ≡ []) ⊎ IsWithinOver e base runs log → place < length log → base + place < 8388608
fits e base place runs log (inl none) within = absurd (omega (arith, within, ap length none))
fits e base place runs log (inr all) within = omega (arith, within, all.few)

pub returns-in_err-place-clause-none : goal.returns-in_err-place-clause-none
returns-in_err-place-clause-none c =
    let t = c.args.table in
    let key = c.args.key in
    let none : has_row_at t key (rows_in c.self.inside.log.items) ≡ false = sym (any_row_with (λ (row : Row). is_in_table t row && has_key key row) c.self.inside.log.items) ∙ c.in_err-place.ensures.none in
    where_none c.from_residual.result (has_row_at t key c.args.self.now.log ≡ false) (subst (λ (v : SealedHistoryView). has_row_at t key v.log ≡ false) c.self.view_is none)

pub overflow_add-result : goal.overflow_add-result
overflow_add-result c =
    let s = c.self.inside in
    let found = c.in_ok-place.ensures.some in
    let at = row_there s.log.items c.in_ok-place.place found.0 c.self.invariant.rows_alone found.1 in
    omega (arith, fits _ _ _ _ _ c.self.invariant.within at.within)

pub returns-clause-some : goal.returns-clause-some
returns-clause-some c =
    let s = c.self.inside in
    let place = c.in_ok-place.place in
    let found = c.in_ok-place.ensures.some in
    let at = row_there s.log.items place found.0 c.self.invariant.rows_alone found.1 in
    let back : s.base + place - s.base ≡ place = omega arith in
    subst (λ (v : SealedHistoryView). IsRowAt v c.args.table c.args.key (s.base + place)) c.self.view_is
    (record {
      in_log = omega arith;
      row = at.row;
      there = ap (slice_get (rows_in s.log.items)) back ∙ at.at;
      key_is = key_there c.args.table c.args.key found.0 at.row at.is found.2;
    })
