use Rattle.std.proofs.Common.{◌≡◌, ◌++◌, ◌∙◌, ap, append_assoc, ℕ, subst, sym, List, inr}
use mathlib.Core.List.{IsPrefix}
use Rattle.arch_types.specs.declared.row.Row.{Row}
use Rattle.archive_history.specs.Limits.{IsWithin, IsWithinOver}
use Rattle.history_items.specs.Items.{items_of, rows_in}
use Rattle.history_items.proofs.ItemLists.{items_of-append, rows_behind}
use Rattle.run_pages.specs.Placed.{rows_of_placed}
use Rattle.sealed_rows.specs.Rows.{in_order}
use Rattle.sealed_history.specs.SealedHistory.{SealedHistoryView, items_over, rows_told}
use Rattle.sealed_history.proofs.Alone.{log_alone}
use Rattle.sealed_history.proofs.Within.{log_within, over_prefix}
use Rattle.sealed_history.proofs.history.SealedHistory.add_all.Goals as goal

pub add_all-requires-clause-within : goal.add_all-requires-clause-within
add_all-requires-clause-within c =
    let h = c.args.self.now in
    subst (λ (v : SealedHistoryView). IsWithin v.exponent (v.log ++ c.args.rows)) (sym c.self.view_is)
    (log_within h.exponent h.base (rows_of_placed h.placed) (h.log ++ c.args.rows) c.requires.within)

pub invariant_of-self : goal.invariant_of-self
invariant_of-self c =
    let s = c.self.inside in
    let rows = c.args.rows in
    let new = c.add_all.new.self in
    let placed = rows_told s.told.items in
    let ends = log_alone new.items s.log.items rows c.self.invariant.rows_alone c.add_all.ensures.no_others in
    let all = subst (λ (v : SealedHistoryView). IsWithinOver v.exponent v.base (rows_of_placed v.placed) (v.log ++ rows)) (sym c.self.view_is) c.requires.within in
    let some = over_prefix s.log.exponent s.base (rows_of_placed placed) (rows_in new.items) (rows_in s.log.items ++ rows) ends.1 all in
    record {
      sums_are = c.self.invariant.sums_are;
      exponent = c.self.invariant.exponent ∙ sym c.add_all.ensures.exponent;
      tables = c.self.invariant.tables ∙ sym c.add_all.ensures.tables;
      rows_alone = ends.0;
      within = inr (subst (λ (e : ℕ). IsWithinOver e s.base (rows_of_placed placed) (rows_in new.items)) (sym c.add_all.ensures.exponent) some);
    }

pub returns-clause-log : goal.returns-clause-log
returns-clause-log c is =
    ap rows_in (c.add_all.ensures.items is) ∙ rows_behind c.self.inside.log.items c.args.rows ∙ ap (λ (v : SealedHistoryView). v.log ++ c.args.rows) c.self.view_is

pub returns-clause-items : goal.returns-clause-items
returns-clause-items c is =
    let before = in_order (rows_told c.self.inside.told.items) in
    let log = rows_in c.self.inside.log.items in
    let rows = c.args.rows in
    ap (λ (l : List Row). items_of (before ++ l)) (ap rows_in (c.add_all.ensures.items is) ∙ rows_behind c.self.inside.log.items rows)
    ∙ ap items_of (sym (append_assoc before log rows)) ∙ items_of-append (before ++ log) rows
    ∙ ap (λ (v : SealedHistoryView). v.items ++ items_of rows) c.self.view_is

pub returns-clause-no_others : goal.returns-clause-no_others
returns-clause-no_others c =
    let ends = log_alone c.add_all.new.self.items c.self.inside.log.items c.args.rows c.self.invariant.rows_alone c.add_all.ensures.no_others in
    subst (λ (v : SealedHistoryView). IsPrefix (rows_in c.add_all.new.self.items) (v.log ++ c.args.rows)) c.self.view_is ends.1
