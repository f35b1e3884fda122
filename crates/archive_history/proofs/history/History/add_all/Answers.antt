use Rattle.std.proofs.Common.{◌≡◌, ℕ, ◌++◌, [], ◌∷◌, List, length, refl, sym, ◌∙◌, ap, subst, arith, append_assoc}
use mathlib.Core.List.{IsPrefix}
use Rattle.arch_types.specs.declared.row.Row.{Row}
use Rattle.history_items.specs.declared.items.Item.{Item}
use Rattle.history_items.specs.Items.{after_row, after_rows, items_of, row_item, rows_in}
use Rattle.history_items.proofs.ItemLists.{items_of-append, rows_behind}
use Rattle.archive_history.specs.Limits.{IsWithin}
use Rattle.archive_history.proofs.Growing.{first_within, table_next, not_all, fresh_next}
use Rattle.std.proofs.lemmas.List.{append-nil}
use Rattle.archive_history.proofs.Steps.{ended}
use Rattle.archive_history.proofs.history.History.add_all.Goals as goal

no_items : (rows : List Row) → length rows ≡ 0 → rows ≡ []
no_items [] none = refl
no_items (row ∷ rows) none = absurd (omega (arith, none))

-- items with some of the rows behind them
begins_with : (items : List Item) (first rest rows : List Row) → first ++ rest ≡ rows → IsPrefix (items ++ items_of first) (items ++ items_of rows)
begins_with items first rest rows is =
    (items_of rest, append_assoc items (items_of first) (items_of rest) ∙ ap (λ (l : List Item). items ++ l) (sym (items_of-append first rest) ∙ ap items_of is))

pub loop-row-init : goal.loop-row-init
loop-row-init c =
    let gives : c.into_iter-row-iterator.result.rest.items ≡ c.args.rows = (let s = c.into_iter-row-iterator.ensures.into_iter_gives in cc) ∙ c.into_vec-row-items.ensures in
    record {
      left = gives;
      items = sym (append-nil c.args.self.now.items);
      fresh = sym (append-nil c.args.self.now.items);
      tables = refl;
      exponent = refl;
      room = omega (arith, ap length gives, c.requires.room);
    }

pub add-requires-clause-room : goal.add-requires-clause-room
add-requires-clause-room c =
    let step : c.loop-row.row-iterator.rest.items ≡ c.in-Some.row ∷ c.next.new.self.rest.items = let s = c.in-Some.ensures.steps in cc in
    omega (arith, c.loop-row.invariant.room, ap length step)

pub add-requires-clause-table : goal.add-requires-clause-table
add-requires-clause-table c =
    let step : c.loop-row.row-iterator.rest.items ≡ c.in-Some.row ∷ c.next.new.self.rest.items = let s = c.in-Some.ensures.steps in cc in
    let left = ap (λ (l : List Row). c.loop-row.yielded ++ l) (sym step) ∙ c.loop-row.invariant.left in
    omega (arith, c.loop-row.invariant.tables, table_next c.args.self.now.tables c.loop-row.yielded c.next.new.self.rest.items c.args.rows c.in-Some.row left c.requires.tables)

pub add-requires-clause-within : goal.add-requires-clause-within
add-requires-clause-within c =
    let step : c.loop-row.row-iterator.rest.items ≡ c.in-Some.row ∷ c.next.new.self.rest.items = let s = c.in-Some.ensures.steps in cc in
    let left = ap (λ (l : List Row). c.loop-row.yielded ++ l) (sym step) ∙ c.loop-row.invariant.left in
    let items = c.args.self.now.items in
    let done : rows_in c.loop-row.self.items ≡ rows_in items ++ c.loop-row.yielded = ap rows_in c.loop-row.invariant.items ∙ rows_behind items c.loop-row.yielded in
    subst (λ (e : ℕ). IsWithin e (rows_in c.loop-row.self.items ++ c.in-Some.row ∷ [])) (sym c.loop-row.invariant.exponent)
    (subst (λ (l : List Row). IsWithin c.args.self.now.exponent (l ++ c.in-Some.row ∷ [])) (sym done)
    (first_within c.args.self.now.exponent (rows_in items) c.loop-row.yielded c.next.new.self.rest.items c.args.rows c.in-Some.row left c.requires.within))

pub returns-then-not-add-clause-all : goal.returns-then-not-add-clause-all
returns-then-not-add-clause-all c =
    let step : c.loop-row.row-iterator.rest.items ≡ c.in-Some.row ∷ c.next.new.self.rest.items = let s = c.in-Some.ensures.steps in cc in
    let left = ap (λ (l : List Row). c.loop-row.yielded ++ l) (sym step) ∙ c.loop-row.invariant.left in
    let known : after_row (c.args.self.now.items ++ items_of c.loop-row.yielded) c.in-Some.row ≡ c.args.self.now.items ++ items_of c.loop-row.yielded =
    subst (λ (l : List Item). after_row l c.in-Some.row ≡ l) c.loop-row.invariant.items (sym c.add.ensures.items ∙ c.if-not-add.ensures.known refl) in
    (λ is. absurd cc, λ all. absurd (not_all c.args.self.now.items c.loop-row.yielded c.next.new.self.rest.items c.args.rows c.in-Some.row left known all))

pub returns-then-not-add-clause-no_others : goal.returns-then-not-add-clause-no_others
returns-then-not-add-clause-no_others c =
    let step : c.loop-row.row-iterator.rest.items ≡ c.in-Some.row ∷ c.next.new.self.rest.items = let s = c.in-Some.ensures.steps in cc in
    let left = ap (λ (l : List Row). c.loop-row.yielded ++ l) (sym step) ∙ c.loop-row.invariant.left in
    let stays = c.if-not-add.ensures.known refl ∙ c.loop-row.invariant.items in
    subst (λ (l : List Item). IsPrefix l (c.args.self.now.items ++ items_of c.args.rows)) (sym stays) (begins_with c.args.self.now.items c.loop-row.yielded (c.in-Some.row ∷ c.next.new.self.rest.items) c.args.rows left)

pub returns-then-not-add-clause-tables : goal.returns-then-not-add-clause-tables
returns-then-not-add-clause-tables c = c.add.ensures.tables ∙ c.loop-row.invariant.tables

pub returns-then-not-add-clause-exponent : goal.returns-then-not-add-clause-exponent
returns-then-not-add-clause-exponent c = c.add.ensures.exponent ∙ c.loop-row.invariant.exponent

pub loop-row-preserved : goal.loop-row-preserved
loop-row-preserved c =
    let step : c.loop-row.row-iterator.rest.items ≡ c.in-Some.row ∷ c.next.new.self.rest.items = let s = c.in-Some.ensures.steps in cc in
    let row = c.in-Some.row in
    let inv = c.loop-row.invariant in
    let grown = c.if-not-add.ensures.fresh refl in
    let new : after_row (c.args.self.now.items ++ items_of c.loop-row.yielded) row ≡ (c.args.self.now.items ++ items_of c.loop-row.yielded) ++ row_item row ∷ [] =
    subst (λ (l : List Item). after_row l row ≡ l ++ row_item row ∷ []) inv.items (sym c.add.ensures.items ∙ grown) in
    record {
      left = append_assoc c.loop-row.yielded (row ∷ []) c.next.new.self.rest.items ∙ ap (λ (l : List Row). c.loop-row.yielded ++ l) (sym step) ∙ inv.left;
      items =
          grown ∙ ap (λ (l : List Item). l ++ row_item row ∷ []) inv.items ∙ append_assoc c.args.self.now.items (items_of c.loop-row.yielded) (row_item row ∷ [])
          ∙ ap (λ (l : List Item). c.args.self.now.items ++ l) (sym (items_of-append c.loop-row.yielded (row ∷ [])));
      fresh = fresh_next c.args.self.now.items c.loop-row.yielded row inv.fresh new;
      tables = c.add.ensures.tables ∙ inv.tables;
      exponent = c.add.ensures.exponent ∙ inv.exponent;
      room = omega (arith, inv.room, ap length step, c.add.ensures.room);
    }

pub returns-clause-all : goal.returns-clause-all
returns-clause-all c =
    let none : c.loop-row.row-iterator.rest.items ≡ [] = no_items c.loop-row.row-iterator.rest.items (omega (arith, c.in-None.ensures.steps.0, c.loop-row.row-iterator.rest.ok.0)) in
    let all : c.loop-row.yielded ≡ c.args.rows = ended c.loop-row.yielded c.loop-row.row-iterator.rest.items c.args.rows c.loop-row.invariant.left none in
    (λ is. subst (λ (l : List Row). after_rows c.args.self.now.items l ≡ c.args.self.now.items ++ items_of l) all c.loop-row.invariant.fresh, λ new. refl)

pub returns-clause-items : goal.returns-clause-items
returns-clause-items c is =
    let none : c.loop-row.row-iterator.rest.items ≡ [] = no_items c.loop-row.row-iterator.rest.items (omega (arith, c.in-None.ensures.steps.0, c.loop-row.row-iterator.rest.ok.0)) in
    let all : c.loop-row.yielded ≡ c.args.rows = ended c.loop-row.yielded c.loop-row.row-iterator.rest.items c.args.rows c.loop-row.invariant.left none in
    c.loop-row.invariant.items ∙ ap (λ (l : List Row). c.args.self.now.items ++ items_of l) all

pub returns-clause-no_others : goal.returns-clause-no_others
returns-clause-no_others c =
    subst (λ (l : List Item). IsPrefix l (c.args.self.now.items ++ items_of c.args.rows)) (sym c.loop-row.invariant.items) (begins_with c.args.self.now.items c.loop-row.yielded c.loop-row.row-iterator.rest.items c.args.rows c.loop-row.invariant.left)

pub returns-clause-tables : goal.returns-clause-tables
returns-clause-tables c = c.loop-row.invariant.tables

pub returns-clause-exponent : goal.returns-clause-exponent
returns-clause-exponent c = c.loop-row.invariant.exponent
