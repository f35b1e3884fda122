use Rattle.std.proofs.Common.{◌≡◌, ◌<◌, ◌∙◌, List, length, sym, ap, subst, arith}
use Rattle.std.specs.Prelude.{Result, Ok, Err, IfOk, Some}
use mathlib.Core.List.{IsPrefix}
use Rattle.asks.specs.Names.{table_number}
use Rattle.history_items.specs.declared.items.Item.{Item}
use Rattle.history_items.specs.Items.{rows_in}
use Rattle.history_items.specs.Databases.{names_of_database}
use Rattle.mdb_items.specs.Texts.{Text}
use Rattle.replay_merge.specs.Cursor.{CursorView, rest_of}
use Rattle.replay_merge.specs.Replay.{replay_of}
use Rattle.archive_store.specs.Replays.{IsReplayOpened, rows_below}
use Rattle.archive_store.specs.StoreView.{StoreView}
use Rattle.archive_images.proofs.RowsAlone.{names_of_head}
use Rattle.archive_store.proofs.store.Store.replay_open.Goals as goal

-- what three facts of what was made give
all_three : {X E : Type 0} (r : Result X E) (P Q R S : X → Type 0) → ((x : X) → P x → Q x → R x → S x) → IfOk r P → IfOk r Q → IfOk r R → IfOk r S
all_three (Ok x) P Q R S gives p q r = gives x p q r
all_three (Err e) P Q R S gives p q r = tt

pub cursor_at_front-requires : goal.cursor_at_front-requires
cursor_at_front-requires g c =
    let within = subst (λ (x : StoreView g.row.D.Denot). c.args.found.now.table < length x.head.tables) (sym c.self.view_is) c.requires.found.within in
    omega (arith, within, c.self.invariant.1)

pub returns-clause-opened : goal.returns-clause-opened
returns-clause-opened g c =
    let s = c.self.inside in
    let found = c.args.found.now in
    let request = found.request in
    let names = names_of_database s.head.mdb in
    let table = subst (λ (x : StoreView g.row.D.Denot). table_number x.head.tables request.table ≡ Some found.table) (sym c.self.view_is) c.requires.found.table in
    subst (λ (x : StoreView g.row.D.Denot). IfOk c.cursor_at_front.result (IsReplayOpened x.head x.history request)) c.self.view_is
    (all_three c.cursor_at_front.result (λ (cursor : CursorView). cursor.table ≡ found.table) (λ (cursor : CursorView). cursor.front ≡ length s.history.items)
    (λ (cursor : CursorView). (later : List Item) → IsPrefix s.history.items later → rest_of cursor (rows_below later) ≡ replay_of names found.table request (rows_in s.history.items))
    (IsReplayOpened s.head s.history.items request)
    (λ cursor same front replay. record {
      table = table ∙ ap Some (sym same);
      front = front;
      replay = λ later begins.
          replay later begins ∙ ap (λ t. replay_of names t request (rows_in s.history.items)) (sym same)
          ∙ ap (λ (n : List Text). replay_of n cursor.table request (rows_in s.history.items)) (sym (names_of_head s.head.mdb s.history.items c.self.invariant.0.alone));
    })
    c.cursor_at_front.ensures.table c.cursor_at_front.ensures.front c.cursor_at_front.ensures.replay)
