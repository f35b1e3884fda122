-- A turn, from its beginning and its end.
use Rattle.std.proofs.Common.{◌≡◌, ◌⊎◌, ℕ, ◌-◌, ◌≤◌, Bool, List, [], ◌∷◌, ◌++◌, length, take, Option, Result, Ok, Err, IfOk, IfErr, MatchResult, refl, sym, ap, ◌∙◌, subst}
use Rattle.std.specs.Prelude.{IsErrAnd}
use Rattle.std.specs.List.{range_with_len}
use mathlib.Core.List.{IsPrefix}
use Rattle.arch_disk.specs.Disk.{Device}
use Rattle.history_items.specs.declared.fills.Fill.{Fill}
use Rattle.history_items.specs.declared.items.Item.{Item}
use Rattle.turn_cell.specs.Lists.{left_seen}
use Rattle.turn_cell.specs.Pass.{PassView, Found, Left}
use Rattle.archive_store.specs.StoreView.{StoreView}
use Rattle.glance_board.specs.Shelves.{ShelfView}
use Rattle.store_shelf.specs.declared.kept.Kept.{Kept}
use Rattle.live_archive.specs.declared.held.HeldStore.{HeldStore}
use Rattle.live_archive.specs.GoesOn.{GoesOn}
use Rattle.live_archive.specs.Laws.{TellsTurn}
use Rattle.live_archive.specs.Closings.{closings}
use Rattle.live_archive.specs.Shelving.{HeldGoesOn, KeepsShelf, LastIsClosing, TakesClosing, TakesNoClosing}
use Rattle.live_archive.specs.Turns.{TookTurn, Turned}
use Rattle.live_archive.proofs.Going.{goes_trans, prefix_length, prefix_trans}
use Rattle.live_archive.proofs.Shelving.{goes_last, held_last, held_on, held_published}

-- what is said of either answer
pub matched : {X E : Type 0} (r : Result X E) (P : X → Type 0) (Q : E → Type 0) → IfOk r P → IfErr r Q → MatchResult r P Q
matched (Ok x) P Q p q = p
matched (Err e) P Q p q = q

-- and, of a refusal, twice
pub matched_both : {X E : Type 0} (r : Result X E) (P : X → Type 0) (Q S : E → Type 0) → IfOk r P → IfErr r Q → IfErr r S → MatchResult r P (λ e. Q e × S e)
matched_both (Ok x) P Q S p q s = p
matched_both (Err e) P Q S p q s = (q, s)

-- a refusal that is handed on
pub handed_on : {X E : Type 0} (r : Result X E) (refusal : E) (P : X → Type 0) (Q : E → Type 0) → IsErrAnd r (λ e. e ≡ refusal) → Q refusal → MatchResult r P Q
handed_on (Ok x) refusal P Q is q = absurd is
handed_on (Err e) refusal P Q is q = subst Q (sym is) q

-- what a list begins with is the list cut to its length
cut_at : {A : Type 0} (xs ys : List A) → IsPrefix xs ys → take (length xs) ys ≡ xs
cut_at {A = A} xs ys p = ap (take (length xs)) (sym p.1) ∙ take_all xs p.0
  where
    take_all : (xs more : List A) → take (length xs) (xs ++ more) ≡ xs
    take_all [] more = refl
    take_all (x ∷ xs) more = ap (λ (l : List A). x ∷ l) (take_all xs more)

-- what the end of a turn asks of what it leaves
pub record Leaving {D T : Type 0} (device : Device D) (first after : HeldStore D) (mid : PassView Item Fill T) : Type 0 where
  pub begins : IsPrefix mid.history.seen after.store.history
  pub fills_begin : IsPrefix mid.fills.seen after.store.fills
  pub value : HeldGoesOn device first after

module _ {D T : Type 0} (device : Device D) where
  -- a store that goes on from the one that the turn found may be left, with its shelf as it was
  pub leaving : (first before : HeldStore D) (after : StoreView D) (old mid : PassView Item Fill T) → HeldGoesOn device first before → GoesOn device before.store after → closings after.fills ≡ closings before.store.fills
      → Found old mid before.store.history before.store.fills → Leaving device first (record before { store = after }) mid
  leaving first before after old mid found goes none entered =
      subst (Leaving device first (record before { store = after })) (sym entered) (record { begins = goes.appends.history; fills_begin = goes.appends.fills; value = held_on device first before after found goes none })

  -- said of all as it is left
  pub leaving_kept : (first before next : HeldStore D) (old mid : PassView Item Fill T) → HeldGoesOn device first before → GoesOn device before.store next.store → closings next.store.fills ≡ closings before.store.fills
      → next.shelf ≡ before.shelf → next.has_closing ≡ before.has_closing → Found old mid before.store.history before.store.fills → Leaving device first next mid
  leaving_kept first before next old mid found goes none shelf closing entered =
      let kept = leaving first before next.store old mid found goes none entered in
      subst (λ (b : Bool). Leaving device first (record next { has_closing = b }) mid) (sym closing)
      (subst (λ (s : Option (ShelfView (Kept D))). Leaving device first (record before { store = next.store; shelf = s }) mid) (sym shelf) kept)

  -- or with one that went on
  pub leaving_published : (first before next : HeldStore D) (after : StoreView D) (old mid : PassView Item Fill T) → HeldGoesOn device first before → GoesOn device before.store after → closings after.fills ≡ closings before.store.fills
      → TakesNoClosing (record before { store = after }) next → KeepsShelf before.shelf next.shelf after → LastIsClosing next
      → Found old mid before.store.history before.store.fills → Leaving device first next mid
  leaving_published first before next after old mid found goes none takes keeps last entered =
      subst (Leaving device first next) (sym entered) (record {
        begins = subst (λ (s : StoreView D). IsPrefix before.store.history s.history) (sym takes.store) goes.appends.history;
        fills_begin = subst (λ (s : StoreView D). IsPrefix before.store.fills s.fills) (sym takes.store) goes.appends.fills;
        value = held_published device first before next after found goes none takes keeps last;
      })

  -- or with the last publication
  pub leaving_last : (first before next : HeldStore D) (old mid : PassView Item Fill T) → HeldGoesOn device first before → TakesClosing before next ⊎ TakesNoClosing before next
      → KeepsShelf before.shelf next.shelf next.store → LastIsClosing next
      → Found old mid before.store.history before.store.fills → Leaving device first next mid
  leaving_last first before next old mid found takes keeps last entered =
      let goes = goes_last device first before next found takes in
      subst (Leaving device first next) (sym entered) (record {
        begins = goes.appends.history;
        fills_begin = goes.appends.fills;
        value = held_last device first before next found takes keeps last;
      })

  -- lists that were left are those of the store
  pub left_by : (next : HeldStore D) (after : StoreView D) (mid new : PassView Item Fill T) → next.store ≡ after → Left mid new next.store.history next.store.fills → Left mid new after.history after.fills
  left_by next after mid new is left = subst (λ (s : StoreView D). Left mid new s.history s.fills) is left

  -- what a call says of a turn may be said otherwise
  pub turn_says : {first : StoreView D} {old new : PassView Item Fill T} {P Q : StoreView D → StoreView D → Type 0}
      → TookTurn device first old new P → ((before after : StoreView D) → P before after → Q before after) → TookTurn device first old new Q
  turn_says turn says = record { before = turn.before; after = turn.after; turned = turn.turned; said = says turn.before turn.after turn.said }

  pub took : (first before after : StoreView D) (old mid new : PassView Item Fill T) (Said : StoreView D → StoreView D → Type 0)
      → GoesOn device first before → GoesOn device before after
      → IsPrefix old.history.seen before.history → IsPrefix old.fills.seen before.fills
      → Found old mid before.history before.fills → Left mid new after.history after.fills
      → Said before after → TookTurn device first old new Said
  took first before after old mid new Said found goes begins fills_begin entered left said = record {
    before = before;
    after = after;
    turned = record {
      found = found;
      goes = goes;
      begins = begins;
      fills_begin = fills_begin;
      pass = left ∙ ap (λ (m : PassView Item Fill T). record m { history = left_seen m.history after.history; fills = left_seen m.fills after.fills; standing = new.standing }) entered;
    };
    said = said;
  }

  -- what a turn tells of its pass
  pub told : (first before after : StoreView D) (old new : PassView Item Fill T) → Turned device first before after old new → TellsTurn first before after old new
  told first before after old new t =
      let is = t.pass in
      let seen : new.history.seen ≡ after.history = ap (λ (p : PassView Item Fill T). p.history.seen) is in
      let fills : new.fills.seen ≡ after.fills = ap (λ (p : PassView Item Fill T). p.fills.seen) is in
      let found : new.history.found ≡ length before.history = ap (λ (p : PassView Item Fill T). p.history.found) is in
      let fills_found : new.fills.found ≡ length before.fills = ap (λ (p : PassView Item Fill T). p.fills.found) is in
      let grown = t.goes.appends in
      record {
        turns = ap (λ (p : PassView Item Fill T). p.turns) is;
        share = ap (λ (p : PassView Item Fill T). p.share) is;
        seen = (seen, fills);
        begins = (
          subst (IsPrefix old.history.seen) (sym seen) (prefix_trans old.history.seen before.history after.history t.begins grown.history),
          subst (IsPrefix old.fills.seen) (sym fills) (prefix_trans old.fills.seen before.fills after.fills t.fills_begin grown.fills),
        );
        found = (found, fills_found);
        later = (
          subst (λ (n : ℕ). length old.history.seen ≤ n) (sym found) (prefix_length old.history.seen before.history t.begins),
          subst (λ (n : ℕ). length old.fills.seen ≤ n) (sym fills_found) (prefix_length old.fills.seen before.fills t.fills_begin),
        );
        cut = (
          ap (λ (n : ℕ). take n new.history.seen) found ∙ (ap (take (length before.history)) seen ∙ cut_at before.history after.history grown.history),
          ap (λ (n : ℕ). take n new.fills.seen) fills_found ∙ (ap (take (length before.fills)) fills ∙ cut_at before.fills after.fills grown.fills),
        );
        places = ap (λ (p : PassView Item Fill T). p.history.places) is
            ∙ ap (λ (n : ℕ). old.history.places ++ range_with_len n (length after.history - n)) (sym found)
            ∙ ap (λ (l : List Item). old.history.places ++ range_with_len new.history.found (length l - new.history.found)) (sym seen);
        fills_places = ap (λ (p : PassView Item Fill T). p.fills.places) is
            ∙ ap (λ (n : ℕ). old.fills.places ++ range_with_len n (length after.fills - n)) (sym fills_found)
            ∙ ap (λ (l : List Fill). old.fills.places ++ range_with_len new.fills.found (length l - new.fills.found)) (sym fills);
        same = (goes_trans device first before after t.found t.goes).appends;
      }
