-- What was published of a store begins it, and each store that goes on from it.
use Rattle.std.proofs.Common.{◌≡◌, ℕ, Bool, true, false, refl, sym, ◌∙◌, ap}
use Rattle.std.specs.Prelude.{Some, if◌then◌else◌}
use Rattle.logbook.specs.Pages.{Book}
use Rattle.archive_store.specs.Head.{Head}
use Rattle.archive_store.specs.StoreView.{OnlyAppends, StoreView}
use Rattle.glance_log.specs.Sightings.{MayFollow, Sighting}
use Rattle.glance_log.proofs.Prefixes.{prefix_self, prefix_trans}
use Rattle.store_shelf.specs.declared.kept.Kept.{Kept}
use Rattle.store_shelf.specs.Publications.{BeginsStore, kept_of, made_of, publication_of, published_of}

module _ {D : Type 0} where
  pub begins_itself : (book : Book) (last : Bool) (store : StoreView D) → BeginsStore (published_of book last store) store
  begins_itself book last store = record { history = prefix_self store.history; fills = prefix_self store.fills; fixed = refl }

  abbrev kept_by : Head → ℕ → D → Kept D
  kept_by head exponent opened = record { head = head; exponent = exponent; opened = opened }

  -- calls of a store only append, and change nothing that stays
  pub begins_on : (made : Sighting (Kept D)) (old new : StoreView D) → BeginsStore made old → OnlyAppends old new → BeginsStore made new
  begins_on made old new begins on = record {
    history = prefix_trans made.history old.history new.history begins.history on.history;
    fills = prefix_trans made.fills old.fills new.fills begins.fills on.fills;
    fixed = begins.fixed ∙ ap Some kept;
  }
    where
      kept : kept_of old ≡ kept_of new
      kept = ap (λ (h : Head). kept_by h old.exponent old.opened) (sym on.head) ∙ ap (λ (e : ℕ). kept_by new.head e old.opened) (sym on.exponent) ∙ ap (λ (d : D). kept_by new.head new.exponent d) (sym on.opened)

  pub may_publish : (last : Bool) (made : Sighting (Kept D)) (store : StoreView D) → BeginsStore made store → made.closed ≡ false → MayFollow made (publication_of last store)
  may_publish last made store begins unclosed = record { history = begins.history; fills = begins.fills; fixed = begins.fixed; unclosed = unclosed }

  -- behind the last publication nothing is made
  pub made_behind : (last : Bool) (made : Sighting (Kept D)) (store : StoreView D) → made.closed ≡ true → made ≡ made_of last made store
  made_behind last made store closed = sym (ap (λ (b : Bool). if b then made else published_of made.book last store) closed)

  pub made_next : (last : Bool) (made : Sighting (Kept D)) (store : StoreView D) → made.closed ≡ false → published_of made.book last store ≡ made_of last made store
  made_next last made store unclosed = sym (ap (λ (b : Bool). if b then made else published_of made.book last store) unclosed)

  -- what is made begins the store
  pub made_begins : (last : Bool) (made : Sighting (Kept D)) (store : StoreView D) → BeginsStore made store → BeginsStore (made_of last made store) store
  made_begins last made store begins = go made.closed
    where
      go : (b : Bool) → BeginsStore (if b then made else published_of made.book last store) store
      go true = begins
      go false = begins_itself made.book last store
