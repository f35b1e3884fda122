-- Both lists of a store only grow.
use Rattle.std.proofs.Common.{◌≡◌, List, [], ◌∷◌, ◌++◌, sym, subst}
use mathlib.Core.List.{IsPrefix}
use Rattle.history_items.specs.declared.fills.Fill.{Fill}
use Rattle.history_items.specs.declared.items.Item.{Item}
use Rattle.archive_store.specs.StoreView.{StoreView, OnlyAppends}
use Rattle.archive_images.proofs.PendingFaults.{prefix_self}

same_prefix : {A : Type 0} (old new : List A) → new ≡ old → IsPrefix old new
same_prefix {A = A} old new is = subst (λ (l : List A). IsPrefix old l) (sym is) (prefix_self old)

module _ {D : Type 0} where
  -- nothing was added
  pub goes_same : (old new : StoreView D) → new.history ≡ old.history → new.fills ≡ old.fills → new.head ≡ old.head → new.exponent ≡ old.exponent → new.opened ≡ old.opened → new.sealed ≡ old.sealed → OnlyAppends old new
  goes_same old new history fills head exponent opened sealed = record { history = same_prefix old.history new.history history; fills = same_prefix old.fills new.fills fills; head = head; exponent = exponent; opened = opened; sealed = sealed }

  -- items were added to the history
  pub goes_items : (old new : StoreView D) (more : List Item) → new.history ≡ old.history ++ more → new.fills ≡ old.fills → new.head ≡ old.head → new.exponent ≡ old.exponent → new.opened ≡ old.opened → new.sealed ≡ old.sealed → OnlyAppends old new
  goes_items old new more history fills head exponent opened sealed = record { history = (more, sym history); fills = same_prefix old.fills new.fills fills; head = head; exponent = exponent; opened = opened; sealed = sealed }

  -- an item was added to the fill list
  pub goes_fill : (old new : StoreView D) (item : Fill) → new.history ≡ old.history → new.fills ≡ old.fills ++ item ∷ [] → new.head ≡ old.head → new.exponent ≡ old.exponent → new.opened ≡ old.opened → new.sealed ≡ old.sealed → OnlyAppends old new
  goes_fill old new item history fills head exponent opened sealed = record { history = same_prefix old.history new.history history; fills = (item ∷ [], sym fills); head = head; exponent = exponent; opened = opened; sealed = sealed }
