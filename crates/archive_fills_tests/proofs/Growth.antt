-- Stores whose history goes on, and fills that stay right for them.
use Rattle.std.proofs.Common.{◌≡◌, ℕ, List, ◌++◌, refl, sym, ◌∙◌, ap, subst, append_assoc}
use mathlib.Core.List.{IsPrefix}
use Rattle.std.proofs.lemmas.List.{take-append-le}
use Rattle.arch_disk.specs.Disk.{Device}
use Rattle.history_items.specs.declared.items.Item.{Item}
use Rattle.history_items.specs.Items.{prefix}
use Rattle.history_items.specs.Databases.{database_in}
use Rattle.store_fills.specs.Built.{BuiltFill}
use Rattle.store_fills.specs.Filled.{IsRightFill}
use Rattle.store_fills.proofs.RightFills.{right_fill_stays}
use Rattle.archive_store.specs.Head.{Head}
use Rattle.archive_store.specs.StoreView.{StoreView}
use Rattle.archive_store.specs.UnreadRows.{IsReadOn}
use Rattle.archive_store.proofs.PendingFaults.{prefix_self}
use Rattle.archive_store.specs.Installs.{IsRightFor}
use Rattle.archive_fills_tests.specs.Growth.{GoesOnFrom}

prefix_on : {A : Type 0} (xs ys zs : List A) → IsPrefix xs ys → IsPrefix ys zs → IsPrefix xs zs
prefix_on {A = A} xs ys zs first next = (first.0 ++ next.0, sym (append_assoc xs first.0 next.0) ∙ ap (λ (l : List A). l ++ next.0) first.1 ∙ next.1)

module _ {D : Type 0} where
  pub stays : (store : StoreView D) → GoesOnFrom store store
  stays store = record { history = prefix_self store.history; head = refl; exponent = refl }

  -- a store that was read
  pub goes_read : (device : Device D) (old new : StoreView D) → IsReadOn device old new → GoesOnFrom old new
  goes_read device old new on = subst (GoesOnFrom old) (sym on.same) (record { history = prefix_self old.history; head = refl; exponent = refl })

  pub goes_on : (old mid new : StoreView D) → GoesOnFrom old mid → GoesOnFrom mid new → GoesOnFrom old new
  goes_on old mid new first next = record {
    history = prefix_on old.history mid.history new.history first.history next.history;
    head = next.head ∙ first.head;
    exponent = next.exponent ∙ first.exponent;
  }

  pub stays_right : (old new : StoreView D) (done : BuiltFill) → GoesOnFrom old new → IsRightFor old done → IsRightFor new done
  stays_right old new done on right = (
    (
      right.0.0 ∙ ap (database_in old.head.mdb) (sym (take-append-le done.base old.history on.history.0 right.1.may.within))
          ∙ ap (λ (l : List Item). database_in old.head.mdb (prefix done.base l)) on.history.1 ∙ ap (λ (h : Head). database_in h.mdb (prefix done.base new.history)) (sym on.head),
      right.0.1 ∙ sym on.exponent,
    ),
    subst (λ (e : ℕ). IsRightFill e new.head.mdb new.history done.interval done.base done.set) (sym on.exponent)
        (subst (λ (h : Head). IsRightFill old.exponent h.mdb new.history done.interval done.base done.set) (sym on.head)
        (subst (λ l. IsRightFill old.exponent old.head.mdb l done.interval done.base done.set) on.history.1
        (right_fill_stays old.exponent old.head.mdb old.history on.history.0 done.interval done.base done.set right.1))),
  )
