-- What a caller knows of a beginning of a history, of the whole.
use Rattle.std.proofs.Common.{◌≡◌, ℕ, ◌+◌, ◌<◌, List, [], ◌∷◌, ◌++◌, length, sym, ap, ◌∙◌, subst, arith, length-append}
use Rattle.std.specs.Prelude.{ℤ}
use Rattle.std.specs.List.{AllByRecursion}
use Rattle.std.proofs.lemmas.List.{take-append-le}
use mathlib.Core.List.{IsPrefix}
use Rattle.history_items.specs.declared.items.Item.{Item}
use Rattle.history_items.specs.Databases.{database_in, names_in}
use Rattle.history_items.specs.Items.{prefix}
use Rattle.history_items.proofs.Databases.{names_go_on}
use Rattle.store_fills.specs.Built.{BuiltFill}
use Rattle.store_fills.specs.Filled.{IsRightFill}
use Rattle.store_fills.proofs.RightFills.{right_fill_stays}
use Rattle.archive_store.specs.declared.batch.Arrival.{Arrival}
use Rattle.archive_store.specs.declared.batch.Batch.{Batch}
use Rattle.archive_store.specs.Head.{Head}
use Rattle.archive_store.specs.Batches.{IsArrival, IsBatch}
use Rattle.archive_store.specs.Installs.{IsRightFor}
use Rattle.archive_store.specs.StoreView.{StoreView}

-- a packet name stays one of the history's
arrival_later : (head : Head) (a b : List Item) (rectime : ℤ) (arrival : Arrival) → IsPrefix a b → IsArrival head a rectime arrival → IsArrival head b rectime arrival
arrival_later head a b rectime arrival p is = record {
  link_low = is.link_low;
  link_high = is.link_high;
  packet = is.packet;
  carries = is.carries;
  received = is.received;
  key = is.key;
  pname = let n = names_go_on head.mdb a p.0 in
      let more : length (names_in head.mdb (a ++ p.0)) ≡ length (names_in head.mdb a) + length n.0 = ap length n.1 ∙ length-append (names_in head.mdb a) n.0 in
      let low = is.pname in
      subst (λ (l : List Item). arrival.row.pname < length (names_in head.mdb l)) p.1 (omega (arith, more, low));
  few_tables = is.few_tables;
  tables = is.tables;
}

arrivals_later : (head : Head) (a b : List Item) (rectime : ℤ) (arrivals : List Arrival) → IsPrefix a b → AllByRecursion (IsArrival head a rectime) arrivals → AllByRecursion (IsArrival head b rectime) arrivals
arrivals_later head a b rectime [] p each = each
arrivals_later head a b rectime (arrival ∷ arrivals) p each = (arrival_later head a b rectime arrival p each.0, arrivals_later head a b rectime arrivals p each.1)

-- a batch of a history is one of each that begins with it
pub batch_later : (head head' : Head) (a b : List Item) (batch : Batch) → head' ≡ head → IsPrefix a b → IsBatch head a batch → IsBatch head' b batch
batch_later head head' a b batch same p is = subst (λ (h : Head). IsBatch h b batch) (sym same) (record { few = is.few; rectime = is.rectime; each = arrivals_later head a b batch.rectime batch.arrivals p is.each })

-- a fill that is right for a history is right for each that begins with it
pub right_later : {D : Type 0} (a b : StoreView D) (done : BuiltFill) → IsPrefix a.history b.history → b.head ≡ a.head → b.exponent ≡ a.exponent → IsRightFor a done → IsRightFor b done
right_later a b done p head exponent is =
    let P : Head → ℕ → List Item → Type 0 = λ h e l. ((done.mdb ≡ database_in h.mdb (prefix done.base l)) × (done.exponent ≡ e)) × IsRightFill e h.mdb l done.interval done.base done.set in
    let below : prefix done.base (a.history ++ p.0) ≡ prefix done.base a.history = take-append-le done.base a.history p.0 is.1.may.within in
    let here : P a.head a.exponent (a.history ++ p.0) = (
      (is.0.0 ∙ ap (database_in a.head.mdb) (sym below), is.0.1),
      right_fill_stays a.exponent a.head.mdb a.history p.0 done.interval done.base done.set is.1,
    ) in
    subst (P b.head b.exponent) p.1 (subst (λ (e : ℕ). P b.head e (a.history ++ p.0)) (sym exponent) (subst (λ (h : Head). P h a.exponent (a.history ++ p.0)) (sym head) here))
