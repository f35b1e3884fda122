use Rattle.std.proofs.Common.{◌≡◌, ◌∙◌, ◌+◌, ◌++◌, ◌∷◌, List, drop, ap, sym, subst, append_assoc}
use Rattle.std.proofs.lemmas.List.{drop_all, drop_more}
use Rattle.intervals.specs.declared.interval.Interval.{Interval}
use Rattle.history_items.specs.declared.fills.Fill.{Fill}
use Rattle.store_shelf.specs.Renewing.{AreStoreMarksBut, filled_interval, filled_intervals}
use Rattle.store_shelf.proofs.contents.renew_filled.Goals as goal

pub loop-fill-preserved : goal.loop-fill-preserved
loop-fill-preserved g c = record {
  rest = λ others but.
      let s = c.args.store.now in
      let all = c.args.fills.now in
      let k = c.loop-fill.fill-index in
      let item = c.fill-item.result in
      let behind : List Interval = filled_intervals (drop (k + 1) all) in
      let here : filled_intervals (drop k all) ++ others ≡ filled_interval item ++ (behind ++ others) =
      ap (λ (l : List Fill). filled_intervals l ++ others) (drop_more all k item c.loop-fill-test.true ∙ ap (λ (f : Fill). f ∷ drop (k + 1) all) (sym c.fill-item.is))
      ∙ append_assoc (filled_interval item) behind others in
      c.in_ok-renew_fill.ensures (behind ++ others)
      (subst (λ (l : List Interval). AreStoreMarksBut g.D.Disk.device s l c.loop-fill.marks) here (c.loop-fill.invariant.rest others but));
}

pub returns : goal.returns
returns g c = λ others but.
    let s = c.args.store.now in
    let none = drop_all c.loop-fill.fill-index c.args.fills.now c.loop-fill-test.false in
    subst (λ (l : List Fill). AreStoreMarksBut g.D.Disk.device s (filled_intervals l ++ others) c.loop-fill.marks) none (c.loop-fill.invariant.rest others but)
