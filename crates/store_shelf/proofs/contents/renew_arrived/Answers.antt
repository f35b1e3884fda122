use Rattle.std.proofs.Common.{◌≡◌, ◌∙◌, ◌+◌, ◌++◌, ◌∷◌, ℕ, ℤ, List, Option, drop, ap, sym, subst, rules, FitsSigned}
use Rattle.std.specs.Int.{w64}
use Rattle.std.specs.Option.{option_to_list}
use Rattle.std.proofs.lemmas.Int.{to_z-of_z}
use Rattle.std.proofs.lemmas.List.{drop_all, drop_more}
use Rattle.intervals.specs.declared.interval.Interval.{Interval}
use Rattle.intervals.specs.Interval.{interval_of}
use Rattle.archive_store.specs.declared.batch.Arrival.{Arrival}
use Rattle.store_shelf.specs.Renewing.{AreStoreMarksBut, arrived_intervals, interval_at}
use Rattle.store_shelf.proofs.Renewing.{where_ok}
use Rattle.store_shelf.proofs.contents.renew_arrived.Goals as goal

pub loop-arrival-preserved : goal.loop-arrival-preserved
loop-arrival-preserved g c = record {
  rest = λ others but.
      let s = c.args.store.now in
      let all = c.args.arrivals.now in
      let k = c.loop-arrival.arrival-index in
      let item = c.arrival-item.result in
      let behind : List Interval = arrived_intervals s.exponent (drop (k + 1) all) in
      let fits : FitsSigned w64 item.row.key.time = search rules in
      let next : interval_at s.exponent item.row.key.time ≡ c.at-next.result =
      ap (λ (n : ℤ). let i : Interval = record { 0 = n } in i)
      (sym (c.at-next.ensures ∙ ap (interval_of c.exponent-exponent.result) (to_z-of_z w64 item.row.key.time fits) ∙ ap (λ (e : ℕ). interval_of e item.row.key.time) c.exponent-exponent.ensures)) in
      let here : arrived_intervals s.exponent (drop k all) ≡ c.at-next.result ∷ behind =
      ap (arrived_intervals s.exponent) (drop_more all k item c.loop-arrival-test.true ∙ ap (λ (a : Arrival). a ∷ drop (k + 1) all) (sym c.arrival-item.is))
      ∙ ap (λ (i : Interval). i ∷ behind) next in
      c.in_ok-renew_before.ensures (behind ++ others)
      (subst (λ (l : List Interval). AreStoreMarksBut g.D.Disk.device s (option_to_list c.loop-arrival.waiting ++ (l ++ others)) c.loop-arrival.marks) here (c.loop-arrival.invariant.rest others but));
}

pub returns-in-Some : goal.returns-in-Some
returns-in-Some g c = where_ok c.renew.result c.renew.ensures (λ renews others but.
    let s = c.args.store.now in
    let none = drop_all c.loop-arrival.arrival-index c.args.arrivals.now c.loop-arrival-test.false in
    let left = subst (λ (l : List Arrival). AreStoreMarksBut g.D.Disk.device s (option_to_list c.loop-arrival.waiting ++ (arrived_intervals s.exponent l ++ others)) c.loop-arrival.marks) none (c.loop-arrival.invariant.rest others but) in
    renews others (subst (λ (w : Option Interval). AreStoreMarksBut g.D.Disk.device s (option_to_list w ++ others) c.loop-arrival.marks) c.in-Some.is left))

pub returns-in-None : goal.returns-in-None
returns-in-None g c = λ others but.
    let s = c.args.store.now in
    let none = drop_all c.loop-arrival.arrival-index c.args.arrivals.now c.loop-arrival-test.false in
    let left = subst (λ (l : List Arrival). AreStoreMarksBut g.D.Disk.device s (option_to_list c.loop-arrival.waiting ++ (arrived_intervals s.exponent l ++ others)) c.loop-arrival.marks) none (c.loop-arrival.invariant.rest others but) in
    subst (λ (w : Option Interval). AreStoreMarksBut g.D.Disk.device s (option_to_list w ++ others) c.loop-arrival.marks) c.in-None.is left
