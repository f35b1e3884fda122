use Rattle.std.proofs.Common.{◌≡◌, ◌++◌, true, List, arith, sym, subst, ap, ◌∙◌}
use Rattle.std.specs.List.{list_any}
use Rattle.std.proofs.lemmas.List.{append-nil, drop_all}
use Rattle.intervals.specs.declared.interval.Interval.{Interval}
use Rattle.history_items.specs.Fills.{is_same}
use Rattle.archive_store.specs.Marks.{marked_intervals}
use Rattle.archive_store.proofs.store.Store.marks.Goals as goal

pub returns-clause-cover : goal.returns-clause-cover
returns-clause-cover g c = λ i position stands.
    let marks : List Interval = marked_intervals c.loop-interval.marks.items in
    let intervals : List Interval = c.as_slice-interval-items.result.now in
    let none = drop_all c.loop-interval.interval-index intervals (omega (arith)) in
    let all = sym (append-nil marks) ∙ sym (ap (λ (l : List Interval). marks ++ l) none) ∙ c.loop-interval.invariant.intervals in
    subst (λ (is : List Interval). list_any (is_same i) is ≡ true) (sym (all ∙ c.as_slice-interval-items.ensures.value))
    (c.in_ok-intervals.ensures.cover i position stands)
