use Rattle.std.proofs.Common.{◌≡◌, ◌∷◌, ◌++◌, Option, ℤ, ap, subst, arith}
use Rattle.std.specs.Option.{option_to_list}
use Rattle.std.proofs.lemmas.Int.{ints}
use Rattle.intervals.specs.declared.interval.Interval.{Interval}
use Rattle.store_shelf.specs.Publications.{staying_of}
use Rattle.store_shelf.specs.Renewing.{AreStoreMarksBut}
use Rattle.store_shelf.proofs.Renewing.{among_once, left_more, where_ok}
use Rattle.store_shelf.proofs.contents.renew_before.Goals as goal

pub returns-then-interval-next : goal.returns-then-interval-next
returns-then-interval-next g c = λ others but.
    let s = c.args.store.now in
    let numbers : c.in-Some.interval.0 ≡ c.args.next.0 = grind (arith, ints, c.if-interval-next.true) in
    let same : c.in-Some.interval ≡ c.args.next = ap (λ (n : ℤ). let i : Interval = record { 0 = n } in i) numbers in
    let both = subst (λ (w : Option Interval). AreStoreMarksBut g.D.Disk.device s (option_to_list w ++ c.args.next ∷ others) c.args.marks.now) c.in-Some.is but in
    left_more (staying_of g.D.Disk.device s) s.history s.fills (c.args.next ∷ c.args.next ∷ others) (c.args.next ∷ others) c.args.marks.now (among_once c.args.next others)
    (subst (λ (i : Interval). AreStoreMarksBut g.D.Disk.device s (i ∷ c.args.next ∷ others) c.args.marks.now) same both)

pub returns : goal.returns
returns g c = where_ok c.renew.result c.renew.ensures (λ renews others but.
    renews (c.args.next ∷ others) (subst (λ (w : Option Interval). AreStoreMarksBut g.D.Disk.device c.args.store.now (option_to_list w ++ c.args.next ∷ others) c.args.marks.now) c.in-Some.is but))
