use Rattle.std.proofs.Common.{List, [], ◌∷◌, ◌++◌, ℤ, length, sym, ap, subst, arith, length-append, w64, to_z, of_z}
use Rattle.std.specs.List.{AllByRecursion}
use Rattle.std.proofs.lemmas.Int.{to_z-of_z}
use Rattle.archive_store.specs.Batches.{IsArrival}
use Rattle.archive_store_tests.proofs.parts.arrivals.Goals as goal

all_with_last : {X : Type 0} (P : X → Type 0) (xs : List X) (x : X) → AllByRecursion P xs → P x → AllByRecursion P (xs ++ x ∷ [])
all_with_last P [] x all here = (here, tt)
all_with_last P (y ∷ ys) x all here = (all.0, all_with_last P ys x all.1 here)

pub loop-number-preserved : goal.loop-number-preserved
loop-number-preserved c =
    let head = c.args.head.now in
    let rectime : ℤ = to_z w64 (of_z w64 c.args.rectime) in
    let arrivals = c.loop-number.arrivals in
    let arrival = c.in_ok-arrival.arrival in
    let pushed = c.in-Ok.ensures.ok in (
      omega (arith, ap length pushed, length-append arrivals (arrival ∷ []), c.loop-number.invariant.0),
      λ history. subst (AllByRecursion (IsArrival head history rectime)) (sym pushed)
          (all_with_last (IsArrival head history rectime) arrivals arrival (c.loop-number.invariant.1 history) (c.in_ok-arrival.ensures history)),
    )

pub returns-clause-each : goal.returns-clause-each
returns-clause-each c = λ history.
    subst (λ (t : ℤ). AllByRecursion (IsArrival c.args.head.now history t) c.loop-number.arrivals) (to_z-of_z w64 c.args.rectime c.ranges.rectime) (c.loop-number.invariant.1 history)
