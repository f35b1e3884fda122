use Rattle.std.proofs.Common.{rules, ◌≡◌, ◌++◌, [], ◌∷◌, List, length, pos, sym, ap, subst, ◌∙◌, arith}
use Rattle.std.specs.List.{AllByRecursion}
use Rattle.archive_store.specs.Batches.{IsArrival}
use Rattle.archive_store.specs.declared.batch.Arrival.{Arrival}
use Rattle.live_tests.proofs.parts.batch.Goals as goal

pub returns-in-Ok : goal.returns-in-Ok
returns-in-Ok c = λ head history names.
    let arrival = c.in_ok-arrival.arrival in
    let one : c.push.new.self ≡ arrival ∷ [] = c.in-Ok.ensures.ok ∙ ap (λ (l : List Arrival). l ++ arrival ∷ []) c.new-arrivals.ensures in
    record {
      few = omega (arith, ap length one);
      rectime = search rules;
      each = subst (AllByRecursion (IsArrival head history (pos 9000))) (sym one) (c.in_ok-arrival.ensures head history names, tt);
    }
