use Rattle.std.proofs.lemmas.Result.{IfOk-weaker}
use Rattle.partitions.proofs.Members.{exactly_by, none_rise}
use Rattle.partitions.proofs.Exactly.{all_exactly, named_exactly}
use Rattle.partitions.proofs.partitions.Partitions.pruned.Goals as goal

pub returns-in_ok-names-in-Some-clause-exactly : goal.returns-in_ok-names-in-Some-clause-exactly
returns-in_ok-names-in-Some-clause-exactly c =
    let means = named_exactly c.args.bounds.now c.of-days.result c.of-days.ensures.exactly c.in-Some.names c.in_ok-names-in-Some.names c.in-Some.is (rw c.as_slice.ensures at c.in_ok-names-in-Some.ensures) in
    (IfOk-weaker c.of_names.result _ _ (λ given is. exactly_by given c.args.self.now.noted means is) c.of_names.ensures.exactly)

pub returns-in-None-clause-exactly : goal.returns-in-None-clause-exactly
returns-in-None-clause-exactly c =
    let means = all_exactly c.args.bounds.now c.of-days.result c.of-days.ensures.exactly c.in-None.is in
    (IfOk-weaker c.on_days.result _ _ (λ given is. exactly_by given c.args.self.now.noted means is) c.on_days.ensures.exactly)

pub returns-then-bounds-clause-rising : goal.returns-then-bounds-clause-rising
returns-then-bounds-clause-rising c = rw c.new.ensures none_rise
