use Rattle.std.proofs.Common.{subst, sym}
use Rattle.partitions.specs.Partitions.{AreRising}
use Rattle.replay_merge.proofs.Reading.{rising_first, rising_rest}
use Rattle.ssql_select.proofs.DaySplits.{forwards, backwards}
use Rattle.ssql_select.proofs.days.split_day.Goals as goal

pub returns-in-Ascending-clause-day : goal.returns-in-Ascending-clause-day
returns-in-Ascending-clause-day c = subst AreRising (sym c.split_at.ensures.front) (rising_first c.first_day.result c.args.parts.now c.requires.rising)

pub returns-in-Ascending-clause-rest : goal.returns-in-Ascending-clause-rest
returns-in-Ascending-clause-rest c = subst AreRising (sym c.split_at.ensures.back) (rising_rest c.first_day.result c.args.parts.now c.requires.rising)

pub returns-in-Ascending-clause-rows : goal.returns-in-Ascending-clause-rows
returns-in-Ascending-clause-rows c = λ rows in_order.
    rw c.in-Ascending.is (forwards c.args.parts.now c.split_at.result.0.now c.split_at.result.1.now c.first_day.result c.first_day.ensures.day c.split_at.ensures.front c.split_at.ensures.back rows in_order)

pub returns-in-Descending-clause-day : goal.returns-in-Descending-clause-day
returns-in-Descending-clause-day c = subst AreRising (sym c.split_at-in-Descending.ensures.back) (rising_rest c.before_last_day.result c.args.parts.now c.requires.rising)

pub returns-in-Descending-clause-rest : goal.returns-in-Descending-clause-rest
returns-in-Descending-clause-rest c = subst AreRising (sym c.split_at-in-Descending.ensures.front) (rising_first c.before_last_day.result c.args.parts.now c.requires.rising)

pub returns-in-Descending-clause-rows : goal.returns-in-Descending-clause-rows
returns-in-Descending-clause-rows c = λ rows in_order.
    rw c.in-Descending.is (backwards c.args.parts.now c.split_at-in-Descending.result.0.now c.split_at-in-Descending.result.1.now c.before_last_day.result c.before_last_day.ensures.day c.split_at-in-Descending.ensures.front c.split_at-in-Descending.ensures.back rows in_order)
