use Rattle.std.proofs.Common.{[], ap, arith}
use Rattle.archive_history.specs.LimitCounts.{LimitCountsView}
use Rattle.sealed_sums.proofs.Summing.{sums_none}
use Rattle.sealed_sums.proofs.sums.SealedSums.new.Goals as goal

pub invariant_of-result : goal.invariant_of-result
invariant_of-result c = record {
  rows = [];
  are = sums_none c.args.exponent c.in_ok-new.field-0 c.in_ok-empty_tables.field-0.items c.in_ok-new.ensures c.in_ok-empty_tables.ensures.empty;
  small = omega (arith, ap (λ (v : LimitCountsView). v.octets) c.in_ok-new.ensures);
}

pub returns-clause-none : goal.returns-clause-none
returns-clause-none c = sums_none c.args.exponent c.in_ok-new.field-0 c.in_ok-empty_tables.field-0.items c.in_ok-new.ensures c.in_ok-empty_tables.ensures.empty
