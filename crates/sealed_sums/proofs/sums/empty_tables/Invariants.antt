use Rattle.std.proofs.Common.{◌≡◌, length, []}
use Rattle.std.specs.List.{AllByRecursion}
use Rattle.sealed_sums.specs.TableSums.{AreTableSumsOf}
use Rattle.sealed_sums.proofs.sums.empty_tables.Given as goal

abbrev pub invariant-loop : goal.invariant-loop
invariant-loop l = record {
  len : length l.tables.items ≡ l.counter;
  empty : AllByRecursion (AreTableSumsOf []) l.tables.items;
}
