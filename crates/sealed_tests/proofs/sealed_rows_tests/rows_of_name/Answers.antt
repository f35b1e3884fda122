use Rattle.std.proofs.Common.{refl}
use Rattle.std.specs.List.Sorted.{IsStrictlySortedBy}
use Rattle.sealed_tests.proofs.sealed_rows_tests.rows_of_name.Goals as goal

pub rows_between-requires : goal.rows_between-requires
unfolding IsStrictlySortedBy
rows_between-requires g c = ((refl, tt), (tt, tt))
