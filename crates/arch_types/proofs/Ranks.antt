-- The order of keys is total, and ranks rows.
use Rattle.std.specs.Cmp.{IsStrictWeakOrder, IsTotalOrder, then_total, on_total, int_cmp_total, nat_cmp_total}
use Rattle.std.proofs.lemmas.List.Sorted.{ranks_by}
use Rattle.arch_types.specs.declared.row.Row.{Row}
use Rattle.arch_types.specs.declared.key.Key.{Key}
use Rattle.arch_types.specs.Order.{key_cmp, is_before}

pub key_cmp_total : IsTotalOrder key_cmp
key_cmp_total = then_total (on_total (λ (k : Key). k.time) int_cmp_total) (on_total (λ (k : Key). k.seq) nat_cmp_total)

-- the key of rows ranks them
pub rows_rank : IsStrictWeakOrder is_before
rows_rank = ranks_by key_cmp_total (λ (r : Row). r.key)
