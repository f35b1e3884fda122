-- A table that is read whole.
use Rattle.std.proofs.Common.{◌≡◌, ℕ, ◌≤◌, List, [], ◌∷◌, true, Bool, ap, refl, arith}
use Rattle.std.specs.Prelude.{filter, nat_lt, ◌^◌}
use Rattle.std.specs.List.{AllByRecursion}
use Rattle.std.proofs.lemmas.Bool.Decides.{nat_tests}
use Rattle.arch_types.specs.History.{is_in_table}
use Rattle.arch_types.specs.Table.{sorted, table_of}
use Rattle.yarch_table.specs.declared.table.Stored.{Stored}
use Rattle.yarch_table.specs.Stored.{rows_of, seen_at}
use Rattle.dump_lines.specs.DumpTable.{IsVisible}

-- a filter that all items pass
filter-all : {X : Type 0} (q : X → Bool) (xs : List X) → AllByRecursion (λ x. q x ≡ true) xs → filter q xs ≡ xs
filter-all q [] all = refl
filter-all q (x ∷ xs) all = rw (all.0, filter-all q xs all.1)

positions_low : (front : ℕ) (stored : List Stored) → 2 ^ 32 ≤ front → AllByRecursion IsVisible stored → AllByRecursion (λ s. nat_lt s.position front ≡ true) stored
positions_low front [] h all = tt
positions_low front (s ∷ stored) h all = (let low = all.0.0 in grind (arith, nat_tests), positions_low front stored h all.1)

rows_in_table : (stored : List Stored) → AllByRecursion IsVisible stored → AllByRecursion (λ row. is_in_table 0 row ≡ true) (rows_of stored)
rows_in_table [] all = tt
rows_in_table (s ∷ stored) all = (let is = all.0.1 in grind (arith, nat_tests), rows_in_table stored all.1)

-- all stored rows, in the order of their keys
pub seen-all : (front : ℕ) (stored : List Stored) → 2 ^ 32 ≤ front → AllByRecursion IsVisible stored → seen_at front stored ≡ sorted (rows_of stored)
seen-all front stored h all =
    ap (λ (kept : List Stored). sorted (rows_of kept)) (filter-all (λ s. nat_lt s.position front) stored (positions_low front stored h all))

-- they are the rows of table 0
pub table-all : (stored : List Stored) → AllByRecursion IsVisible stored → table_of 0 (rows_of stored) ≡ sorted (rows_of stored)
table-all stored all = ap sorted (filter-all (is_in_table 0) (rows_of stored) (rows_in_table stored all))
