-- Rows of a table, in runs and in a log.
use Rattle.std.proofs.Common.{◌≡◌, ◌⊎◌, inl, inr, ◌↔◌, ℕ, ◌<◌, List, [], ◌∷◌, ◌++◌, length, map, get_or, refl, sym, ap, ◌∙◌, subst, arith}
use Rattle.std.specs.Prelude.{Contains, filter, slice_get, Some}
use Rattle.std.proofs.lemmas.List.{map-append}
use Rattle.std.proofs.lemmas.List.Elements.{Contains-append_cases, Contains-append_left, Contains-append_right, filter-append}
use Rattle.std.proofs.lemmas.Option.{slice_get_read}
use Rattle.arch_types.specs.declared.row.Row.{Row}
use Rattle.arch_types.specs.History.{is_in_table}
use Rattle.archive_history.specs.History.{HistoryView}
use Rattle.partitions.specs.declared.partition.Partition.{Partition}
use Rattle.partitions.specs.Partition.{partition_of}
use Rattle.partitions.specs.Rows.{partitions_of}
use Rattle.run_pages.specs.Placed.{Placed, rows_of_placed}
use Rattle.sealed_sums.specs.Sums.{SumsView}
use Rattle.sealed_sums.specs.TableSums.{AreTableSumsOf, TableSumsView}
use Rattle.sealed_history.specs.Inside.{AreTogether}

-- what the rows of a table in runs come to
pub table_sums : (placed : List Placed) (base : ℕ) (sums : SumsView) (log : HistoryView) (tables : List TableSumsView) (table : ℕ) (those : TableSumsView) → AreTogether placed base sums log → tables ≡ sums.tables → table < log.tables
    → those ≡ get_or tables table those → AreTableSumsOf (filter (is_in_table table) (rows_of_placed placed)) those
table_sums placed base sums log tables table those are same within is =
    let few : length tables ≡ log.tables = ap length same ∙ are.tables in
    let at : slice_get tables table ≡ Some those = slice_get_read tables (length tables) table those refl (omega (arith, few, within)) is in
    are.sums_are.tables table those (subst (λ (l : List TableSumsView). slice_get l table ≡ Some those) same at)

-- without a row in runs there are those of the log
pub none_in_runs : (placed : List Placed) (base : ℕ) (sums : SumsView) (log : HistoryView) → AreTogether placed base sums log → sums.count ≡ 0 → rows_of_placed placed ≡ []
none_in_runs placed base sums log are none = by (rows_of_placed placed) (sym are.sums_are.count ∙ none)
  where
    by : (rows : List Row) → length rows ≡ 0 → rows ≡ []
    by [] empty = refl
    by (row ∷ rows) empty = absurd (omega (arith, empty))

-- the partitions of rows of a table
abbrev pub partitions_in : ℕ → List Row → List Partition
partitions_in table rows = partitions_of (filter (is_in_table table) rows)

pub partitions_both : (table : ℕ) (runs log : List Row) → partitions_in table (runs ++ log) ≡ partitions_in table runs ++ partitions_in table log
partitions_both table runs log =
    ap partitions_of (filter-append (is_in_table table) runs log)
    ∙ map-append (λ (row : Row). partition_of row.key.time row.pname) (filter (is_in_table table) runs) (filter (is_in_table table) log)

-- a partition of either is one of both
pub either : (table : ℕ) (runs log : List Row) (of_runs of_log parts : List Partition) (P : Partition → Type 0) → ((p : Partition) → Contains of_runs p ↔ (Contains (partitions_in table runs) p × P p)) → ((p : Partition) → Contains of_log p ↔ (Contains (partitions_in table log) p × P p))
    → ((p : Partition) → Contains parts p ↔ (Contains of_runs p ⊎ Contains of_log p)) → (p : Partition) → Contains parts p ↔ (Contains (partitions_in table (runs ++ log)) p × P p)
either table runs log of_runs of_log parts P in_runs in_log both p = (to, from)
  where
    there : Contains (partitions_in table runs ++ partitions_in table log) p → Contains (partitions_in table (runs ++ log)) p
    there has = subst (λ (l : List Partition). Contains l p) (sym (partitions_both table runs log)) has

    from_either : Contains of_runs p ⊎ Contains of_log p → Contains (partitions_in table (runs ++ log)) p × P p
    from_either (inl first) = let has = (in_runs p).0 first in (there (Contains-append_left (partitions_in table runs) (partitions_in table log) p has.0), has.1)
    from_either (inr second) = let has = (in_log p).0 second in (there (Contains-append_right (partitions_in table runs) (partitions_in table log) p has.0), has.1)

    to : Contains parts p → Contains (partitions_in table (runs ++ log)) p × P p
    to has = from_either ((both p).0 has)

    to_either : Contains (partitions_in table runs) p ⊎ Contains (partitions_in table log) p → P p → Contains parts p
    to_either (inl first) may = (both p).1 (inl ((in_runs p).1 (first, may)))
    to_either (inr second) may = (both p).1 (inr ((in_log p).1 (second, may)))

    from : Contains (partitions_in table (runs ++ log)) p × P p → Contains parts p
    from has = to_either (Contains-append_cases (partitions_in table runs) (partitions_in table log) p (subst (λ (l : List Partition). Contains l p) (partitions_both table runs log) has.0)) has.1
