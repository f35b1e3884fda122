use Rattle.std.proofs.Common.{◌≡◌, ◌⊎◌, ◌↔◌, ℕ, ◌<◌, List, ◌++◌, sym, ap, ◌∙◌, subst, arith}
use Rattle.std.specs.Prelude.{Contains, IfOk}
use Rattle.arch_types.specs.declared.row.Row.{Row}
use Rattle.archive_history.proofs.Steps.{if_ok}
use Rattle.history_items.specs.Items.{rows_in}
use Rattle.partitions.specs.declared.partition.Partition.{Partition}
use Rattle.partitions.specs.Bounds.{MayHold}
use Rattle.partitions.specs.Counts.{PartitionCountsView, rows_counted}
use Rattle.partitions.specs.Rows.{partitions_of}
use Rattle.run_pages.specs.Placed.{rows_of_placed}
use Rattle.sealed_history.specs.SealedHistory.{SealedHistoryView, counted_in_table, counted_rows, rows_told}
use Rattle.sealed_history.proofs.TableRows.{either, none_in_runs, partitions_in, table_sums}
use Rattle.sealed_history.proofs.history.SealedHistory.pruned.Goals as goal

pub returns-then-count-eq0-clause-exactly : goal.returns-then-count-eq0-clause-exactly
returns-then-count-eq0-clause-exactly c =
    let s = c.self.inside in
    let t = c.args.table in
    let none : s.sums.count ≡ 0 = omega (arith, c.count.ensures, c.if-count-eq0.true) in
    let runs = none_in_runs (rows_told s.told.items) s.base s.sums s.log c.self.invariant none in
    let same : rows_in s.log.items ≡ counted_rows c.args.self.now =
    ap (λ (l : List Row). l ++ rows_in s.log.items) (sym runs) ∙ ap counted_rows c.self.view_is in
    subst (λ (l : List Row). (p : Partition) → Contains c.in_ok-of_log.of_log p ↔ (Contains (partitions_in t l) p × MayHold c.args.bounds.now p)) same c.in_ok-of_log.ensures.exactly

pub returns-clause-exactly : goal.returns-clause-exactly
returns-clause-exactly c =
    let s = c.self.inside in
    let t = c.args.table in
    let bounds = c.args.bounds.now in
    let runs = rows_of_placed (rows_told s.told.items) in
    let log = rows_in s.log.items in
    let within : t < s.log.tables = omega (arith, c.requires, ap (λ (v : SealedHistoryView). v.tables) c.self.view_is) in
    let those = table_sums (rows_told s.told.items) s.base s.sums s.log c.tables.result.now t c.index-tables-table.result c.self.invariant c.tables.ensures within c.index-tables-table.is in
    let in_runs : (p : Partition) → Contains c.in_ok-of_runs.of_runs p ↔ (Contains (partitions_in t runs) p × MayHold bounds p) =
    c.in_ok-of_runs.ensures.exactly (partitions_in t runs) (λ p. ap (λ (counted : PartitionCountsView). rows_counted counted.counts p) c.partitions.ensures ∙ those.partitions p) in
    if_ok c.merged_parts.result
    (λ parts. (p : Partition) → Contains parts p ↔ (Contains c.in_ok-of_runs.of_runs p ⊎ Contains c.in_ok-of_log.of_log p))
    (λ parts. (p : Partition) → Contains parts p ↔ (Contains (partitions_of (counted_in_table t c.args.self.now)) p × MayHold bounds p))
    (λ parts both p.
    subst (λ (l : List Row). Contains parts p ↔ (Contains (partitions_in t l) p × MayHold bounds p)) (ap counted_rows c.self.view_is)
    (either t runs log c.in_ok-of_runs.of_runs c.in_ok-of_log.of_log parts (MayHold bounds) in_runs c.in_ok-of_log.ensures.exactly both p))
    c.merged_parts.ensures.both
