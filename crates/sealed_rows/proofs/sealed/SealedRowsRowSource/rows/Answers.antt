use Rattle.std.proofs.Common.{◌≡◌, ◌∷◌, [], List, ap, sym, ◌∙◌, subst, w64, SFits, rules}
use Rattle.std.proofs.lemmas.Int.{to_z-of_z}
use Rattle.std.specs.Prelude.{filter}
use Rattle.arch_types.specs.Table.{table_of}
use Rattle.partitions.specs.declared.partition.Partition.{Partition}
use Rattle.partitions.specs.Partitions.{AreRising}
use Rattle.partitions.specs.Rows.{is_of_partition, is_of_parts}
use Rattle.replay_merge.specs.RowSource.{rows_of_partition}
use Rattle.sealed_rows.specs.Rows.{rows_below, rows_of_runs}
use Rattle.sealed_rows.specs.Sealed.{sealed_state}
use Rattle.sealed_rows.specs.Wanted.{is_in_times}
use Rattle.sealed_rows.specs.declared.wanted.Wanted.{Wanted}
use Rattle.sealed_rows.proofs.Days.{filter_within, its_day, of_one, one_rises}
use Rattle.sealed_rows.proofs.Faults.{still_sealed, when_told}
use Rattle.sealed_rows.proofs.KeptRows.{given_kept, kept_of_partition}
use Rattle.sealed_rows.proofs.sealed.SealedRowsRowSource.rows.Goals as goal

pub returns-clause-told : goal.returns-clause-told
returns-clause-told g c =
    let device = g.D.Disk.device in
    let inside = c.self.inside in
    let partition = c.args.partition.now in
    let times = c.times_of_day-times.result in
    let placed = rows_of_runs (device.reads inside.disk.now) inside.runs.now in
    let kept = c.keep_parts.ensures ∙ ap (λ (parts : List Partition). filter (is_of_parts parts) c.in_ok-rows.rows) c.from_ref.ensures.value in
    let fits : SFits w64 partition.day = search rules in
    let on_day = rw (to_z-of_z w64 partition.day fits) at c.times_of_day-times.ensures in
    rw (← c.self.view_is) (when_told device.is_transparent (rows_below placed) (λ history. c.keep_parts.result ≡ rows_of_partition c.args.table partition (history c.args.front)) (λ transparent.
    (let table = table_of c.args.table (rows_below placed c.args.front) in
    kept ∙ ap (filter (is_of_parts (partition ∷ []))) (c.in_ok-rows.ensures.rows transparent) ∙ of_one partition (filter (is_in_times times) table)
    ∙ filter_within (is_in_times times) (is_of_partition partition) (λ row is. on_day row (its_day partition row is)) table)))

pub returns-clause-given : goal.returns-clause-given
returns-clause-given g c =
    let inside = c.self.inside in
    rw (← c.self.view_is) (given_kept (sealed_state g.D.Disk.device inside.runs.now inside.disk.now).may_give (is_of_parts c.from_ref.result.now) c.in_ok-rows.rows c.keep_parts.result c.keep_parts.ensures c.in_ok-rows.ensures.given)

pub returns-clause-each : goal.returns-clause-each
returns-clause-each g c =
    let partition = c.args.partition.now in
    let wanted : Wanted = record { table = c.args.table; times = c.times_of_day-times.result; front = c.args.front } in
    let kept = c.keep_parts.ensures ∙ ap (λ (parts : List Partition). filter (is_of_parts parts) c.in_ok-rows.rows) c.from_ref.ensures.value ∙ of_one partition c.in_ok-rows.rows in
    kept_of_partition wanted partition c.in_ok-rows.rows c.keep_parts.result kept c.in_ok-rows.ensures.each c.in_ok-rows.ensures.rising

pub invariant_of-self : goal.invariant_of-self
invariant_of-self g c = still_sealed g.D.Disk.device c.self.inside.runs.now c.self.inside.disk.now c.read_runs.new.disk c.in_err-rows.ensures.looked c.self.invariant

pub invariant_of-self-2 : goal.invariant_of-self-2
invariant_of-self-2 g c = still_sealed g.D.Disk.device c.self.inside.runs.now c.self.inside.disk.now c.read_runs.new.disk c.in_ok-rows.ensures.looked c.self.invariant

pub keep_parts-requires : goal.keep_parts-requires
keep_parts-requires g c = subst AreRising (sym c.from_ref.ensures.value) (one_rises c.args.partition.now)
