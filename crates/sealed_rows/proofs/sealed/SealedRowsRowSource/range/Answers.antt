use Rattle.std.proofs.Common.{◌≡◌, w64}
use Rattle.std.specs.List.{AllByRecursion}
use Rattle.std.proofs.lemmas.Int.{to_z-of_z}
use Rattle.arch_types.specs.Table.{range_of}
use Rattle.replay_merge.specs.RowSource.{AreRowsIn, IsRowIn}
use Rattle.replay_merge.proofs.Giving.{each_follows}
use Rattle.joined_rows.specs.Rising.{HaveRisingKeys}
use Rattle.sealed_rows.specs.Rows.{rows_below, rows_of_runs}
use Rattle.sealed_rows.specs.Wanted.{IsRowWanted}
use Rattle.sealed_rows.specs.declared.wanted.Times.TheVariants.{Between}
use Rattle.sealed_rows.specs.declared.wanted.Wanted.{Wanted}
use Rattle.sealed_rows.proofs.Faults.{ok_both, still_sealed, told_result}
use Rattle.sealed_rows.proofs.sealed.SealedRowsRowSource.range.Goals as goal

pub returns-clause-told : goal.returns-clause-told
returns-clause-told g c =
    let device = g.D.Disk.device in
    let inside = c.self.inside in
    let low = to_z-of_z w64 c.args.from c.ranges.from in
    let high = to_z-of_z w64 c.args.to c.ranges.to in
    let placed = rows_of_runs (device.reads inside.disk.now) inside.runs.now in
    rw (← c.self.view_is) (told_result c.read_runs.result device.is_transparent (rows_below placed) (λ rows history. rows ≡ range_of c.args.table c.args.from c.args.to (history c.args.front)) (rw (low, high) at c.read_runs.ensures.rows))

pub returns-clause-each : goal.returns-clause-each
returns-clause-each g c =
    let low = to_z-of_z w64 c.args.from c.ranges.from in
    let high = to_z-of_z w64 c.args.to c.ranges.to in
    let wanted : Wanted = record { table = c.args.table; times = Between c.args.from c.args.to; front = c.args.front } in
    ok_both c.read_runs.result (AllByRecursion (IsRowWanted wanted)) HaveRisingKeys (AreRowsIn c.args.table c.args.from c.args.to)
    (λ rows each rising. record {
      each = each_follows (IsRowWanted wanted) (IsRowIn c.args.table c.args.from c.args.to) (λ row is. record { keyed = is.keyed; in_table = is.in_table; in_range = is.in_times }) rows each;
      rising = rising;
    }) (rw (low, high) at c.read_runs.ensures.each) c.read_runs.ensures.rising

pub invariant_of-self : goal.invariant_of-self
invariant_of-self g c = still_sealed g.D.Disk.device c.self.inside.runs.now c.self.inside.disk.now c.read_runs.new.disk c.read_runs.ensures.looked c.self.invariant
