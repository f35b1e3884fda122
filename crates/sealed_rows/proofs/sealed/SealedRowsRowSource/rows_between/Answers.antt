use Rattle.std.proofs.Common.{◌≡◌, ap, ◌∙◌, w64}
use Rattle.std.specs.Prelude.{filter}
use Rattle.std.proofs.lemmas.Int.{to_z-of_z}
use Rattle.partitions.specs.Rows.{is_of_parts}
use Rattle.replay_merge.specs.RowSource.{range_of_parts}
use Rattle.sealed_rows.specs.Rows.{rows_below, rows_of_runs}
use Rattle.sealed_rows.specs.Sealed.{sealed_state}
use Rattle.sealed_rows.proofs.Faults.{still_sealed, when_told}
use Rattle.sealed_rows.proofs.KeptRows.{given_kept, kept_in_order, kept_of_parts}
use Rattle.sealed_rows.proofs.sealed.SealedRowsRowSource.rows_between.Goals as goal

pub returns-clause-told : goal.returns-clause-told
returns-clause-told g c =
    let device = g.D.Disk.device in
    let inside = c.self.inside in
    let low = to_z-of_z w64 c.args.from c.ranges.from in
    let high = to_z-of_z w64 c.args.to c.ranges.to in
    let placed = rows_of_runs (device.reads inside.disk.now) inside.runs.now in
    rw (← c.self.view_is) (when_told device.is_transparent (rows_below placed) (λ history. c.keep_parts.result ≡ range_of_parts c.args.table c.args.parts.now c.args.from c.args.to (history c.args.front)) (λ transparent.
    c.keep_parts.ensures ∙ ap (filter (is_of_parts c.args.parts.now)) ((rw (low, high) at c.in_ok-rows.ensures.rows) transparent)))

pub returns-clause-given : goal.returns-clause-given
returns-clause-given g c =
    let inside = c.self.inside in
    rw (← c.self.view_is) (given_kept (sealed_state g.D.Disk.device inside.runs.now inside.disk.now).may_give (is_of_parts c.args.parts.now) c.in_ok-rows.rows c.keep_parts.result c.keep_parts.ensures c.in_ok-rows.ensures.given)

pub returns-clause-each : goal.returns-clause-each
returns-clause-each g c =
    let low = to_z-of_z w64 c.args.from c.ranges.from in
    let high = to_z-of_z w64 c.args.to c.ranges.to in
    kept_of_parts c.args.table c.args.front c.args.parts.now c.args.from c.args.to c.in_ok-rows.rows c.keep_parts.result c.keep_parts.ensures
    (rw (low, high) at c.in_ok-rows.ensures.each)

pub returns-clause-in_key_order : goal.returns-clause-in_key_order
returns-clause-in_key_order g c = kept_in_order c.args.table c.args.front c.args.parts.now c.args.from c.args.to c.in_ok-rows.rows c.keep_parts.result c.keep_parts.ensures c.in_ok-rows.ensures.rising

pub invariant_of-self : goal.invariant_of-self
invariant_of-self g c = still_sealed g.D.Disk.device c.self.inside.runs.now c.self.inside.disk.now c.read_runs.new.disk c.in_err-rows.ensures.looked c.self.invariant

pub invariant_of-self-2 : goal.invariant_of-self-2
invariant_of-self-2 g c = still_sealed g.D.Disk.device c.self.inside.runs.now c.self.inside.disk.now c.read_runs.new.disk c.in_ok-rows.ensures.looked c.self.invariant
